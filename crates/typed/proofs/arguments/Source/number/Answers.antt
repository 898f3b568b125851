-- The line is cut, over, or goes on with a number.
use mathlib.Core.Path.{ap, ◌∙◌}
use Rattle.std.proofs.Common.{Err}
use Rattle.typed.specs.Arguments.{Value, counts, placed_at, number_at}
use Rattle.typed.proofs.WordLaws.{passed_up, said_cut, said_over, said_there}
use Rattle.typed.proofs.arguments.Source.number.Goals as goal

pub returns-in_err-word : goal.returns-in_err-word
unfolding number_at
returns-in_err-word c = passed_up _ c.from_residual.ensures.1 ∙ said_cut _ _ _ Err _ c.in_err-word.ensures _ _

pub returns-in_default : goal.returns-in_default
unfolding number_at
returns-in_default c = said_over _ _ _ (rw (c.in_default.is) at c.in_ok-word.ensures) _ _ _

pub returns : goal.returns
unfolding number_at
returns c =
    let word = c.in-Some.word in
    c.placed.ensures
    ∙ ap (λ (v : Value). placed_at v word.start word.end) c.counted-value.ensures
    ∙ said_there _ _ _ word (rw (c.in-Some.is) at c.in_ok-word.ensures) (λ start end bytes. placed_at (counts bytes) start end) _ _
