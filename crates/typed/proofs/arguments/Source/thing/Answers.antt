-- The word is there, and stands for something.
use mathlib.Core.Path.{ap, ◌∙◌}
use Rattle.std.proofs.Common.{Err}
use Rattle.typed.specs.Arguments.{Value, value_of, placed_at, thing_at}
use Rattle.typed.proofs.WordLaws.{passed_up, said_neither, said_there}
use Rattle.typed.proofs.arguments.Source.thing.Goals as goal

pub returns-in_err-word : goal.returns-in_err-word
unfolding thing_at
returns-in_err-word c = passed_up _ c.from_residual.ensures.1 ∙ said_neither _ _ _ Err _ c.in_err-word.ensures _

pub returns : goal.returns
unfolding thing_at
returns c =
    let word = c.in_ok-word.word in
    c.placed.ensures
    ∙ ap (λ (v : Value). placed_at v word.start word.end) c.stands_for-value.ensures
    ∙ said_there _ _ _ word c.in_ok-word.ensures (λ start end bytes. placed_at (value_of c.args.self.names.now c.args.sort bytes) start end) _ _
