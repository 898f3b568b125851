-- A blank line, or one that begins with a word.
use mathlib.Core.Path.{◌∙◌}
use Rattle.typed.specs.Grammar.{line_of}
use Rattle.typed.proofs.GrammarLaws.{raised, plain, next_cut, next_over, line_begun, line_other}
use Rattle.typed.proofs.arguments.Source.read_line.Goals as goal

pub returns-in_err-word : goal.returns-in_err-word
unfolding line_of
returns-in_err-word c =
    raised _ c.from_residual.ensures.1 ∙ next_cut _ _ _ _ c.in_err-word.ensures _ _

pub returns-in_default : goal.returns-in_default
unfolding line_of
returns-in_default c =
    plain _ ∙ next_over _ _ _ (rw (c.in_default.is) at c.in_ok-word.ensures) _ _

pub returns-in-Some-find : goal.returns-in-Some-find
returns-in-Some-find c =
    c.begun.ensures ∙ line_begun _ _ _ c.in-Some.word (rw (c.in-Some.is) at c.in_ok-word.ensures) _ c.in-Some-find.ensures

pub returns-in-None : goal.returns-in-None
returns-in-None c =
    c.read_request.ensures ∙ line_other _ _ _ c.in-Some.word (rw (c.in-Some.is) at c.in_ok-word.ensures) c.in-None.ensures
