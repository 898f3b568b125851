-- The line is cut or over there, or has one word more.
use mathlib.Core.Path.{◌∙◌}
use Rattle.typed.specs.declared.arguments.Reason.TheVariants.{TooMany}
use Rattle.typed.specs.declared.Line.TheVariants.{Fault}
use Rattle.typed.specs.Grammar.{ends}
use Rattle.typed.proofs.GrammarLaws.{raised, faulted, plain, next_cut, next_over, next_there}
use Rattle.typed.proofs.arguments.Source.ended.Goals as goal

pub returns-in_err-word : goal.returns-in_err-word
unfolding ends
returns-in_err-word c =
    raised _ c.from_residual.ensures.1 ∙ next_cut _ _ _ _ c.in_err-word.ensures _ _

pub returns-in-Some : goal.returns-in-Some
unfolding ends
returns-in-Some c =
    faulted _ c.at.ensures ∙ next_there _ _ _ c.in-Some.word (rw (c.in-Some.is) at c.in_ok-word.ensures) _ (λ start end word. Fault TooMany start)

pub returns-in-None : goal.returns-in-None
unfolding ends
returns-in-None c =
    plain _ ∙ next_over _ _ _ (rw (c.in-None.is) at c.in_ok-word.ensures) _ _
