-- No word, no word of the panel, or one.
use mathlib.Core.Path.{◌∙◌}
use Rattle.typed.specs.Grammar.{help_at}
use Rattle.typed.proofs.GrammarLaws.{raised, faulted, plain, next_cut, next_over, next_there, help_unknown, help_known}
use Rattle.typed.proofs.arguments.Source.help.Goals as goal

pub returns-in_err-word : goal.returns-in_err-word
unfolding help_at
returns-in_err-word c =
    raised _ c.from_residual.ensures.1 ∙ next_cut _ _ _ _ c.in_err-word.ensures _ _

pub returns-in_default : goal.returns-in_default
unfolding help_at
returns-in_default c =
    plain _ ∙ next_over _ _ _ (rw (c.in_default.is) at c.in_ok-word.ensures) _ _

pub returns-in_default-find : goal.returns-in_default-find
unfolding help_at
returns-in_default-find c =
    faulted _ c.at.ensures
    ∙ help_unknown _ _ _ _ _ c.in_default-find.ensures
    ∙ next_there _ _ _ c.in-Some.word (rw (c.in-Some.is) at c.in_ok-word.ensures) _ _

pub returns : goal.returns
unfolding help_at
returns c =
    c.ended.ensures
    ∙ help_known _ _ _ _ _ _ c.in-Some-find.ensures
    ∙ next_there _ _ _ c.in-Some.word (rw (c.in-Some.is) at c.in_ok-word.ensures) _ _
