-- The first word is a sort.
use mathlib.Core.Path.{◌∙◌}
use Rattle.typed.specs.Grammar.{name_at}
use Rattle.typed.proofs.GrammarLaws.{raised, faulted, next_neither, next_there, name_none, name_sort}
use Rattle.typed.proofs.arguments.Source.name.Goals as goal

pub returns-in_err-word : goal.returns-in_err-word
unfolding name_at
returns-in_err-word c =
    raised _ c.from_residual.ensures.1 ∙ next_neither _ _ _ _ c.in_err-word.ensures _

pub returns-in-Some : goal.returns-in-Some
unfolding name_at
returns-in-Some c =
    c.named.ensures
    ∙ name_sort _ _ _ _ _ _ _ c.sort_of.ensures _ c.in-Some.is
    ∙ next_there _ _ _ _ c.in_ok-word.ensures _ _

pub returns-in-None : goal.returns-in-None
unfolding name_at
returns-in-None c =
    faulted _ c.at.ensures
    ∙ name_none _ _ _ _ _ _ _ c.sort_of.ensures c.in-None.is
    ∙ next_there _ _ _ _ c.in_ok-word.ensures _ _
