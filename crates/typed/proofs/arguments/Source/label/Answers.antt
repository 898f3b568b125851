-- The word is no name, is taken, or is given.
use mathlib.Core.Path.{◌∙◌}
use Rattle.typed.specs.Grammar.{label_at}
use Rattle.typed.proofs.GrammarLaws.{raised, faulted, next_neither, next_there, label_none, label_taken, label_given}
use Rattle.typed.proofs.arguments.Source.label.Goals as goal

pub returns-in_err-word : goal.returns-in_err-word
unfolding label_at
returns-in_err-word c =
    raised _ c.from_residual.ensures.1 ∙ next_neither _ _ _ _ c.in_err-word.ensures _

pub returns-then-not-is_name : goal.returns-then-not-is_name
unfolding label_at
returns-then-not-is_name c =
    faulted _ c.at.ensures
    ∙ label_none _ _ _ _ _ _ _ _ _ c.is_name.ensures c.if-not-is_name.true
    ∙ next_there _ _ _ _ c.in_ok-word.ensures _ _

pub returns-then-is_taken : goal.returns-then-is_taken
unfolding label_at
returns-then-is_taken c =
    faulted _ c.at-then-is_taken.ensures
    ∙ label_taken _ _ _ _ _ _ _ _ _ c.is_name.ensures c.if-not-is_name.false _ c.is_taken.ensures c.if-is_taken.true
    ∙ next_there _ _ _ _ c.in_ok-word.ensures _ _

pub returns : goal.returns
unfolding label_at
returns c =
    c.ended.ensures
    ∙ label_given _ _ _ _ _ _ _ _ _ c.is_name.ensures c.if-not-is_name.false _ c.is_taken.ensures c.if-is_taken.false
    ∙ next_there _ _ _ _ c.in_ok-word.ensures _ _
