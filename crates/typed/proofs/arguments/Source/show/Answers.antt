-- The whole book, or one thing of a sort.
use mathlib.Core.Path.{◌∙◌}
use Rattle.typed.specs.Grammar.{show_at}
use Rattle.typed.proofs.GrammarLaws.{raised, faulted, plain, next_cut, next_over, next_there, show_none, show_one, show_bad}
use Rattle.typed.proofs.arguments.Source.show.Goals as goal

pub returns-in_err-word : goal.returns-in_err-word
unfolding show_at
returns-in_err-word c =
    raised _ c.from_residual.ensures.1 ∙ next_cut _ _ _ _ c.in_err-word.ensures _ _

pub returns-in_default : goal.returns-in_default
unfolding show_at
returns-in_default c =
    plain _ ∙ next_over _ _ _ (rw (c.in_default.is) at c.in_ok-word.ensures) _ _

pub returns-in_default-sort_of : goal.returns-in_default-sort_of
unfolding show_at
returns-in_default-sort_of c =
    faulted _ c.at.ensures
    ∙ show_none _ _ _ _ _ _ _ c.sort_of.ensures c.in_default-sort_of.is
    ∙ next_there _ _ _ c.in-Some.word (rw (c.in-Some.is) at c.in_ok-word.ensures) _ _

pub returns-in_err-n : goal.returns-in_err-n
unfolding show_at
returns-in_err-n c =
    raised _ c.from_residual-in_err-n.ensures.1
    ∙ show_bad _ _ _ _ _ _ _ c.sort_of.ensures _ c.in-Some-sort_of.is _ c.in_err-n.ensures
    ∙ next_there _ _ _ c.in-Some.word (rw (c.in-Some.is) at c.in_ok-word.ensures) _ _

pub returns : goal.returns
unfolding show_at
returns c =
    c.ended.ensures
    ∙ show_one _ _ _ _ _ _ _ c.sort_of.ensures _ c.in-Some-sort_of.is _ _ c.in_ok-n.ensures
    ∙ next_there _ _ _ c.in-Some.word (rw (c.in-Some.is) at c.in_ok-word.ensures) _ _
