-- The arguments are read one by one, and then the line ends.
use mathlib.Core.Path.{ap, ◌∙◌}
use Rattle.typed.specs.Grammar.{ends}
use Rattle.typed.proofs.GrammarLaws.{raised, first_is, first_bad, second_is, second_bad, third_is, third_bad}
use Rattle.typed.proofs.arguments.Source.of_kind.Goals as goal

pub returns-in_err-a : goal.returns-in_err-a
returns-in_err-a c =
    raised _ c.from_residual.ensures.1 ∙ first_bad _ _ _ _ _ _ c.wanted-takes.ensures _ _ c.in_err-a.ensures

pub returns-in_err-b : goal.returns-in_err-b
returns-in_err-b c =
    let takes = c.wanted-takes.ensures in
    raised _ c.from_residual-in_err-b.ensures.1
    ∙ second_bad _ _ _ _ _ _ takes _ _ _ c.in_err-b.ensures
    ∙ first_is _ _ _ _ _ _ takes _ _ _ c.in_ok-a.ensures

pub returns-in_err-c : goal.returns-in_err-c
returns-in_err-c c =
    let takes = c.wanted-takes.ensures in
    raised _ c.from_residual-in_err-c.ensures.1
    ∙ third_bad _ _ _ _ _ _ takes _ _ _ _ c.in_err-c.ensures
    ∙ second_is _ _ _ _ _ _ takes _ _ _ _ c.in_ok-b.ensures
    ∙ first_is _ _ _ _ _ _ takes _ _ _ c.in_ok-a.ensures

pub returns : goal.returns
returns c =
    let takes = c.wanted-takes.ensures in
    c.ended.ensures
    ∙ ap (ends _ _ _) c.ask.ensures
    ∙ third_is _ _ _ _ _ _ takes _ _ _ _ _ c.in_ok-c.ensures
    ∙ second_is _ _ _ _ _ _ takes _ _ _ _ c.in_ok-b.ensures
    ∙ first_is _ _ _ _ _ _ takes _ _ _ c.in_ok-a.ensures
