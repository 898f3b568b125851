-- The steps are done, the line is cut or over, or one task more is named.
use mathlib.Core.Path.{ap, ◌∙◌}
use native.Mathlib.Omega.{arith}
use Rattle.std.proofs.Common.{Err}
use Rattle.typed.proofs.WordLaws.{passed_up}
use Rattle.typed.proofs.ArgumentLaws.{tasks_none, tasks_cut, tasks_over, tasks_more, tasks_range, tasks_bad}
use Rattle.typed.proofs.arguments.Source.+tasks_from.Goals as goal

pub returns-then-steps-eq0 : goal.returns-then-steps-eq0
returns-then-steps-eq0 t c = tasks_none _ _ _ _ _ _ c.if-steps-eq0.true

pub returns-in_err-word : goal.returns-in_err-word
returns-in_err-word t c = passed_up _ c.from_residual.ensures.1 ∙ tasks_cut _ _ _ _ _ _ c.if-steps-eq0.false _ c.in_err-word.ensures

pub returns-in_default : goal.returns-in_default
returns-in_default t c = tasks_over _ _ _ _ _ _ c.if-steps-eq0.false (rw (c.in_default.is) at c.in_ok-word.ensures)

pub returns-in_err-task : goal.returns-in_err-task
returns-in_err-task t c =
    passed_up _ c.from_residual-in_err-task.ensures.1
    ∙ tasks_bad _ _ _ _ _ _ c.if-steps-eq0.false c.in-Some.word (rw (c.in-Some.is) at c.in_ok-word.ensures) _ c.in_err-task.ensures

pub returns-then-task-lt64 : goal.returns-then-task-lt64
returns-then-task-lt64 t c =
    c.tasks_from.ensures
    ∙ tasks_more _ _ _ _ _ _ c.if-steps-eq0.false c.in-Some.word (rw (c.in-Some.is) at c.in_ok-word.ensures) _ _ c.in_ok-task.ensures c.if-task-lt64.true _
    c.add.ensures

pub returns : goal.returns
returns t c =
    ap Err c.at.ensures
    ∙ tasks_range _ _ _ _ _ _ c.if-steps-eq0.false c.in-Some.word (rw (c.in-Some.is) at c.in_ok-word.ensures) _ _ c.in_ok-task.ensures (omega arith)
