-- The refusals first, then the conflicts.
use Rattle.rules.specs.Numbers.{conflicts}
use Rattle.deeds.proofs.OutcomeLaws.{passed_up, decide_refused, decide_conflict}
use Rattle.staff.proofs.judge_assignment.Goals as goal

pub returns-in_err-assign_refusal : goal.returns-in_err-assign_refusal
returns-in_err-assign_refusal c =
    rw (passed_up c.from_residual.result c.from_residual.ensures.1) (decide_refused _ _ _ _ _ _ c.in_err-assign_refusal.ensures)

pub returns : goal.returns
unfolding conflicts
returns c = decide_conflict _ _ _ _ _ c.in_ok-assign_refusal.ensures c.assign_conflict.ensures
