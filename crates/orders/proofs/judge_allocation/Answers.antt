-- The refusals first, then the conflicts.
use Rattle.rules.specs.Numbers.{state_refusal, conflicts}
use Rattle.deeds.proofs.OutcomeLaws.{passed_up, decide_refused, decide_conflict}
use Rattle.orders.proofs.judge_allocation.Goals as goal

pub returns-in_err-allocate_refusal : goal.returns-in_err-allocate_refusal
unfolding state_refusal
returns-in_err-allocate_refusal c =
    rw (passed_up c.from_residual.result c.from_residual.ensures.1) (decide_refused _ _ _ _ _ _ c.in_err-allocate_refusal.ensures)

pub returns : goal.returns
unfolding state_refusal conflicts
returns c = decide_conflict _ _ _ _ _ c.in_ok-allocate_refusal.ensures c.allocate_conflict.ensures
