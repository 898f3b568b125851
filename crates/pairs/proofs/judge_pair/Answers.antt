-- The refusals first, then the conflicts.
use Rattle.rules.specs.Numbers.{conflicts}
use Rattle.deeds.proofs.OutcomeLaws.{passed_up, decide_refused, decide_conflict}
use Rattle.pairs.proofs.judge_pair.Goals as goal

pub returns-in_err-pair_refusal : goal.returns-in_err-pair_refusal
returns-in_err-pair_refusal c = rw (passed_up _ c.from_residual.ensures.1) (decide_refused _ _ _ _ _ _ c.in_err-pair_refusal.ensures)

pub returns : goal.returns
unfolding conflicts
returns c = decide_conflict _ _ _ _ _ c.in_ok-pair_refusal.ensures c.pair_conflict.ensures
