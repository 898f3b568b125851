-- Every trial is exact, because demand 3 is proved.
use lib.Dec.{T}
use Rattle.demands.proofs.Demand3.{checks_exact}
use Rattle.trials.specs.Trial.{Trial, exact}
use Rattle.trials.proofs.Instances.{demand_3_tried}

pub trials_exact : (t : Trial) → T (exact t)
trials_exact = demand_3_tried checks_exact
