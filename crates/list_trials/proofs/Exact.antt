-- Every trial of a list holds, because M-102 is proved.
use lib.Dec.{T}
use Rattle.clicks.proofs.Clicks.{order_free, restored}
use Rattle.list_trials.specs.ListTrial.{ListTrial, orderly, traceless}
use Rattle.list_trials.proofs.Instances.{order_free_tried, restored_tried}

pub trials_orderly : (t : ListTrial) → T (orderly t)
trials_orderly = order_free_tried order_free

pub trials_traceless : (t : ListTrial) → T (traceless t)
trials_traceless = restored_tried restored
