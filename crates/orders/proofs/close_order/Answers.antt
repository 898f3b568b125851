-- Nothing refuses it and nothing conflicts.
use mathlib.Core.Path.{refl}
use Rattle.rules.specs.Requests.{change}
use Rattle.rules.specs.Numbers.{or_else, state_refusal, conflicts, first_of}
use Rattle.deeds.specs.Outcome.{decide}
use Rattle.deeds.proofs.OutcomeLaws.{settled_changed}
use Rattle.orders.proofs.close_order.Goals as goal

pub returns : goal.returns
unfolding decide or_else state_refusal conflicts first_of change
returns c = let stored = c.set_order.ensures in settled_changed refl stored.0 stored.1
