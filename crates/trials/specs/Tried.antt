-- The trials are fair, list by list, by computation: each starts from a book that passes the audit, with a request that no refusal meets.
-- That each is exact is not computed again: proofs/Instances.antt has it from demand 3.
use Rattle.std.specs.Prelude.{T}
use Rattle.rules.specs.Computed.{computed}
use Rattle.trials.specs.Trial.{fair, all_fair, none_fair}
use Rattle.trials.specs.Pairs.{exclusions, bindings}
use Rattle.trials.specs.PairsBack.{pairs_back}
use Rattle.trials.specs.Staff.{assignments}
use Rattle.trials.specs.Orders.{hands}
use Rattle.trials.specs.Guarded.{guarded}

pub exclusions_fair : T (all_fair exclusions)
unfolding computed fair
exclusions_fair = tt

pub bindings_fair : T (all_fair bindings)
unfolding computed fair
bindings_fair = tt

pub pairs_back_fair : T (all_fair pairs_back)
unfolding computed fair
pairs_back_fair = tt

pub assignments_fair : T (all_fair assignments)
unfolding computed fair
assignments_fair = tt

pub hands_fair : T (all_fair hands)
unfolding computed fair
hands_fair = tt

pub guarded_unfair : T (none_fair guarded)
unfolding computed fair
guarded_unfair = tt
