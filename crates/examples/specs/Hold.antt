-- The tables hold of the rules, by computation. Each is computed by itself: all together are more than the checker does at once.
use Rattle.std.specs.Prelude.{T}
use Rattle.rules.specs.Computed.{computed}
use Rattle.examples.specs.Examples.{all_go, examples}
use Rattle.examples.specs.SeveralOrders.{several_orders}
use Rattle.examples.specs.WholeClash.{whole_clash}

-- P1 to P14.
pub examples_hold : T (all_go examples)
unfolding computed
examples_hold = tt

-- The runs of M-104.
pub several_orders_hold : T (all_go several_orders)
unfolding computed
several_orders_hold = tt

-- The runs of M-105.
pub whole_clash_holds : T (all_go whole_clash)
unfolding computed
whole_clash_holds = tt
