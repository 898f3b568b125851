-- The group, cut to the order's tasks.
use lib.Bits.{bit_and}
use Rattle.rules.specs.Requests.{role_hand}
use Rattle.hands.proofs.role_hand.Goals as goal

pub returns : goal.returns
unfolding role_hand
returns c =
    let group = c.role_group.ensures in
    let tasks = c.row.ensures in
    (λ i. bit_and (group i) (tasks i))
