-- The role hand against the tasks that the role owns.
use mathlib.Core.Path.{◌≡◌, ap, ◌∙◌}
use Prim.Native.Nat.{◌-◌}
use Rattle.rules.specs.Trade.{role, owned_tasks}
use Rattle.book.specs.Slice.{tables}
use Rattle.orders.proofs.lowest_unowned.Goals as goal

pub returns : goal.returns
returns c =
    let s = c.args in
    let d = tables s.book.now in
    let hand = c.role_hand-hand.ensures in
    let owned : c.owned_tasks-owned.result ≡ owned_tasks d (role (s.e - 1)) =
    c.owned_tasks-owned.ensures ∙ ap (owned_tasks d) c.alone.ensures in
    rw (hand, owned) at c.lowest_outside.ensures
