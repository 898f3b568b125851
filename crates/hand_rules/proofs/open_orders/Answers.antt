-- The orders whose row meets the set of all numbers.
use mathlib.Core.Path.{ap, ◌∙◌}
use Prim.Native.Nat.{ℕ}
use Rattle.sets.specs.Mask.{bit}
use Rattle.rules.proofs.BookLaws.{read_sized}
use Rattle.book.specs.Slice.{words, tables}
use Rattle.hand_rules.proofs.OpenLaws.{open_orders}
use Rattle.hand_rules.proofs.open_orders.Goals as goal

pub returns : goal.returns
returns c p l =
    let s = c.args in
    let sized = read_sized (words s.book.now) (λ i h. c.fits-book i) in
    ap (λ (m : ℕ). bit m p) c.meeting.ensures ∙ open_orders (tables s.book.now) sized p l
