-- Judged on the book as it stands; the cells are stamped only where the answer is 0, and then the active role is a role.
use native.Mathlib.Omega.{arith}
use Rattle.rules.proofs.BookLaws.{read_sized}
use Rattle.book.specs.Slice.{words, tables, Full}
use Rattle.deeds.proofs.OutcomeLaws.{passed_up, settled_kept, settled_changed}
use Rattle.hands.proofs.ActiveLaws.{active_bounds}
use Rattle.orders.proofs.StageLaws.{allocated_owned, allocated_stamped}
use Rattle.orders.proofs.allocate.Goals as goal

pub returns-in_err-judge_allocation : goal.returns-in_err-judge_allocation
returns-in_err-judge_allocation c =
    let full : Full c.args.book.now = omega arith in
    rw (passed_up c.from_residual.result c.from_residual.ensures.1) (settled_kept c.in_err-judge_allocation.ensures full)

pub invariant_of-hand : goal.invariant_of-hand
invariant_of-hand c =
    let s = c.args in
    let d = tables s.book.now in
    let sized = read_sized (words s.book.now) (λ i h. c.fits-book i) in
    let owned = allocated_owned d s.a s.b s.c c.in_ok-judge_allocation.ensures in
    let role = active_bounds d s.c sized owned c.row.ensures in
    record { in_range = (omega arith, role.1, omega arith) }

pub returns : goal.returns
returns c =
    let s = c.args in
    let stored = c.stamp.ensures in
    settled_changed c.in_ok-judge_allocation.ensures stored.0
    (allocated_stamped (tables s.book.now) s.a s.b s.c stored.1 c.role_hand.ensures c.subject_hand.ensures c.row.ensures)
