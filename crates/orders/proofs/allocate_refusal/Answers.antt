-- Each answer from what has been read by then; the active role that is asked of the cell is owned, so it is a role.
use mathlib.Core.Path.{sym, ap, ◌∙◌}
use mathlib.Core.Bool.{not}
use native.Mathlib.Omega.{arith}
use Rattle.rules.proofs.BookLaws.{read_sized}
use Rattle.book.specs.Slice.{words, tables}
use Rattle.hands.proofs.ActiveLaws.{active_bounds}
use Rattle.orders.proofs.StageLaws.{not_in_order, not_owned, cell_asked}
use Rattle.orders.proofs.allocate_refusal.Goals as goal

pub returns-then-not-is_in_row : goal.returns-then-not-is_in_row
returns-then-not-is_in_row c =
    let s = c.args in
    not_in_order (tables s.book.now) s.a s.b s.c c.is_in_row.ensures (ap not c.if-not-is_in_row.true)

pub returns-then-not-active_owned : goal.returns-then-not-active_owned
returns-then-not-active_owned c =
    let s = c.args in
    not_owned (tables s.book.now) s.a s.b s.c c.is_in_row.ensures (ap not c.if-not-is_in_row.false)
    c.active_owned.ensures (ap not c.if-not-active_owned.true)

pub cell_refusal-requires : goal.cell_refusal-requires
cell_refusal-requires c =
    let s = c.args in
    let sized = read_sized (words s.book.now) (λ i h. c.fits-book i) in
    let owned = sym c.active_owned.ensures ∙ c.if-not-active_owned.false in
    let role = active_bounds (tables s.book.now) s.c sized owned c.row.ensures in
    (omega arith, omega arith, role.0, role.1)

pub returns : goal.returns
returns c =
    let s = c.args in
    cell_asked (tables s.book.now) s.a s.b s.c c.is_in_row.ensures
    (ap not c.if-not-is_in_row.false) c.active_owned.ensures (ap not c.if-not-active_owned.false)
    c.row.ensures c.cell_refusal.ensures
