use mathlib.Core.Path.{sym, ◌∙◌}
use Prim.Native.Nat.{◌+◌, ◌*◌}
use native.Mathlib.Omega.{arith}
use Rattle.sets.proofs.SearchLaws.{lowest_end}
use Rattle.rules.specs.Book.{book_words, table_at, cells_at, bad, first_bad}
use Rattle.book.specs.Slice.{tables}
use Rattle.book.proofs.TableLaws.{table_at_place}
use Rattle.scan.proofs.BlockLaws.{block_on, block_at, gap_bad, past_head}
use Rattle.scan.proofs.first_bad.Goals as goal

pub returns-then-head-ne0 : goal.returns-then-head-ne0
returns-then-head-ne0 c =
    (omega arith, gap_bad (tables c.args.book.now) (λ z. c.if-head-ne0.true (c.head.ensures ∙ z)))

pub loop-table-init : goal.loop-table-init
loop-table-init c =
    past_head (tables c.args.book.now) (sym c.head.ensures ∙ c.if-head-ne0.false)

pub returns-in-Some : goal.returns-in-Some
unfolding first_bad
returns-in-Some c =
    let l = c.loop-table in
    let f = bad (tables c.args.book.now) in
    let here = table_at_place l.table-index (omega arith) in
    let at = block_at f (table_at l.table-index) l.invariant book_words (rw here at c.in-Some.ensures) (omega arith) in
    (omega arith, at ∙ sym (rw here at c.row_at.ensures))

pub loop-table-preserved : goal.loop-table-preserved
loop-table-preserved c =
    let l = c.loop-table in
    let f = bad (tables c.args.book.now) in
    let here = table_at_place l.table-index (omega arith) in
    λ j h. block_on f (table_at l.table-index) l.invariant 64 (omega (arith, rw here at c.in_default.ensures)) j (omega arith)

pub loop-order-init : goal.loop-order-init
loop-order-init c = (omega arith, λ j h. c.loop-table.invariant j (omega arith))

pub returns-in-Some-bad_cell_in : goal.returns-in-Some-bad_cell_in
unfolding first_bad
returns-in-Some-bad_cell_in c =
    let l = c.loop-order in
    let f = bad (tables c.args.book.now) in
    let at = block_at f (cells_at + 64 * l.order) l.invariant.1 book_words c.in-Some-bad_cell_in.ensures (omega arith) in
    (omega arith, at ∙ sym c.cell_at.ensures)

pub loop-order-preserved : goal.loop-order-preserved
loop-order-preserved c =
    let l = c.loop-order in
    let f = bad (tables c.args.book.now) in
    (omega arith, λ j h. block_on f (cells_at + 64 * l.order) l.invariant.1 64 (omega arith) j (omega arith))

pub returns : goal.returns
unfolding first_bad
returns c =
    let f = bad (tables c.args.book.now) in
    sym (lowest_end book_words f (λ j h. c.loop-order.invariant.1 j (omega arith)))
