use mathlib.Core.Path.{ap, ◌∙◌}
use native.Mathlib.Omega.{arith}
use Rattle.rules.specs.Book.{Book, orders}
use Rattle.rules.specs.Requests.{set_row, set_table}
use Rattle.book.specs.Slice.{words, tables}
use Rattle.cells.specs.Cells.{emptied}
use Rattle.cells.proofs.CellLaws.{none_emptied, more_emptied, all_emptied}
use Rattle.cells.proofs.set_order.Goals as goal

pub loop-t-init : goal.loop-t-init
loop-t-init c = (omega arith, c.set_row.ensures.0, none_emptied _ _)

pub loop-t-preserved : goal.loop-t-preserved
loop-t-preserved c =
    let at = c.loop-t in
    let stored = c.set_cell.ensures in
    (omega arith, stored.0, more_emptied _ _ at.t stored.1 at.invariant.2)

pub returns : goal.returns
returns c =
    let s = c.args in
    let row = c.set_row in
    let d = tables s.book.now in
    let at = c.loop-t in (
      at.invariant.1,
      at.invariant.2 ∙ all_emptied (words row.new.book) s.order at.t (omega arith)
          ∙ ap (λ (b : Book). emptied b s.order) {y = set_table d orders (set_row (d.row orders) s.order s.tasks)} row.ensures.1,
    )
