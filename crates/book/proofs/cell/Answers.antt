-- The word read is the one that the tables have there.
use mathlib.Core.Path.{sym, ap, ◌∙◌}
use native.Mathlib.Omega.{arith}
use Rattle.book.specs.Slice.{words}
use Rattle.rules.proofs.BookLaws.{read_cell}
use Rattle.book.proofs.cell.Goals as goal

pub returns : goal.returns
returns c =
    let s = c.args in
    let w = words s.book.now in
    ap w c.cell_at.ensures ∙ sym (read_cell w s.order s.task (omega arith) (omega arith))
