-- The word read is the one that the tables have there.
use mathlib.Core.Path.{sym, ap, ◌∙◌}
use native.Mathlib.Omega.{arith}
use Rattle.book.specs.Slice.{words}
use Rattle.rules.proofs.BookLaws.{read_row}
use Rattle.book.specs.Tables.{number}
use Rattle.book.proofs.TableLaws.{number_lt}
use Rattle.book.proofs.row.Goals as goal

pub returns : goal.returns
returns c =
    let s = c.args in
    let w = words s.book.now in
    ap w c.row_at.ensures ∙ sym (read_row w (number s.table) s.r (number_lt s.table) (omega arith))
