-- Past row 63 nothing is read.
use mathlib.Core.Path.{sym}
use mathlib.Core.Logic.{inr}
use native.Mathlib.Omega.{arith}
use Rattle.rules.proofs.BookLaws.{read_no_row}
use Rattle.book.specs.Tables.{number}
use Rattle.book.specs.Slice.{words}
use Rattle.spoken.proofs.standing.row_of.Goals as goal

pub returns-in_default : goal.returns-in_default
returns-in_default c full =
    let s = c.args in
    sym (read_no_row (words s.book.now) (number s.table) s.n (inr (omega arith)))
