-- One word is stored, and only that place of the tables changes.
use mathlib.Core.Path.{ap, ◌∙◌}
use Prim.Native.Nat.{ℕ}
use native.Mathlib.Omega.{arith}
use lib.ListN.{set, length-set}
use Rattle.book.specs.Slice.{tables, Full}
use Rattle.book.proofs.StoreLaws.{stored_row}
use Rattle.book.specs.Tables.{number}
use Rattle.book.proofs.TableLaws.{number_lt}
use Rattle.book.proofs.set_row.Goals as goal

pub returns : goal.returns
returns c =
    let s = c.args in
    let l = s.book.now in
    let full : Full l = omega arith in (
      simp length-set full,
      ap (λ (i : ℕ). tables (set l i s.v)) c.row_at.ensures ∙ stored_row l full s.v (number s.table) s.r (number_lt s.table) (omega arith),
    )
