-- A cell of 0 is good, and another is judged.
use mathlib.Core.Path.{sym, ap, ◌∙◌}
use mathlib.Core.Bool.{not}
use Prim.Native.Nat.{ℕ}
use native.Mathlib.Omega.{arith}
use lib.Dec.{eqb}
use Rattle.book.specs.Slice.{tables}
use Rattle.scan.proofs.BadLaws.{zero_cell, cell_judged}
use borrow.Author.Rules.{rules}
use Rattle.scan.proofs.is_bad_cell_at.Goals as goal

pub returns-then-v-ne0 : goal.returns-then-v-ne0
returns-then-v-ne0 c =
    let s = c.args in
    cell_judged (tables s.book.now) s.order s.t (omega arith) (omega arith) c.cell-v.ensures c.if-v-ne0.true c.is_bad_cell.ensures
    c.has.ensures (search rules) (search rules) (search rules)

pub returns-else-v-ne0 : goal.returns-else-v-ne0
returns-else-v-ne0 c =
    let s = c.args in
    let none = zero_cell (tables s.book.now) s.order s.t (omega arith) (omega arith) c.cell-v.ensures c.if-v-ne0.false in
    ap (λ (v : ℕ). not (eqb v 0)) c.if-v-ne0.false ∙ sym none
