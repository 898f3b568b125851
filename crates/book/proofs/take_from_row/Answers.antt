-- The row read, changed and stored again.
use mathlib.Core.Path.{ap, ◌∙◌}
use Prim.Native.Nat.{ℕ}
use Rattle.sets.specs.Mask.{without}
use Rattle.book.specs.Slice.{tables, with_row}
use Rattle.book.specs.Tables.{number}
use Rattle.book.proofs.take_from_row.Goals as goal

pub returns : goal.returns
returns c =
    let s = c.args in
    let d = tables s.book.now in
    let row = c.row-mask.ensures in
    let changed = c.remove.ensures in
    let stored = c.set_row.ensures in
    (stored.0, stored.1 ∙ ap (λ (v : ℕ). with_row (number s.table) s.r v d) (changed ∙ ap (λ (m : ℕ). without m s.i) row))
