-- The mask is stored, and each turn of the loop makes one cell more 0.
use mathlib.Core.Path.{◌≡◌}
use Prim.Native.Nat.{◌≤◌, ◌-◌}
use Rattle.book.specs.Slice.{tables, Full}
use Rattle.cells.specs.Cells.{emptied_to}
use Rattle.cells.proofs.set_order.Given as goal

abbrev pub invariant-loop-t : goal.invariant-loop-t
invariant-loop-t l = (l.t ≤ 64) × Full l.book × (tables l.book ≡ emptied_to l.t (tables l.initial.book) l.order)

abbrev pub decreases-loop-t : goal.decreases-loop-t
decreases-loop-t l = 64 - l.t
