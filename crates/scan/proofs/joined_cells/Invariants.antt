-- A join of all cells, of which the first t are joined.
use mathlib.Core.Path.{◌≡◌}
use Prim.Native.Nat.{◌-◌, ◌^◌, ◌≤◌}
use Rattle.sets.specs.Mask.{joined}
use Rattle.book.specs.Slice.{tables}
use Rattle.scan.proofs.joined_cells.Given as goal

abbrev pub invariant-loop-t : goal.invariant-loop-t
invariant-loop-t l = (l.t ≤ 64) × (l.any ≡ joined l.t ((tables l.book).cell l.order) (2 ^ 64 - 1 - 0))

abbrev pub decreases-loop-t : goal.decreases-loop-t
decreases-loop-t l = 64 - l.t
