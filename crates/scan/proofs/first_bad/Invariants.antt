-- Block by block: no word before the block is bad, so the lowest bad word of the block is the lowest of the book.
use Prim.Native.Nat.{◌+◌, ◌-◌, ◌*◌, ◌≤◌}
use Rattle.rules.specs.Book.{table_at, cells_at, bad}
use Rattle.book.specs.Slice.{tables}
use Rattle.scan.proofs.BlockLaws.{NoneBelow}
use Rattle.scan.proofs.first_bad.Given as goal

abbrev pub invariant-loop-table : goal.invariant-loop-table
invariant-loop-table l = NoneBelow (bad (tables l.book)) (table_at l.table-index)

abbrev pub invariant-loop-order : goal.invariant-loop-order
invariant-loop-order l = (l.order ≤ 64) × NoneBelow (bad (tables l.book)) (cells_at + 64 * l.order)

abbrev pub decreases-loop-order : goal.decreases-loop-order
decreases-loop-order l = 64 - l.order
