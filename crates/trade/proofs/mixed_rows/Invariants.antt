-- Before turn r the rows below r stand in their places.
use mathlib.Core.Path.{◌≡◌}
use Prim.Native.Nat.{ℕ, ◌-◌, ◌≤◌, ◌<◌}
use lib.ListN.{length, get_or}
use Rattle.rules.specs.Trade.{mixed}
use Rattle.book.specs.Slice.{tables}
use Rattle.book.specs.Tables.{number}
use Rattle.trade.proofs.mixed_rows.Given as goal

abbrev pub invariant-loop-r : goal.invariant-loop-r
invariant-loop-r l =
    (l.r ≤ 64) × (length l.rows ≡ 64) × ((k : ℕ) → k < l.r → get_or l.rows k 0 ≡ mixed (tables l.book) (number l.first) (number l.second) k)

abbrev pub decreases-loop-r : goal.decreases-loop-r
decreases-loop-r l = 64 - l.r
