-- What is joined, with the rows of the members left, are the rows of the set.
use mathlib.Core.Path.{◌≡◌}
use lib.Bits.{bit_or}
use Rattle.sets.specs.Mask.{joined}
use Rattle.rules.specs.Trade.{mixed}
use Rattle.book.specs.Slice.{tables}
use Rattle.book.specs.Tables.{number}
use Rattle.trade.proofs.joined_rows.Given as goal

abbrev pub invariant-loop-r : goal.invariant-loop-r
invariant-loop-r l =
    let rows = mixed (tables l.book) (number l.first) (number l.second) in
    bit_or l.out (joined 64 rows l.r-iterator.left) ≡ joined 64 rows l.set
