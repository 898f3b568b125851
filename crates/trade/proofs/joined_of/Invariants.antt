-- What is joined, with the rows of the members left, are the rows of the set.
use mathlib.Core.Path.{◌≡◌}
use lib.Bits.{bit_or}
use Rattle.sets.specs.Mask.{joined}
use Rattle.book.specs.Slice.{words}
use Rattle.trade.proofs.joined_of.Given as goal

abbrev pub invariant-loop-r : goal.invariant-loop-r
invariant-loop-r l = bit_or l.out (joined 64 (words l.rows) l.r-iterator.left) ≡ joined 64 (words l.rows) l.set
