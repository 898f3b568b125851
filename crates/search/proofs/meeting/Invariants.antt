-- What is found, with what is found among those left, is the whole.
use mathlib.Core.Path.{◌≡◌}
use lib.Bits.{bit_or}
use Rattle.sets.specs.Mask.{meet, picked}
use Rattle.book.specs.Slice.{tables}
use Rattle.book.specs.Tables.{number}
use Rattle.search.proofs.meeting.Given as goal

abbrev pub invariant-loop-r : goal.invariant-loop-r
invariant-loop-r l =
    let found = picked (λ i. meet ((tables l.book).row (number l.table) i) l.set) in
    bit_or l.out (found l.r-iterator.left) ≡ found l.those
