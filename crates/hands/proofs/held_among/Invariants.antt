-- What is held of the tasks seen, with what is held of those left, is all that is held among those asked for.
use mathlib.Core.Path.{◌≡◌}
use lib.Bits.{bit_or}
use Rattle.sets.specs.Mask.{picked}
use Rattle.rules.specs.Numbers.{in_hand}
use Rattle.book.specs.Slice.{tables}
use Rattle.hands.proofs.held_among.Given as goal

abbrev pub invariant-loop-t : goal.invariant-loop-t
invariant-loop-t l =
    let mine = in_hand (tables l.book) l.order l.subject in
    bit_or l.held (picked mine l.t-iterator.left) ≡ picked mine l.asked
