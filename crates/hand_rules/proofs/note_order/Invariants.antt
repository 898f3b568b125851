-- What each subject is noted with, joined with what it holds of the tasks left, is what it was noted with and what it holds.
use mathlib.Core.Path.{◌≡◌}
use Prim.Native.Nat.{ℕ, ◌<◌}
use lib.Bits.{bit_or}
use Rattle.sets.specs.Mask.{picked}
use Rattle.rules.specs.Numbers.{in_hand, held_by}
use Rattle.book.specs.Slice.{words, tables}
use Rattle.hand_rules.proofs.note_order.Given as goal

abbrev pub invariant-loop-t : goal.invariant-loop-t
invariant-loop-t l =
    (k : ℕ) → k < 64
    → bit_or (words l.held k) (picked (in_hand (tables l.book) l.order k) l.t-iterator.left)
    ≡ bit_or (words l.initial.held k) (held_by (tables l.book) l.order k)
