-- A test of all tasks over the members of both sets: who is in neither is asked nothing.
use mathlib.Core.Bool.{true}
use Rattle.sets.proofs.MemberLaws.{Seen}
use Rattle.book.specs.Slice.{tables}
use Rattle.hand_rules.specs.Hands.{same_hand}
use Rattle.hand_rules.proofs.is_together.Given as goal

abbrev pub invariant-loop-v : goal.invariant-loop-v
invariant-loop-v l = Seen (same_hand (tables l.book) l.order l.subjects l.roles l.own) true l.v-iterator.left
