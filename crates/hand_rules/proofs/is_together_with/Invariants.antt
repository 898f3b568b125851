-- A test of all orders over the open ones: an order without tasks asks nothing.
use mathlib.Core.Bool.{true}
use Rattle.sets.proofs.MemberLaws.{Seen}
use Rattle.book.specs.Slice.{tables}
use Rattle.hand_rules.specs.Hands.{together_in}
use Rattle.hand_rules.proofs.is_together_with.Given as goal

abbrev pub invariant-loop-order : goal.invariant-loop-order
invariant-loop-order l = Seen (together_in (tables l.book) l.subjects l.roles l.u) true l.order-iterator.left
