-- A test of all tasks over the defined ones: who is undefined is bound to nobody. That all pass is what the rule says, where rule 2 is kept.
use mathlib.Core.Bool.{true}
use Rattle.sets.proofs.MemberLaws.{Seen}
use Rattle.book.specs.Slice.{tables}
use Rattle.hand_rules.specs.Hands.{bound_together}
use Rattle.hand_rules.proofs.are_together.Given as goal

abbrev pub invariant-loop-u : goal.invariant-loop-u
invariant-loop-u l = Seen (bound_together (tables l.book)) true l.u-iterator.left
