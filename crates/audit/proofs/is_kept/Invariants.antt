-- A test of all numbers over the defined ones: at the others the rule is kept by itself.
use mathlib.Core.Bool.{true}
use Rattle.sets.proofs.MemberLaws.{Seen}
use Rattle.rules.specs.Audit.{kept_at}
use Rattle.book.specs.Slice.{tables}
use Rattle.audit.proofs.is_kept.Given as goal

abbrev pub invariant-loop-x : goal.invariant-loop-x
invariant-loop-x l = Seen (kept_at (tables l.book) l.rule) true l.x-iterator.left
