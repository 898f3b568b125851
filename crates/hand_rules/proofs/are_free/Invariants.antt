-- A test of all subjects over the defined ones: who is undefined is noted with nothing, which holds no pair.
use mathlib.Core.Bool.{true, Bool}
use mathlib.Core.List.{List}
use Prim.Native.Nat.{ℕ}
use Rattle.sets.proofs.MemberLaws.{Seen}
use Rattle.book.specs.Tables.{number}
use Rattle.book.specs.Slice.{tables, words}
use Rattle.rules.specs.Audit.{pair_free}
use Rattle.hand_rules.proofs.are_free.Given as goal

-- what is asked of subject k
abbrev pub asked : (ℕ → ℕ) → List ℕ → ℕ → Bool
asked rows held k = pair_free rows (words held k)

abbrev pub invariant-loop-s : goal.invariant-loop-s
invariant-loop-s l = Seen (asked ((tables l.book).row (number l.table)) l.held) true l.s-iterator.left
