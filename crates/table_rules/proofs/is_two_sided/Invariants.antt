-- A test of all members of u's row: who is not left passes.
use mathlib.Core.Path.{◌≡◌}
use mathlib.Core.Bool.{true}
use Prim.Native.Nat.{ℕ}
use Rattle.sets.specs.Mask.{bit}
use Rattle.sets.proofs.MemberLaws.{Seen}
use Rattle.rules.specs.Audit.{two_sided}
use Rattle.book.specs.Tables.{number}
use Rattle.book.specs.Slice.{tables}
use Rattle.table_rules.proofs.is_two_sided.Given as goal

abbrev pub invariant-loop-v : goal.invariant-loop-v
invariant-loop-v l =
    let rows = (tables l.book).row (number l.table) in
    ((k : ℕ) → bit l.v-iterator.left k ≡ true → bit (rows l.u) k ≡ true) × Seen (two_sided rows l.u) true l.v-iterator.left
