-- The members seen have no partner in the set; who is no member has none anyway.
use mathlib.Core.Path.{◌≡◌}
use mathlib.Core.Bool.{true, Bool, ◌&&◌, not}
use Prim.Native.Nat.{ℕ}
use Rattle.sets.specs.Mask.{bit, meet}
use Rattle.sets.proofs.MemberLaws.{Seen}
use Rattle.book.specs.Slice.{tables}
use Rattle.book.specs.Tables.{number}
use Rattle.search.proofs.is_pair_free.Given as goal

-- number u is no member with a partner in the set
abbrev pub free : (ℕ → ℕ) → ℕ → ℕ → Bool
free rows set u = not (bit set u && meet (rows u) set)

abbrev pub invariant-loop-x : goal.invariant-loop-x
invariant-loop-x l =
    Seen (free ((tables l.book).row (number l.table)) l.set) true l.x-iterator.left × ((k : ℕ) → bit l.x-iterator.left k ≡ true → bit l.set k ≡ true)
