-- Over the members of xs, who is not left has no partner; the visit to x's partners ends with the first of them, or does not begin.
use mathlib.Core.Path.{◌≡◌}
use mathlib.Core.Bool.{true, false}
use Rattle.std.proofs.Common.{None}
use Prim.Native.Nat.{ℕ}
use lib.Bits.{bit_and}
use Rattle.sets.specs.Mask.{bit}
use Rattle.sets.specs.Search.{paired}
use Rattle.sets.proofs.MemberLaws.{Seen}
use Rattle.rules.specs.Numbers.{between}
use Rattle.book.specs.Slice.{tables}
use Rattle.book.specs.Tables.{number}
use Rattle.search.proofs.first_pair.Given as goal

abbrev pub invariant-loop-y : goal.invariant-loop-y
invariant-loop-y l = (l.y-iterator.left ≡ bit_and ((tables l.book).row (number l.table) l.x) l.ys) × (l.found ≡ None)

abbrev pub invariant-search : goal.invariant-search
invariant-search l =
    ((k : ℕ) → bit l.x-iterator.left k ≡ true → bit l.xs k ≡ true)
    × Seen (paired (between ((tables l.book).row (number l.table)) l.xs l.ys)) false l.x-iterator.left × (l.found ≡ None)
