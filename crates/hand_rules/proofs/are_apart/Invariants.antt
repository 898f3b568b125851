-- A test of all orders for DME; after the orders below one each subject is noted with what it holds in these, joined. At the end that is all
-- that it holds, and SME is asked of it.
use mathlib.Core.Path.{◌≡◌}
use mathlib.Core.Bool.{true}
use Prim.Native.Nat.{ℕ, ◌-◌, ◌≤◌, ◌<◌, ◌^◌}
use Rattle.sets.specs.Search.{all}
use Rattle.book.specs.Slice.{words, tables}
use Rattle.hand_rules.specs.Hands.{dme_apart_in}
use Rattle.sets.specs.Mask.{joined, only}
use Rattle.rules.specs.Book.{Book}
use Rattle.rules.specs.Requests.{is_open}
use Rattle.rules.specs.Numbers.{held_by}
use Rattle.hand_rules.proofs.are_apart.Given as goal

-- what subject k holds in order p, if it is open ..
abbrev pub held_in : Book → ℕ → ℕ → ℕ
held_in d k p = only (is_open d p) (held_by d p k)

-- .. and in the orders below p
abbrev pub held_below : Book → ℕ → ℕ → ℕ
held_below d p k = joined p (held_in d k) (2 ^ 64 - 1)

abbrev pub invariant-loop-order : goal.invariant-loop-order
invariant-loop-order l =
    (l.order ≤ 64) × (all l.order (dme_apart_in (tables l.book)) ≡ true)
    × ((k : ℕ) → k < 64 → words l.anywhere k ≡ held_below (tables l.book) l.order k)
