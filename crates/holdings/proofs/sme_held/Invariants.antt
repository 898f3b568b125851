-- A search over the orders, in which the rest gives what the whole gives; where nothing is excluded, there is none.
use mathlib.Core.Path.{◌≡◌}
use Prim.Native.Nat.{◌-◌, ◌≤◌}
use Rattle.sets.specs.Search.{lowest}
use Rattle.sets.proofs.SearchLaws.{search_rest}
use Rattle.book.specs.Slice.{tables}
use Rattle.holdings.proofs.HoldLaws.{excluded_in}
use Rattle.holdings.proofs.sme_held.Given as goal

abbrev pub invariant-loop-order : goal.invariant-loop-order
invariant-loop-order l =
    (l.order ≤ 64) × (search_rest (excluded_in (tables l.book) l.c l.hand) l.order 64 ≡ lowest (excluded_in (tables l.book) l.c l.hand))

abbrev pub decreases-loop-order : goal.decreases-loop-order
decreases-loop-order l = 64 - l.order
