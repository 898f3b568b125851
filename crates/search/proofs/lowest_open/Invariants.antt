-- A search in which the rest gives what the whole gives.
use mathlib.Core.Path.{◌≡◌}
use Prim.Native.Nat.{◌≤◌}
use Rattle.sets.specs.Search.{lowest}
use Rattle.sets.proofs.SearchLaws.{search_rest}
use Rattle.rules.specs.Requests.{is_open}
use Rattle.book.specs.Slice.{tables}
use Rattle.search.proofs.lowest_open.Given as goal

abbrev pub invariant-loop-p : goal.invariant-loop-p
invariant-loop-p l = (l.p ≤ 64) × (search_rest (is_open (tables l.book)) l.p 64 ≡ lowest (is_open (tables l.book)))
