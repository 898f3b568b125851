-- A search in which the rest gives what the whole gives; past rule 2 it is known to be kept.
use mathlib.Core.Path.{◌≡◌}
use Prim.Native.Nat.{◌≤◌, ℕ, ◌<◌}
use Rattle.sets.specs.Search.{lowest_from}
use Rattle.sets.proofs.SearchLaws.{search_rest}
use Rattle.rules.specs.Audit.{broken, rule_count}
use Rattle.book.specs.Slice.{tables}
use mathlib.Core.Bool.{Bool, false}
use Rattle.audit.proofs.lowest_broken.Given as goal

-- the search is past 2, and 2 does not pass
abbrev pub Past : (ℕ → Bool) → ℕ → Type 0
Past f n = 2 < n → f 2 ≡ false

abbrev pub invariant-loop-rule : goal.invariant-loop-rule
invariant-loop-rule l =
    (l.rule ≤ 11) × (search_rest (broken (tables l.book)) l.rule 11 ≡ lowest_from rule_count 1 (broken (tables l.book))) × Past (broken (tables l.book)) l.rule
