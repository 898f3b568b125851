-- A deed that one kind alone does: by one computed test over the fixed table of kinds.
use mathlib.Core.Path.{◌≡◌, refl, sym, ap, ◌∙◌, subst}
use mathlib.Core.Bool.{Bool, true}
use Prim.Native.Nat.{ℕ, ◌+◌, ◌<◌}
use native.Mathlib.Omega.{arith}
use native.Mathlib.Decide.{dec_lt}
use lib.Dec.{eqb}
use lib.ListN.{length}
use borrow.Author.Tests.{eqb-true, eq-eqb}
use Rattle.sets.specs.Search.{all}
use Rattle.sets.proofs.Logic.{and_in}
use Rattle.rules.specs.Requests.{Deed, Row, table, row_of}
use Rattle.rules.specs.Audit.{implies}
use Rattle.rules.proofs.TableLaws.{code_of, same_deed, kinds_from, no_kind_past}

-- kind k is the one, if it does the deed
abbrev only_at : Deed → ℕ → ℕ → Bool
only_at deed at k = implies (same_deed (row_of k).deed deed) (eqb k at)

pub one_kind : (deed : Deed) (at : ℕ) → 0 < (code_of deed).0 → all (length table) (λ j. only_at deed at (0 + j)) ≡ true
    → (k : ℕ) → (row_of k).deed ≡ deed → k ≡ at
one_kind deed at some tried k e = go (dec_lt k (length table))
  where
    go : Dec (k < length table) → k ≡ at
    go (yes h) =
        let found = kinds_from 0 (length table) (only_at deed at) tried k (omega arith) (omega arith) in
        let itself : same_deed deed deed ≡ true = and_in (eq-eqb (code_of deed).0 _ refl) (eq-eqb (code_of deed).1 _ refl) in
        eqb-true k at (sym (ap (λ (t : Bool). implies t (eqb k at)) itself)
        ∙ subst (λ (x : Deed). implies (same_deed x deed) (eqb k at) ≡ true) e found)
    go (no h) =
        let none = ap (λ (r : Row). (code_of r.deed).0) (no_kind_past k (omega arith)) in
        let here = ap (λ (x : Deed). (code_of x).0) e in
        absurd (omega arith)
