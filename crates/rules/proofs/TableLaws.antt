-- What a run of kinds does, by one computed test over the fixed table of kinds.
-- Deeds are compared by their place in a list and by their table.
use mathlib.Core.Path.{◌≡◌, refl, sym, ap₂, ◌∙◌, subst}
use mathlib.Core.Bool.{Bool, true, ◌&&◌}
use mathlib.Core.List.{List, [], ◌∷◌}
use Prim.Native.Nat.{ℕ, ◌+◌, ◌-◌, ◌≤◌, ◌<◌}
use native.Mathlib.Omega.{arith}
use lib.Dec.{eqb}
use lib.ListN.{length, get_or, get_or-eq_default}
use borrow.Author.Tests.{eqb-true}
use Rattle.sets.specs.Search.{all}
use Rattle.sets.proofs.Logic.{and_out}
use Rattle.sets.proofs.SearchLaws.{all_out}
use Rattle.rules.specs.Requests.{Deed, nothing, define, relate, assign, activate, open_order, allocate, close_order, take_back, unrelate}
use Rattle.rules.specs.Requests.{no_row, table, row_of}

-- Every deed, given its table; those without one ignore it.
deeds : List (ℕ → Deed)
deeds = (λ n. nothing) ∷ define ∷ relate ∷ assign ∷ (λ n. activate) ∷ (λ n. open_order) ∷ (λ n. allocate) ∷ (λ n. close_order) ∷ take_back ∷ unrelate ∷ []

-- the place of a deed in the list, and its table
abbrev Code : Type 0
Code = ℕ × ℕ

abbrev pub code_of : Deed → Code
code_of nothing = (0, 0)
code_of (define n) = (1, n)
code_of (relate n) = (2, n)
code_of (assign n) = (3, n)
code_of activate = (4, 0)
code_of open_order = (5, 0)
code_of allocate = (6, 0)
code_of close_order = (7, 0)
code_of (take_back n) = (8, n)
code_of (unrelate n) = (9, n)

deed_at : ℕ → ℕ → Deed
unfolding deeds
deed_at i n = (get_or deeds i (λ n. nothing)) n

-- A deed is found again at its place.
back : (k : Deed) → deed_at (code_of k).0 (code_of k).1 ≡ k
unfolding deed_at deeds
back nothing = refl
back (define n) = refl
back (relate n) = refl
back (assign n) = refl
back activate = refl
back open_order = refl
back allocate = refl
back close_order = refl
back (take_back n) = refl
back (unrelate n) = refl

abbrev pub same_deed : Deed → Deed → Bool
same_deed k l = eqb (code_of k).0 (code_of l).0 && eqb (code_of k).1 (code_of l).1

same_deed_lem : (k l : Deed) → same_deed k l ≡ true → k ≡ l
same_deed_lem k l e =
    let p = and_out (eqb (code_of k).0 (code_of l).0) _ e in
    sym (back k) ∙ ap₂ deed_at (eqb-true _ _ p.0) (eqb-true _ _ p.1) ∙ back l

-- A test of n kinds from i on says it of each of them.
pub kinds_from : (i n : ℕ) (f : ℕ → Bool) → all n (λ j. f (i + j)) ≡ true → (k : ℕ) → i ≤ k → k < i + n → f k ≡ true
kinds_from i n f e k h l =
    let q : i + (k - i) ≡ k = omega arith in
    subst (λ (x : ℕ). f x ≡ true) q (all_out n (λ j. f (i + j)) e (k - i) (omega arith))

-- So n kinds from i on do what a family of deeds says, where the test of them all passes.
pub deeds_from : (i n : ℕ) (f : ℕ → Deed) → all n (λ j. same_deed (row_of (i + j)).deed (f (i + j - i))) ≡ true
    → (k : ℕ) → i ≤ k → k < i + n → (row_of k).deed ≡ f (k - i)
deeds_from i n f e k h l = same_deed_lem _ _ (kinds_from i n (λ k. same_deed (row_of k).deed (f (k - i))) e k h l)

-- Past the last row there is no kind.
pub no_kind_past : (k : ℕ) → length table ≤ k → row_of k ≡ no_row
unfolding row_of
no_kind_past k h = get_or-eq_default table no_row h
