-- How a search shows that it gives the clash, how a caller says it as an answer, and that where one owner alone is asked (kind 10) the clash
-- is its own.
use mathlib.Core.Path.{◌≡◌, refl, sym, ap, ◌∙◌, subst}
use mathlib.Core.Bool.{Bool, true, false, not}
use Rattle.std.proofs.Common.{Option, Some, None}
use Prim.Native.Nat.{ℕ, ◌<◌}
use native.Mathlib.Omega.{arith}
use lib.Dec.{ltb, eqb}
use borrow.Author.Tests.{eqb-true, eq-eqb, ne_eqb, lt-ltb}
use Rattle.sets.specs.Mask.{only}
use Rattle.sets.specs.Search.{lowest}
use Rattle.sets.proofs.Logic.{not_both}
use Rattle.sets.proofs.SearchLaws.{lowest_passes, lowest_some, lowest_end}
use Rattle.rules.specs.Book.{Book, SME}
use Rattle.rules.specs.Trade.{Owner, owned_tasks}
use Rattle.rules.specs.Numbers.{Said, say_xy, given, has_some, given_set, clashing, clashes}
use Rattle.owners.specs.Owners.{clash_of, found_clash, told_clash}

module _ (f : ℕ → ℕ) where
  -- The clash is o, the lowest whose set is not empty, and its set.
  pub clash_at : (o m : ℕ) → o < 64 → o ≡ lowest (has_some f) → m ≡ f o → Some (o, m) ≡ found_clash f
  unfolding found_clash clash_of
  clash_at o m h e p =
      ap (λ (x : ℕ). Some (o, x)) p
      ∙ sym (ap (λ (t : Bool). elim t as (λ (z : Bool). Option (ℕ × ℕ)) [ true ↦ Some (o, f o) | false ↦ None ]) (lt-ltb o 64 h))
      ∙ ap (clash_of f) e

  -- There is none where all sets are empty.
  pub none_at : 64 ≡ lowest (has_some f) → None ≡ found_clash f
  unfolding found_clash clash_of
  none_at e = ap (clash_of f) e

  -- The clash said as an answer is the answer of the rules.
  clash_said : (n : ℕ) (rest : Said) → told_clash n (found_clash f) rest ≡ given_set n f rest
  unfolding found_clash clash_of given_set given
  clash_said n rest = go (lowest (has_some f)) (ltb (lowest (has_some f)) 64)
    where
      go : (o : ℕ) (t : Bool) → told_clash n (elim t [ true ↦ Some (o, f o) | false ↦ None ]) rest
          ≡ (elim t as (λ (z : Bool). Said) [ true ↦ say_xy n o (f o) | false ↦ rest ])
      go o true = refl
      go o false = refl

  -- For a caller of a search that gave v: the number is given with what v is, or the rest is asked.
  pub clash_given : (n : ℕ) (rest : Said) {v w : Option (ℕ × ℕ)} → v ≡ found_clash f → v ≡ w → given_set n f rest ≡ told_clash n w rest
  clash_given n rest e p = sym (clash_said n rest) ∙ ap (λ (w : Option (ℕ × ℕ)). told_clash n w rest) (sym e ∙ p)

-- Owner b alone is asked; y is what clashes of what it owns.
module _ (d : Book) (start : Owner) (b gain y : ℕ) (is_clash : y ≡ clashing (d.row SME) gain (owned_tasks d (start b))) where
  asked : ℕ → ℕ
  asked = clashes d start (eqb b) gain

  -- the clash of b is its own
  own : y ≡ asked b
  unfolding asked
  own = is_clash ∙ sym (ap (λ (t : Bool). only t (clashing (d.row SME) gain (owned_tasks d (start b)))) (eq-eqb b b refl))

  -- nobody else has a clash
  others : (o : ℕ) → eqb b o ≡ false → has_some asked o ≡ false
  unfolding asked
  others o e = ap (λ (t : Bool). not (eqb (only t (clashing (d.row SME) gain (owned_tasks d (start o)))) 0)) e

  only_own : (o : ℕ) → has_some asked o ≡ true → b ≡ o
  only_own o e = go (eqb b o) refl
    where
      go : (t : Bool) → eqb b o ≡ t → b ≡ o
      go true p = eqb-true b o p
      go false p = absurd (not_both (has_some asked o) e (others o p))

  -- It has a clash: that is found.
  pub own_clash : b < 64 → (y ≡ 0 → ⊥) → Some (b, y) ≡ found_clash (clashes d start (eqb b) gain)
  unfolding asked
  own_clash hb some =
      let has : has_some asked b ≡ true = ap (λ (m : ℕ). not (eqb m 0)) (sym own) ∙ ap not (ne_eqb y 0 some) in
      let found : lowest (has_some asked) < 64 = lowest_some 64 0 (has_some asked) b (omega arith) (omega arith) has in
      clash_at asked b y hb (only_own (lowest (has_some asked)) (lowest_passes 64 0 (has_some asked) found)) own

  -- It has none: nobody has.
  pub no_own_clash : y ≡ 0 → None ≡ found_clash (clashes d start (eqb b) gain)
  unfolding asked
  no_own_clash none = none_at asked (lowest_end 64 (has_some asked) (λ o l. go o (eqb b o) refl))
    where
      go : (o : ℕ) (t : Bool) → eqb b o ≡ t → has_some asked o ≡ false
      go o false e = others o e
      go o true e = subst (λ (k : ℕ). has_some asked k ≡ false) (eqb-true b o e) (ap (λ (m : ℕ). not (eqb m 0)) (sym own ∙ none))
