-- What a new binding is answered, from what the code has read by then: the conflicts of kinds 6 and 7, one after the other.
use mathlib.Core.Path.{◌≡◌, refl, sym, ap, ◌∙◌}
use mathlib.Core.Bool.{true, false}
use mathlib.Core.List.{List, [], ◌∷◌}
use Prim.Native.Nat.{ℕ, ◌<◌}
use Rattle.std.specs.Prelude.{Option, Some, None}
use borrow.Author.Tests.{eq-eqb, ne_eqb}
use Rattle.sets.specs.Mask.{bit}
use Rattle.chains.specs.Closure.{close}
use Rattle.rules.specs.Book.{Book, SME, DME, RB, SB}
use Rattle.rules.specs.Trade.{mixed, subject_group, role_group}
use Rattle.rules.specs.Numbers.{Said, say, say_xy, Conflict, given_pair, between, first_of, rb_conflicts, sb_conflicts}
use Rattle.rules.specs.Numbers.{self_constraint, already_dme, already_sme, sme_between_groups, dme_between_groups}
use Rattle.rules.specs.Meaning.{Sized}
use Rattle.trade.proofs.MixedLaws.{around}
use Rattle.search.specs.Pairs.{found_pair}
use Rattle.search.proofs.PairLaws.{given_pair_lem, given_nothing}
use Rattle.deeds.proofs.ConflictLaws.{told, passed}

-- 27 and 28: number n, where a search over some rows between xs and ys gave v.
module _ (rows : ℕ → ℕ) (n xs ys : ℕ) (rest : Said) {v : Option (ℕ × ℕ)} (found : v ≡ found_pair (between rows xs ys)) where
  -- A pair is told ..
  pub between_told : {x y : ℕ} → v ≡ Some (x, y) → say_xy n x y ≡ given_pair n (between rows xs ys) rest
  between_told p = sym (given_pair_lem _ n 0 rest found p)

  -- .. and without one the rest is asked.
  pub between_none : v ≡ None → {out : Said} → out ≡ rest → out ≡ given_pair n (between rows xs ys) rest
  between_none p q = q ∙ sym (given_nothing _ n 0 rest found p)

module _ (d : Book) (a b : ℕ) (fs : List Conflict) where
  -- Where xs and ys are the groups of a and b, this is what 27 asks ..
  pub sme_groups : {xs ys : ℕ} {out : Said} → xs ≡ role_group d a → ys ≡ role_group d b
      → out ≡ given_pair 27 (between (d.row SME) xs ys) (first_of fs d a b) → out ≡ first_of (sme_between_groups ∷ fs) d a b
  unfolding first_of sme_between_groups
  sme_groups e f p = p ∙ (λ i. given_pair 27 (between (d.row SME) (e i) (f i)) (first_of fs d a b))

  -- .. also where they were made of the subject groups ..
  pub sme_around : Sized d → a < 64 → b < 64 → {xs ys wide-xs wide-ys : ℕ} {out : Said} → xs ≡ subject_group d a → ys ≡ subject_group d b
      → wide-xs ≡ close 64 (mixed d SB RB) xs → wide-ys ≡ close 64 (mixed d SB RB) ys
      → out ≡ given_pair 27 (between (d.row SME) wide-xs wide-ys) (first_of fs d a b) → out ≡ first_of (sme_between_groups ∷ fs) d a b
  sme_around s ha hb e f p q =
      sme_groups (p ∙ ap (close 64 (mixed d SB RB)) e ∙ around d s a ha) (q ∙ ap (close 64 (mixed d SB RB)) f ∙ around d s b hb)

  -- .. and 28.
  pub dme_groups : {xs ys : ℕ} {out : Said} → xs ≡ subject_group d a → ys ≡ subject_group d b
      → out ≡ given_pair 28 (between (d.row DME) xs ys) (first_of fs d a b) → out ≡ first_of (dme_between_groups ∷ fs) d a b
  unfolding first_of dme_between_groups
  dme_groups e f p = p ∙ (λ i. given_pair 28 (between (d.row DME) (e i) (f i)) (first_of fs d a b))

module _ (d : Book) (a b : ℕ) where
  -- Kind 6. 20: a is b.
  pub rb_self : a ≡ b → say 20 ≡ first_of rb_conflicts d a b
  unfolding rb_conflicts self_constraint
  rb_self e = told d a b self_constraint _ _ _ (λ rest. refl) (eq-eqb a b e)

  module _ (two : a ≡ b → ⊥) where
    -- 22: they are SME.
    pub rb_sme : bit (d.row SME a) b ≡ true → say 22 ≡ first_of rb_conflicts d a b
    unfolding rb_conflicts self_constraint already_sme
    rb_sme e = passed d a b self_constraint _ _ _ (λ rest. refl) (ne_eqb a b two) (told d a b already_sme _ _ _ (λ rest. refl) e)

    -- Neither: 27 is asked.
    pub rb_groups : bit (d.row SME a) b ≡ false → {out : Said} → out ≡ first_of (sme_between_groups ∷ []) d a b → out ≡ first_of rb_conflicts d a b
    unfolding rb_conflicts self_constraint already_sme
    rb_groups e p =
        passed d a b self_constraint _ _ _ (λ rest. refl) (ne_eqb a b two) (passed d a b already_sme _ _ _ (λ rest. refl) e p)

  -- Kind 7. 20: a is b.
  pub sb_self : a ≡ b → say 20 ≡ first_of sb_conflicts d a b
  unfolding sb_conflicts self_constraint
  sb_self e = told d a b self_constraint _ _ _ (λ rest. refl) (eq-eqb a b e)

  module _ (two : a ≡ b → ⊥) where
    -- 21: they are DME.
    pub sb_dme : bit (d.row DME a) b ≡ true → say 21 ≡ first_of sb_conflicts d a b
    unfolding sb_conflicts self_constraint already_dme
    sb_dme e = passed d a b self_constraint _ _ _ (λ rest. refl) (ne_eqb a b two) (told d a b already_dme _ _ _ (λ rest. refl) e)

    module _ (free : bit (d.row DME a) b ≡ false) where
      sme_asked : {out : Said} → out ≡ first_of (already_sme ∷ sme_between_groups ∷ dme_between_groups ∷ []) d a b → out ≡ first_of sb_conflicts d a b
      unfolding sb_conflicts self_constraint already_dme
      sme_asked p =
          passed d a b self_constraint _ _ _ (λ rest. refl) (ne_eqb a b two) (passed d a b already_dme _ _ _ (λ rest. refl) free p)

      -- 22: they are SME.
      pub sb_sme : bit (d.row SME a) b ≡ true → say 22 ≡ first_of sb_conflicts d a b
      unfolding already_sme
      sb_sme e = sme_asked (told d a b already_sme _ _ _ (λ rest. refl) e)

      -- Neither: 27 and 28 are asked.
      pub sb_groups : bit (d.row SME a) b ≡ false → {out : Said} → out ≡ first_of (sme_between_groups ∷ dme_between_groups ∷ []) d a b
          → out ≡ first_of sb_conflicts d a b
      unfolding already_sme
      sb_groups e p = sme_asked (passed d a b already_sme _ _ _ (λ rest. refl) e p)
