-- What a new exclusion is answered, from what the code has read by then: the conflicts of kinds 4 and 5, one after the other.
use mathlib.Core.Path.{◌≡◌, refl, sym, ap, ◌∙◌}
use mathlib.Core.Bool.{Bool, true, false}
use mathlib.Core.List.{[], ◌∷◌}
use Prim.Native.Nat.{ℕ}
use Rattle.std.specs.Prelude.{Some, None}
use borrow.Author.Tests.{eq-eqb, ne_eqb}
use Rattle.sets.specs.Mask.{bit}
use Rattle.sets.specs.Members.{IsLowest}
use Rattle.rules.specs.Book.{Book, SME, DME}
use Rattle.rules.specs.Trade.{role, subject, subject_group, role_group}
use Rattle.rules.specs.Numbers.{Said, accepted, say, say_x, first_of, owns_both, sme_conflicts, dme_conflicts}
use Rattle.rules.specs.Numbers.{self_constraint, already_dme, already_sme, one_subject_group, one_role_group, role_owns_both, subject_owns_both}
use Rattle.deeds.proofs.CascadeLaws.{lowest_yes, lowest_no}
use Rattle.deeds.proofs.ConflictLaws.{told, passed}

-- What is said of a member of a set that was read is said of the set that it is.
pub member : {read set : ℕ} (i : ℕ) {t : Bool} → read ≡ set → t ≡ bit read i → bit set i ≡ t
member i e f = sym (f ∙ ap (λ (m : ℕ). bit m i) e)

module _ (d : Book) (a b : ℕ) where
  -- 25 and 26, with the lowest role and the lowest subject that own both tasks.
  pub role_owns_both_lem : {x : ℕ} → IsLowest (owns_both d role a b) (Some x) → say_x 25 x ≡ first_of (role_owns_both ∷ subject_owns_both ∷ []) d a b
  unfolding first_of role_owns_both
  role_owns_both_lem found = lowest_yes 25 _ _ found

  module _ (none : IsLowest (owns_both d role a b) None) where
    subjects_asked : {out : Said} → out ≡ first_of (subject_owns_both ∷ []) d a b → out ≡ first_of (role_owns_both ∷ subject_owns_both ∷ []) d a b
    unfolding first_of role_owns_both
    subjects_asked p = lowest_no 25 _ _ none p

    pub subject_owns_both_lem : {y : ℕ} → IsLowest (owns_both d (subject d) a b) (Some y)
        → say_x 26 y ≡ first_of (role_owns_both ∷ subject_owns_both ∷ []) d a b
    unfolding first_of subject_owns_both
    subject_owns_both_lem found = subjects_asked (lowest_yes 26 _ _ found)

    pub none_owns_both : IsLowest (owns_both d (subject d) a b) None → accepted ≡ first_of (role_owns_both ∷ subject_owns_both ∷ []) d a b
    unfolding first_of subject_owns_both
    none_owns_both none' = subjects_asked (lowest_no 26 _ _ none' refl)

  -- Kind 4. 20: a is b.
  pub sme_self : a ≡ b → say 20 ≡ first_of sme_conflicts d a b
  unfolding sme_conflicts self_constraint
  sme_self e = told d a b self_constraint _ _ _ (λ rest. refl) (eq-eqb a b e)

  module _ (two : a ≡ b → ⊥) where
    -- 21: they are DME.
    pub sme_dme : bit (d.row DME a) b ≡ true → say 21 ≡ first_of sme_conflicts d a b
    unfolding sme_conflicts self_constraint already_dme
    sme_dme e = passed d a b self_constraint _ _ _ (λ rest. refl) (ne_eqb a b two) (told d a b already_dme _ _ _ (λ rest. refl) e)

    module _ (free : bit (d.row DME a) b ≡ false) where
      groups_asked : {out : Said} → out ≡ first_of (one_subject_group ∷ one_role_group ∷ role_owns_both ∷ subject_owns_both ∷ []) d a b
          → out ≡ first_of sme_conflicts d a b
      unfolding sme_conflicts self_constraint already_dme
      groups_asked p =
          passed d a b self_constraint _ _ _ (λ rest. refl) (ne_eqb a b two) (passed d a b already_dme _ _ _ (λ rest. refl) free p)

      -- 23: they lie in one subject group.
      pub sme_subject_group : bit (subject_group d a) b ≡ true → say 23 ≡ first_of sme_conflicts d a b
      unfolding one_subject_group
      sme_subject_group e = groups_asked (told d a b one_subject_group _ _ _ (λ rest. refl) e)

      module _ (apart : bit (subject_group d a) b ≡ false) where
        -- 24: they lie in one role group.
        pub sme_role_group : bit (role_group d a) b ≡ true → say 24 ≡ first_of sme_conflicts d a b
        unfolding one_subject_group one_role_group
        sme_role_group e =
            groups_asked (passed d a b one_subject_group _ _ _ (λ rest. refl) apart (told d a b one_role_group _ _ _ (λ rest. refl) e))

        -- None of these: who owns both is asked.
        pub sme_owners : bit (role_group d a) b ≡ false → {out : Said} → out ≡ first_of (role_owns_both ∷ subject_owns_both ∷ []) d a b
            → out ≡ first_of sme_conflicts d a b
        unfolding one_subject_group one_role_group
        sme_owners e p =
            groups_asked (passed d a b one_subject_group _ _ _ (λ rest. refl) apart (passed d a b one_role_group _ _ _ (λ rest. refl) e p))

  -- Kind 5. 20: a is b.
  pub dme_self : a ≡ b → say 20 ≡ first_of dme_conflicts d a b
  unfolding dme_conflicts self_constraint
  dme_self e = told d a b self_constraint _ _ _ (λ rest. refl) (eq-eqb a b e)

  module _ (two : a ≡ b → ⊥) where
    -- 22: they are SME.
    pub dme_sme : bit (d.row SME a) b ≡ true → say 22 ≡ first_of dme_conflicts d a b
    unfolding dme_conflicts self_constraint already_sme
    dme_sme e = passed d a b self_constraint _ _ _ (λ rest. refl) (ne_eqb a b two) (told d a b already_sme _ _ _ (λ rest. refl) e)

    module _ (free : bit (d.row SME a) b ≡ false) where
      group_asked : {out : Said} → out ≡ first_of (one_subject_group ∷ []) d a b → out ≡ first_of dme_conflicts d a b
      unfolding dme_conflicts self_constraint already_sme
      group_asked p =
          passed d a b self_constraint _ _ _ (λ rest. refl) (ne_eqb a b two) (passed d a b already_sme _ _ _ (λ rest. refl) free p)

      -- 23: they lie in one subject group.
      pub dme_subject_group : bit (subject_group d a) b ≡ true → say 23 ≡ first_of dme_conflicts d a b
      unfolding one_subject_group
      dme_subject_group e = group_asked (told d a b one_subject_group _ _ _ (λ rest. refl) e)

      -- None of these.
      pub dme_none : bit (subject_group d a) b ≡ false → accepted ≡ first_of dme_conflicts d a b
      unfolding first_of one_subject_group
      dme_none e = group_asked (passed d a b one_subject_group [] _ _ (λ rest. refl) e refl)
