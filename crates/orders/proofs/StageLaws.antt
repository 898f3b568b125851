-- Kind 13's refusals, each from what the code has read when it answers; and what an accepted allocation knows and does.
use mathlib.Core.Path.{◌≡◌, refl, sym, ap, ◌∙◌}
use mathlib.Core.Logic.{◌⊎◌, inl, inr}
use mathlib.Core.Bool.{Bool, true, false, ◌&&◌, not}
use Prim.Native.Nat.{ℕ, ◌-◌}
use lib.Dec.{eqb}
use borrow.Author.Tests.{eq-eqb, ne_eqb, not-false}
use Rattle.sets.specs.Mask.{bit}
use Rattle.std.specs.Prelude.{Some, None}
use Rattle.sets.specs.Members.{IsLowest}
use Rattle.sets.proofs.Logic.{and_in, and_fails_l, and_fails_r}
use Rattle.rules.specs.Book.{Book, active, orders, role_in, subject_in}
use Rattle.rules.specs.Trade.{role, owned_tasks}
use Rattle.rules.specs.Requests.{allocate, role_hand, subject_hand, stamped, change}
use Rattle.rules.specs.Numbers.{Said, accepted, say, say_x, outside, active_owned, state_refusal}
use Rattle.rules.specs.Numbers.{task_refusal, other_role, role_refusal, cell_refusal, allocate_refusal}
use Rattle.rules.proofs.NumberLaws.{given_out, or_else_out}
use Rattle.deeds.specs.Outcome.{decide}
use Rattle.deeds.proofs.CascadeLaws.{given_yes, given_no, lowest_yes, lowest_no}

-- Whether the role that stands there is another one than e's, by what the two tests of it said.
pub is_other : {had e : ℕ} → (had ≡ 0 → ⊥) → (had ≡ e → ⊥) → (not (eqb had 0) && not (eqb had e)) ≡ true
is_other {had} {e} some two = and_in (ap not (ne_eqb had 0 some)) (ap not (ne_eqb had e two))

pub no_other : {had e : ℕ} → (((had ≡ 0 → ⊥) × (had ≡ e)) ⊎ (had ≡ 0)) → (not (eqb had 0) && not (eqb had e)) ≡ false
no_other {had} {e} (inl same) = and_fails_r (not (eqb had 0)) _ (ap not (eq-eqb had e same.1))
no_other {had} {e} (inr none) = and_fails_l _ (not (eqb had e)) (ap not (eq-eqb had 0 none))

-- 9 to 11, with the hand and the role that were read from the cell; e is the executing role, plus 1.
module _ (d : Book) (a b e : ℕ) {hand : ℕ} (is_hand : hand ≡ subject_in (d.cell b a)) where
  -- 9: the cell has a subject.
  pub has_subject : (hand ≡ 0 → ⊥) → say_x 9 (hand - 1) ≡ cell_refusal d a b e
  has_subject n =
      ap (λ (x : ℕ). say_x 9 (x - 1)) is_hand ∙ given_yes _ _ _ (ap not (ne_eqb (subject_in (d.cell b a)) 0 (λ z. n (is_hand ∙ z))))

  module _ (free : hand ≡ 0) {had : ℕ} (is_role : had ≡ role_in (d.cell b a)) where
    -- the cell has no subject: on with 10
    role_asked : {out : Said} → out ≡ role_refusal d a b e → out ≡ cell_refusal d a b e
    role_asked p = given_no _ _ _ (ap not (eq-eqb (subject_in (d.cell b a)) 0 (sym is_hand ∙ free))) p

    -- whether the role that was read is another one
    abbrev pub Other : Bool
    Other = not (eqb had 0) && not (eqb had e)

    other : {t : Bool} → Other ≡ t → other_role (d.cell b a) e ≡ t
    other p = sym (ap (λ (x : ℕ). not (eqb x 0) && not (eqb x e)) is_role) ∙ p

    -- 10: the cell has another role.
    pub has_role_lem : Other ≡ true → say_x 10 (had - 1) ≡ cell_refusal d a b e
    has_role_lem h = role_asked (ap (λ (x : ℕ). say_x 10 (x - 1)) is_role ∙ given_yes _ _ _ (other h))

    module _ (same : Other ≡ false) where
      abbrev unowned : ℕ → Bool
      unowned = outside (role_hand d a b) (owned_tasks d (role (e - 1)))

      -- the cell has no other role: on with 11
      tasks_asked : {out : Said} → out ≡ task_refusal d a b e → out ≡ cell_refusal d a b e
      tasks_asked p = role_asked (given_no _ _ _ (other same) p)

      -- 11: the role doesn't own task t.
      pub task_unowned : {t : ℕ} → IsLowest unowned (Some t) → say_x 11 t ≡ cell_refusal d a b e
      task_unowned found = tasks_asked (lowest_yes 11 unowned accepted found)

      -- It owns them all.
      pub all_owned : IsLowest unowned None → accepted ≡ cell_refusal d a b e
      all_owned found = tasks_asked (lowest_no 11 unowned accepted found refl)

-- 4 and 8, with what was read of the order and the subject.
module _ (d : Book) (a b c : ℕ) {member : Bool} (is_member : member ≡ bit (d.row orders b) a) where
  -- 4: a is not in the order.
  pub not_in_order : not member ≡ true → say_x 4 1 ≡ allocate_refusal d a b c
  unfolding allocate_refusal
  not_in_order h = given_yes _ _ _ (ap not (sym is_member) ∙ h)

  module _ (is_in_order : not member ≡ false) {own : Bool} (is_own : own ≡ active_owned d c) where
    -- 8: c has no active role or doesn't own it now.
    pub not_owned : not own ≡ true → say 8 ≡ allocate_refusal d a b c
    unfolding allocate_refusal
    not_owned h = given_no _ _ _ (ap not (sym is_member) ∙ is_in_order) (given_yes _ _ _ (ap not (sym is_own) ∙ h))

    -- Else the cell is asked, for the active role.
    pub cell_asked : not own ≡ false → {e : ℕ} → e ≡ d.row active c → {out : Said} → out ≡ cell_refusal d a b e → out ≡ allocate_refusal d a b c
    unfolding allocate_refusal
    cell_asked h word p =
        given_no _ _ _ (ap not (sym is_member) ∙ is_in_order) (given_no _ _ _ (ap not (sym is_own) ∙ h) (p ∙ ap (cell_refusal d a b) word))

-- Where an allocation is accepted, the subject owns its active role ..
pub allocated_owned : (d : Book) (a b c : ℕ) → accepted ≡ decide d allocate a b c → active_owned d c ≡ true
unfolding decide state_refusal allocate_refusal
allocated_owned d a b c told =
    let refusal = (or_else_out (allocate_refusal d a b c) _ (sym told)).0 in
    let order = given_out _ 4 _ _ refusal in
    not-false (active_owned d c) (given_out _ 8 _ _ order.1).0

-- .. and the cells are stamped by the two hands with that role.
pub allocated_stamped : (d : Book) (a b c : ℕ) {after : Book} {wide narrow e : ℕ} → after ≡ stamped d b wide narrow e c
    → wide ≡ role_hand d a b → narrow ≡ subject_hand d a b → e ≡ d.row active c → after ≡ change d allocate a b c
unfolding change
allocated_stamped d a b c stored f g h = stored ∙ (λ i. stamped d b (f i) (g i) (h i) c)
