-- What an assignment is answered, from what the code has read by then: 29 to 32.
use mathlib.Core.Path.{◌≡◌, refl, sym, ap, ap₂, ◌∙◌}
use mathlib.Core.Bool.{true, false}
use mathlib.Core.List.{[], ◌∷◌}
use Prim.Native.Nat.{ℕ, ◌<◌}
use borrow.Author.Tests.{eq-eqb, ne_eqb}
use Rattle.std.specs.Prelude.{Option, Some, None}
use Rattle.sets.specs.Mask.{bit}
use Rattle.rules.specs.Book.{Book, SME, roles_of}
use Rattle.rules.specs.Trade.{subject, reach, owned_tasks}
use Rattle.rules.specs.Numbers.{Said, accepted, say, say_xy, first_of, gained_task, gained_role, clashing, task_conflicts, junior_conflicts, role_conflicts}
use Rattle.rules.specs.Numbers.{self_inheritance, cycle, task_assignment, role_assignment, own_role_assignment}
use Rattle.owners.specs.Owners.{clashes_below, found_clash, told_clash}
use Rattle.owners.specs.declared.Owner.TheVariants.{Role, Subject}
use Rattle.gains.specs.Gains.{owners_conflict}
use Rattle.owners.proofs.ClashLaws.{clash_given, own_clash, no_own_clash}
use Rattle.deeds.proofs.ConflictLaws.{told, passed}

-- 31 and 32: what the searches among the owners of role b found, first of the roles.
module _ (d : Book) (gain b : ℕ) {v : Option (ℕ × ℕ)} (found : v ≡ found_clash (clashes_below d Role b gain)) where
  -- A role has a clash: it is told.
  pub role_told : {x y : ℕ} → v ≡ Some (x, y) → say_xy 31 x y ≡ owners_conflict d gain b
  role_told p = sym (clash_given _ 31 _ found p)

  -- None has: what was found of the subjects is told.
  pub subject_told : v ≡ None → {u w : Option (ℕ × ℕ)} → u ≡ found_clash (clashes_below d Subject b gain) → u ≡ w
      → told_clash 32 w accepted ≡ owners_conflict d gain b
  subject_told p found' q = sym (clash_given _ 31 _ found p ∙ clash_given _ 32 accepted found' q)

module _ (d : Book) (a b : ℕ) where
  -- Kind 8: 31 and 32 of the task that is gained.
  pub task_owners : {gain : ℕ} {out : Said} → gain ≡ gained_task d a → out ≡ owners_conflict d gain b → out ≡ first_of task_conflicts d a b
  unfolding first_of task_conflicts task_assignment role_assignment
  task_owners e p = p ∙ ap (λ (g : ℕ). owners_conflict d g b) e

  -- Kind 9. 29: a is b.
  pub junior_self : a ≡ b → say 29 ≡ first_of junior_conflicts d a b
  unfolding junior_conflicts self_inheritance
  junior_self e = told d a b self_inheritance _ _ _ (λ rest. refl) (eq-eqb a b e)

  module _ (two : a ≡ b → ⊥) where
    -- 30: a reaches b.
    pub junior_cycle : bit (reach d a) b ≡ true → say 30 ≡ first_of junior_conflicts d a b
    unfolding junior_conflicts self_inheritance cycle
    junior_cycle e = passed d a b self_inheritance _ _ _ (λ rest. refl) (ne_eqb a b two) (told d a b cycle _ _ _ (λ rest. refl) e)

    -- Neither: 31 and 32 are asked, of what the role brings.
    pub junior_owners : bit (reach d a) b ≡ false → {gain : ℕ} {out : Said} → gain ≡ gained_role d a → out ≡ owners_conflict d gain b
        → out ≡ first_of junior_conflicts d a b
    unfolding first_of junior_conflicts self_inheritance cycle task_assignment role_assignment
    junior_owners e gains p =
        let owners = task_assignment gained_role ∷ role_assignment gained_role ∷ [] in
        passed d a b self_inheritance (cycle ∷ owners) _ _ (λ rest. refl) (ne_eqb a b two)
        (passed d a b cycle owners _ _ (λ rest. refl) e (p ∙ ap (λ (g : ℕ). owners_conflict d g b) gains))

  -- Kind 10: of what subject b owns, y is what clashes with the gain.
  module _ {roles owned gain y : ℕ} (has : roles ≡ d.row roles_of b) (owns : owned ≡ owned_tasks d roles) (gains : gain ≡ gained_role d a)
      (found : y ≡ clashing (d.row SME) gain owned) where
    own : y ≡ clashing (d.row SME) (gained_role d a) (owned_tasks d (subject d b))
    own = found ∙ ap₂ (clashing (d.row SME)) gains (owns ∙ ap (owned_tasks d) has)

    pub own_told : b < 64 → (y ≡ 0 → ⊥) → say_xy 32 b y ≡ first_of role_conflicts d a b
    unfolding first_of role_conflicts own_role_assignment
    own_told hb some = sym (clash_given _ 32 accepted (own_clash d (subject d) b _ _ own hb some) refl)

    pub own_none : y ≡ 0 → accepted ≡ first_of role_conflicts d a b
    unfolding first_of role_conflicts own_role_assignment
    own_none none = sym (clash_given _ 32 accepted (no_own_clash d (subject d) b _ _ own none) refl)
