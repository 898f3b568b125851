-- In a well-formed book rules 1 to 8 are kept at an undefined number: its rows are empty, so nothing is asked of it.
use mathlib.Core.Path.{◌≡◌, refl, sym, ap, subst}
use mathlib.Core.Bool.{Bool, true, false, ◌&&◌, not}
use Prim.Native.Nat.{ℕ, ◌<◌}
use Rattle.sets.specs.Mask.{bit, meet}
use Rattle.sets.proofs.Logic.{and_in, and_out, not_both, not_in}
use Rattle.sets.proofs.MaskLaws.{bit_none, none_zero, one_out}
use Rattle.sets.proofs.SearchLaws.{all_in}
use Rattle.chains.specs.Relation.{Step, Chain}
use Rattle.chains.proofs.RelationLaws.{chain_alone}
use Rattle.rules.specs.Book.{Book, tasks, roles, subjects, SME, DME, RB, SB, juniors, tasks_of}
use Rattle.rules.specs.Trade.{role, subject, reach, owned_tasks, subject_group, role_group}
use Rattle.rules.specs.Audit.{of_four, not_own, symmetric, apart, pair_free, owner_free, rules, kept_at}
use Rattle.rules.specs.Meaning.{Sized, Between, Formed, OwnedFrom}
use Rattle.rules.proofs.Upto.{Upto, start, ◌next◌, upto_at}
use Rattle.rules.proofs.TradeLaws.{step_first, reach_out, owned_out}
use Rattle.audit.specs.Asked.{asked_by}

-- A row that is empty
module _ (rows : ℕ → ℕ) (x : ℕ) (e : rows x ≡ 0) where
  -- has not its own number,
  own_none : not_own rows x ≡ true
  unfolding not_own
  own_none = rw e (ap not (bit_none x))

  -- has nobody that would have to have x,
  symmetric_none : symmetric rows x ≡ true
  unfolding symmetric
  symmetric_none = all_in 64 _ (λ v h. rw (e, bit_none v))

  -- and meets no set.
  pub apart_none : (sets : ℕ → ℕ) → apart rows sets x ≡ true
  unfolding apart meet
  apart_none sets = rw e

-- Who owns nothing owns no pair.
owns_none : (d : Book) → Sized d → (m : ℕ) → ((t : ℕ) → OwnedFrom d m t → ⊥) → pair_free (d.row SME) (owned_tasks d m) ≡ true
unfolding pair_free
owns_none d s m none =
    let owned = owned_tasks d m in
    all_in 64 _ (λ u h. not_in (bit owned u && meet (d.row SME u) owned) (λ e.
    none u (owned_out d s m u (and_out (bit owned u) (meet (d.row SME u) owned) e).0)))

module _ (d : Book) (s : Sized d) (f : Formed d) where
  -- The rows of an undefined task are empty.
  row_none : (n : ℕ) → Between (tasks d) (tasks d) (d.row n) → (x : ℕ) → bit (tasks d) x ≡ false → d.row n x ≡ 0
  row_none n b x out = none_zero (d.row n x) ((s.rows n).fits x) (λ j e. not_both _ (b x j e).0 out)

  -- An undefined role reaches nobody,
  reaches_none : (x : ℕ) → bit (roles d) x ≡ false → not_own (reach d) x ≡ true
  unfolding not_own
  reaches_none x out = not_in _ (λ e.
      let w = reach_out d s x x e in
      let first = step_first w.way w.last in not_both _ (f.juniors_formed x first.0 first.1).0 out)

  -- and owns nothing,
  role_none : (x : ℕ) → bit (roles d) x ≡ false → (t : ℕ) → OwnedFrom d (role x) t → ⊥
  role_none x out t (r, q, i, c, g) =
      let none : (j : ℕ) → Step (d.row juniors) x j → ⊥ = λ j e. not_both _ (f.juniors_formed x j e).0 out in
      let here : x ≡ q = chain_alone none (subst (λ (y : ℕ). Chain (Step (d.row juniors)) y q) (sym (one_out x r i)) c) in
      not_both _ (f.tasks_formed x t (subst (λ (y : ℕ). Step (d.row tasks_of) y t) (sym here) g)).0 out

  -- nor does an undefined subject.
  subject_none : (x : ℕ) → bit (subjects d) x ≡ false → (t : ℕ) → OwnedFrom d (subject d x) t → ⊥
  subject_none x out t (r, q, i, c, g) = not_both _ (f.roles_formed x r i).0 out

  -- So each rule is kept at a number that it is not asked of.
  pub undefined_kept : (n : ℕ) → n < 9 → (x : ℕ) → bit (asked_by d n) x ≡ false → kept_at d n x ≡ true
  unfolding kept_at rules asked_by owner_free
  undefined_kept n h x = upto_at nine n h
    where
      four : (g : (ℕ → ℕ) → ℕ → Bool) → ((rows : ℕ → ℕ) → rows x ≡ 0 → g rows x ≡ true) → bit (tasks d) x ≡ false → of_four g d x ≡ true
      four g kept out =
          and_in (kept _ (row_none SME f.sme x out)) (and_in (kept _ (row_none DME f.dme x out))
          (and_in (kept _ (row_none RB f.rb x out)) (kept _ (row_none SB f.sb x out))))

      nine : Upto (λ n. bit (asked_by d n) x ≡ false → kept_at d n x ≡ true) 9
      nine =
          start next (λ out. refl)
          next four not_own (λ rows. own_none rows x)
          next four symmetric (λ rows. symmetric_none rows x)
          next (λ out. apart_none (d.row SME) x (row_none SME f.sme x out) (d.row DME))
          next (λ out. apart_none (d.row SME) x (row_none SME f.sme x out) (role_group d))
          next (λ out. apart_none (d.row DME) x (row_none DME f.dme x out) (subject_group d))
          next reaches_none x
          next (λ out. owns_none d s (role x) (role_none x out))
          next (λ out. owns_none d s (subject d x) (subject_none x out))
