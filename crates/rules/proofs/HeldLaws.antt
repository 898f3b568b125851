-- What a subject holds, as it is computed: the tasks of one order whose cells have its number, and those of all orders together.
use mathlib.Core.Path.{◌≡◌, refl, sym, subst}
use mathlib.Core.Bool.{Bool, true, false}
use Prim.Native.Nat.{ℕ, suc, ◌-◌, ◌^◌, ◌≤◌, ◌<◌}
use native.Mathlib.Omega.{arith}
use native.Mathlib.Decide.{dec_lt}
use borrow.Author.Tests.{eqb-true}
use Rattle.sets.specs.Mask.{only}
use Rattle.sets.proofs.Logic.{not_both, not_in}
use Rattle.sets.proofs.MaskLaws.{bit_lt, in_full, none_zero, zero_none, only_lt, joined_in, joined_out, joined_lt, picked_lt}
use Rattle.chains.specs.Relation.{Relation, In, Step}
use Rattle.rules.specs.Book.{Book, subjects, orders, subject_in}
use Rattle.rules.specs.Requests.{is_open}
use Rattle.rules.specs.Numbers.{in_hand, held_by}
use Rattle.rules.specs.Audit.{held_anywhere}
use Rattle.rules.specs.Meaning.{Sized, Formed}
use Rattle.rules.proofs.Exactly.{exactly_eqb, exactly_picked}
use Rattle.rules.proofs.TradeLaws.{Shows, step_from}

-- Subject c holds task t in order p: t is a task of the order, and S in its cell is c.
abbrev pub Holds : Book → ℕ → Relation
Holds d p c t = Step (d.row orders) p t × (subject_in (d.cell p t) ≡ suc c)

-- The sets of held tasks show who holds what.
pub held_shows : (d : Book) → Sized d → (p : ℕ) → Shows (Holds d p) (held_by d p)
unfolding held_by
held_shows d s p = record {
  fits = λ c h. picked_lt (in_hand d p c) (d.row orders p);
  says = λ c t h. exactly_picked (in_hand d p c) (d.row orders p) t ((s.rows orders).fits p) (exactly_eqb (subject_in (d.cell p t)) (suc c));
}

-- Subject c holds task t in one order or another.
abbrev pub HoldsAnywhere : Book → Relation
HoldsAnywhere d c t = (p : ℕ) × Holds d p c t

-- An order that has a task is open ..
pub open_order_lem : (d : Book) (p t : ℕ) → Step (d.row orders) p t → is_open d p ≡ true
unfolding is_open
open_order_lem d p t i = not_in _ (λ e. zero_none t (eqb-true (d.row orders p) 0 e) i)

-- .. so in one that is not nothing is held.
pub held_open : (d : Book) → Sized d → (p c : ℕ) → c < 64 → only (is_open d p) (held_by d p c) ≡ held_by d p c
held_open d s p c h = go (is_open d p) refl
  where
    go : (b : Bool) → is_open d p ≡ b → only b (held_by d p c) ≡ held_by d p c
    go true e = refl
    go false e = sym (none_zero (held_by d p c) ((held_shows d s p).fits c h) (λ t i.
        not_both (is_open d p) (open_order_lem d p t (((held_shows d s p).says c t h).means i).0) e))

-- What is held in each open order, joined, shows it.
pub anywhere_shows : (d : Book) → Sized d → Shows (HoldsAnywhere d) (held_anywhere d)
unfolding held_anywhere
anywhere_shows d s = record {
  fits = λ c h. joined_lt (rows c) (λ p. only_lt (is_open d p) (held_by d p c) ((held_shows d s p).fits c h)) 64 (2 ^ 64 - 1);
  says = λ c t h. record {
    means = λ e. (
        let w = joined_out (rows c) 64 (2 ^ 64 - 1) t e in
        (w.0, ((held_shows d s w.0).says c t h).means (subst (λ (m : ℕ). In m t) (held_open d s w.0 c h) w.2)));
    holds = λ (p, x).
        let l = step_from (s.rows orders) p t x.0 in
        joined_in (rows c) 64 (2 ^ 64 - 1) p t l (in_full p l)
        (subst (λ (m : ℕ). In m t) (sym (held_open d s p c h)) (((held_shows d s p).says c t h).holds x));
  };
}
  where
    rows : ℕ → ℕ → ℕ
    rows c p = only (is_open d p) (held_by d p c)

-- In a well-formed book S in a cell is 0 or the number of a subject, plus 1 ..
pub hand_lt : (d : Book) → Sized d → Formed d → (p t c : ℕ) → subject_in (d.cell p t) ≡ suc c → c < 64
hand_lt d s f p t c e = bit_lt (subjects d) c (s.head.fits 2) ((f.cells_formed p t).subject c e).0

-- .. and so at most 64.
pub hand_le : (d : Book) → Sized d → Formed d → (p t : ℕ) → subject_in (d.cell p t) ≤ 64
hand_le d s f p t = go (dec_lt 0 (subject_in (d.cell p t)))
  where
    go : Dec (0 < subject_in (d.cell p t)) → subject_in (d.cell p t) ≤ 64
    go (yes h) = let l = hand_lt d s f p t (subject_in (d.cell p t) - 1) (omega arith) in omega arith
    go (no h) = omega arith
