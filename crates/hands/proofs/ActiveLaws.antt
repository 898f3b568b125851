-- The active word of a subject, 0 or the number of its active role plus 1: when the subject owns that role.
use mathlib.Core.Path.{◌≡◌, sym, ap, ◌∙◌}
use mathlib.Core.Bool.{Bool, true, false, ◌&&◌, not}
use Prim.Native.Nat.{ℕ, ◌-◌, ◌^◌, ◌≤◌, ◌<◌}
use native.Mathlib.Omega.{arith}
use lib.Dec.{eqb}
use borrow.Author.Tests.{eqb-false, eq-eqb, ne_eqb, not-true}
use Rattle.sets.specs.Mask.{bit}
use Rattle.sets.proofs.Logic.{and_out, and_fails_l, and_fails_r}
use Rattle.sets.proofs.MaskLaws.{bit_lt, bit_high}
use Rattle.rules.specs.Book.{Book, roles_of, active}
use Rattle.rules.specs.Trade.{subject, below, owns_role}
use Rattle.rules.specs.Numbers.{active_owned}
use Rattle.rules.specs.Meaning.{Sized}
use Rattle.rules.proofs.TradeLaws.{below_lt}

module _ (d : Book) (c : ℕ) where
  -- the roles that c owns
  abbrev owned : ℕ
  owned = below d (d.row roles_of c)

  -- With no active word there is no active role.
  pub none_active : d.row active c ≡ 0 → active_owned d c ≡ false
  unfolding active_owned
  none_active e = and_fails_l _ (bit owned (d.row active c - 1)) (ap not (eq-eqb (d.row active c) 0 e))

  -- The roles owned are a set of 64 bits ..
  owned_lt : Sized d → owned < 2 ^ 64
  owned_lt sized = below_lt d sized (d.row roles_of c) ((sized.rows roles_of).fits c)

  -- .. of which a word above 64 names none.
  pub no_such_role : Sized d → 64 < d.row active c → active_owned d c ≡ false
  unfolding active_owned
  no_such_role sized l = and_fails_r (not (eqb (d.row active c) 0)) _ (bit_high 64 owned (d.row active c - 1) (owned_lt sized) (omega arith))

  -- Any other word e is looked up among the roles owned.
  pub looked_up : {e : ℕ} → e ≡ d.row active c → (e ≡ 0 → ⊥) → owns_role d (subject d c) (e - 1) ≡ active_owned d c
  unfolding active_owned
  looked_up {e} word n =
      ap (λ (v : ℕ). bit owned (v - 1)) word
      ∙ sym (ap (λ (t : Bool). t && bit owned (d.row active c - 1)) (ap not (ne_eqb (d.row active c) 0 (λ z. n (word ∙ z)))))

  -- An active role that is owned, in a book of 64-bit words, has a number of 0 to 63.
  pub active_bounds : Sized d → active_owned d c ≡ true → {e : ℕ} → e ≡ d.row active c → (0 < e) × (e ≤ 64)
  unfolding active_owned
  active_bounds sized h {e} word =
      let o = and_out (not (eqb (d.row active c) 0)) (bit owned (d.row active c - 1)) h in
      let some : d.row active c ≡ 0 → ⊥ = eqb-false (d.row active c) 0 (not-true (eqb (d.row active c) 0) o.0) in
      let role : d.row active c - 1 < 64 = bit_lt owned (d.row active c - 1) (owned_lt sized) o.1 in
      (omega arith, omega arith)
