-- What holds of each number below n, said one by one: of the kinds, the nine tables, the ten rules.
use mathlib.Core.Path.{◌≡◌, subst}
use Prim.Native.Nat.{ℕ, zero, suc, ◌+◌, ◌≤◌, ◌<◌}
use native.Mathlib.Omega.{arith}
use native.Mathlib.Decide.{dec_lt}

infixl 5 ◌next◌
-- P holds of 0, of 1, and so on up to n.
pub data Upto (P : ℕ → Type 0) : ℕ → Type 0 where
  start : Upto P zero
  ◌next◌ : {n : ℕ} → Upto P n → P n → Upto P (suc n)

-- Then it holds of each number below n.
pub upto_at : {P : ℕ → Type 0} {n : ℕ} → Upto P n → (k : ℕ) → k < n → P k
upto_at start k h = absurd (omega arith)
upto_at {P} (◌next◌ {n = n} u p) k h = go (upto_at u k) (dec_lt k n)
  where
    go : (k < n → P k) → Dec (k < n) → P k
    go f (yes l) = f l
    go f (no l) = let e : n ≡ k = omega arith in subst P e p

-- None of i, i + 1, .. below i + n, as a match says it of the keys before its other arms ..
abbrev pub Unlike : ℕ → ℕ → ℕ → Type 0
Unlike i zero k = Unit {0}
Unlike i (suc n) k = Unlike i n k × (k ≡ i + n → ⊥)

-- .. so a number from i on lies past them.
pub past : (i n k : ℕ) → i ≤ k → Unlike i n k → i + n ≤ k
past i zero k h u = omega arith
past i (suc n) k h u = let g : i + n ≤ k = past i n k h u.0 in let e : k ≡ i + n → ⊥ = u.1 in omega arith
