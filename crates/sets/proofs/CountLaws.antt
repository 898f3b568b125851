-- Counting members: at most one for each number, no fewer in a larger set, and the same as counting the one bits of the mask.
use mathlib.Core.Path.{◌≡◌, refl, sym, ap, ◌∙◌, subst}
use mathlib.Core.Bool.{Bool, true, false}
use Prim.Native.Nat.{ℕ, zero, suc, ◌+◌, ◌/◌, ◌%◌, ◌^◌, ◌≤◌, ◌<◌}
use native.Mathlib.Decide.{dec_lt}
use native.Mathlib.Omega.{arith}
use lib.Count.{ones, ones_step, ones-le}
use lib.Dec.{eqb}
use Rattle.sets.specs.Mask.{bit}
use Rattle.sets.specs.Count.{one, count_below}
use Rattle.sets.proofs.MaskLaws.{bit_zero, bit_suc}

one_le : (t : Bool) → one t ≤ 1
unfolding one
one_le true = omega arith
one_le false = omega arith

-- No more than k members lie below k.
pub count_le : (k m : ℕ) → count_below k m ≤ k
unfolding count_below
count_le zero m = omega arith
count_le (suc k) m = omega (arith, count_le k m, one_le (bit m k))

-- every member of m is one of n
abbrev pub Sub : ℕ → ℕ → Type 0
Sub m n = (i : ℕ) → bit m i ≡ true → bit n i ≡ true

one_mono : (s t : Bool) → (s ≡ true → t ≡ true) → one s ≤ one t
unfolding one
one_mono true t f = subst (λ (x : Bool). 1 ≤ one x) (sym (f refl)) (omega arith)
one_mono false t f = omega arith

-- A larger set has no fewer members ..
count_mono : (k m n : ℕ) → Sub m n → count_below k m ≤ count_below k n
unfolding count_below
count_mono zero m n s = omega arith
count_mono (suc k) m n s = omega (arith, count_mono k m n s, one_mono (bit m k) (bit n k) (s k))

one_eq : (s t : Bool) → (s ≡ true → t ≡ true) → one t ≤ one s → s ≡ t
unfolding one
one_eq true t f h = sym (f refl)
one_eq false false f h = refl
one_eq false true f h = absurd (omega arith)

-- .. and where it has no more, it has the same.
pub count_same : (k m n : ℕ) → Sub m n → count_below k n ≤ count_below k m → (i : ℕ) → i < k → bit m i ≡ bit n i
unfolding count_below
count_same zero m n s h i l = absurd (omega arith)
count_same (suc k) m n s h i l =
    go (dec_lt i k) (λ q. count_same k m n s (omega (arith, one_mono (bit m k) (bit n k) (s k))) i q)
  where
    go : Dec (i < k) → (i < k → bit m i ≡ bit n i) → bit m i ≡ bit n i
    go (yes q) rec = rec q
    go (no q) rec =
        let e : k ≡ i = omega arith in
        subst (λ (x : ℕ). bit m x ≡ bit n x) e (one_eq (bit m k) (bit n k) (s k) (omega (arith, count_mono k m n s)))

-- The lowest digit counts as one where it is 1, and the others are those of the half.
lowest_digit : (k m : ℕ) → count_below (suc k) m ≡ m % 2 + count_below k (m / 2)
unfolding count_below one
lowest_digit zero m = ap (λ (t : Bool). 0 + one t) (bit_zero m) ∙ digit (m % 2) (omega arith)
  where
    digit : (x : ℕ) → x < 2 → 0 + one (eqb x 1) ≡ x + 0
    digit zero h = refl
    digit (suc zero) h = refl
    digit (suc (suc x)) h = absurd (omega arith)
lowest_digit (suc k) m = omega (arith, lowest_digit k m, ap one (bit_suc m k))

-- Of a number of k digits the members are counted by its one bits.
pub count_ones : (k m : ℕ) → m < 2 ^ k → count_below k m ≡ ones m
unfolding count_below
count_ones zero m h = go m (omega arith)
  where
    go : (m : ℕ) → m ≡ 0 → 0 ≡ ones m
    go m e = omega (arith, ones-le 0 m (omega arith))
count_ones (suc k) m h = lowest_digit k m ∙ ap (λ (x : ℕ). m % 2 + x) (count_ones k (m / 2) (omega arith)) ∙ sym (ones_step m)
