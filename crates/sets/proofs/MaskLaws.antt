-- What the masks of specs/Mask.antt mean: which numbers are in a set that is made of others.
use mathlib.Core.Path.{◌≡◌, refl, sym, ap, ap₂, ◌∙◌, subst}
use mathlib.Core.Logic.{◌⊎◌, inl, inr}
use mathlib.Core.Bool.{Bool, true, false, ◌&&◌, ◌||◌, not, true≢false}
use Prim.Native.Nat.{ℕ, zero, suc, ◌+◌, ◌-◌, ◌*◌, ◌/◌, ◌%◌, ◌^◌, ◌≤◌, ◌<◌}
use native.Mathlib.Nat.{mod-lt, zero-lt-suc, mod-eq_of_lt, one-mul, div-one, pow-suc, mul-mod_left, mul-div_cancel, div-add-mod'}
use native.Mathlib.Numerals.{add-one, one-add}
use native.Mathlib.Decide.{dec_lt}
use native.Mathlib.Omega.{arith}
use lib.Arith.{lt-one}
use lib.Dec.{eqb, eqb-zero-suc, eqb-suc-zero, eqb-suc-suc}
use lib.Bits.{bit_and, bit_or, and_shr, or_shr, and_mod, or_mod, and_mask, and_lt, and_le_l, or_lt}
use lib.Pow.{pow-lt, pow_pos, shr_lt, shr-shr}
use borrow.Author.Tests.{eqb-true, eq-eqb}
use Rattle.sets.specs.Mask.{bit, with, without, within, meet, only, joined, alone_if, picked}
use Rattle.sets.proofs.Logic.{and_out, and_in, or_in_l, or_in_r, or_out, not_both, refute}

-- One digit at a time.
two_pos : 0 < 2
two_pos = zero-lt-suc 1

half_lt : {m : ℕ} (k : ℕ) → m < 2 ^ suc k → m / 2 < 2 ^ k
half_lt {m} k h = shr_lt k 1 (subst (λ (x : ℕ). m < 2 ^ x) (sym (add-one k)) h)

or_digits : (x y : ℕ) → x < 2 → y < 2 → eqb (bit_or x y) 1 ≡ (eqb x 1 || eqb y 1)
or_digits zero y h k = refl
or_digits (suc zero) zero h k = refl
or_digits (suc zero) (suc zero) h k = refl
or_digits (suc zero) (suc (suc y)) h k = absurd (omega arith)
or_digits (suc (suc x)) y h k = absurd (omega arith)

and_digits : (x y : ℕ) → x < 2 → y < 2 → eqb (bit_and x y) 1 ≡ (eqb x 1 && eqb y 1)
and_digits zero y h k = refl
and_digits (suc zero) zero h k = refl
and_digits (suc zero) (suc zero) h k = refl
and_digits (suc zero) (suc (suc y)) h k = absurd (omega arith)
and_digits (suc (suc x)) y h k = absurd (omega arith)

same_digit : (x y : ℕ) → x < 2 → y < 2 → eqb x 1 ≡ eqb y 1 → x ≡ y
same_digit zero zero h k e = refl
same_digit zero (suc zero) h k e = absurd (true≢false (sym e))
same_digit (suc zero) zero h k e = absurd (true≢false e)
same_digit (suc zero) (suc zero) h k e = refl
same_digit zero (suc (suc y)) h k e = absurd (omega arith)
same_digit (suc zero) (suc (suc y)) h k e = absurd (omega arith)
same_digit (suc (suc x)) y h k e = absurd (omega arith)

other_digit : (x : ℕ) → x < 2 → eqb (1 - x) 1 ≡ not (eqb x 1)
other_digit zero h = refl
other_digit (suc zero) h = refl
other_digit (suc (suc x)) h = absurd (omega arith)

pub bit_zero : (m : ℕ) → bit m zero ≡ eqb (m % 2) 1
unfolding bit
bit_zero m = ap (λ (x : ℕ). eqb (x % 2) 1) (div-one m)

pub bit_suc : (m i : ℕ) → bit m (suc i) ≡ bit (m / 2) i
unfolding bit
bit_suc m i = ap (λ (x : ℕ). eqb (m / 2 ^ x % 2) 1) (sym (one-add i)) ∙ ap (λ (x : ℕ). eqb (x % 2) 1) (sym (shr-shr m 1 i))

-- A joint set has the members of both, a common set the common ones.
pub bit-or : (m n i : ℕ) → bit (bit_or m n) i ≡ (bit m i || bit n i)
unfolding bit
bit-or m n i =
    ap (λ (x : ℕ). eqb (x % 2) 1) (or_shr m n i) ∙ ap (λ (x : ℕ). eqb x 1) (or_mod (m / 2 ^ i) (n / 2 ^ i) 1)
    ∙ or_digits (m / 2 ^ i % 2) (n / 2 ^ i % 2) (mod-lt (m / 2 ^ i) two_pos) (mod-lt (n / 2 ^ i) two_pos)

pub bit-and : (m n i : ℕ) → bit (bit_and m n) i ≡ (bit m i && bit n i)
unfolding bit
bit-and m n i =
    ap (λ (x : ℕ). eqb (x % 2) 1) (and_shr m n i) ∙ ap (λ (x : ℕ). eqb x 1) (and_mod (m / 2 ^ i) (n / 2 ^ i) 1)
    ∙ and_digits (m / 2 ^ i % 2) (n / 2 ^ i % 2) (mod-lt (m / 2 ^ i) two_pos) (mod-lt (n / 2 ^ i) two_pos)

-- The empty set, and the set of one number.
pub bit_none : (i : ℕ) → bit zero i ≡ false
bit_none zero = bit_zero zero
bit_none (suc i) = bit_suc zero i ∙ bit_none i

pub bit_one : (i j : ℕ) → bit (2 ^ i) j ≡ eqb i j
bit_one zero zero = bit_zero 1
bit_one zero (suc j) = bit_suc 1 j ∙ bit_none j ∙ sym (eqb-zero-suc j)
bit_one (suc i) zero =
    bit_zero (2 ^ suc i) ∙ ap (λ (x : ℕ). eqb (x % 2) 1) (pow-suc 2 i) ∙ ap (λ (x : ℕ). eqb x 1) (mul-mod_left (2 ^ i) 2) ∙ sym (eqb-suc-zero i)
bit_one (suc i) (suc j) =
    bit_suc (2 ^ suc i) j ∙ ap (λ (x : ℕ). bit (x / 2) j) (pow-suc 2 i) ∙ ap (λ (x : ℕ). bit x j) (mul-div_cancel (2 ^ i) two_pos)
    ∙ bit_one i j ∙ sym (eqb-suc-suc i j)

pub in_one : (i : ℕ) → bit (2 ^ i) i ≡ true
in_one i = bit_one i i ∙ eq-eqb i i refl

pub one_out : (i j : ℕ) → bit (2 ^ i) j ≡ true → i ≡ j
one_out i j e = eqb-true i j (sym (bit_one i j) ∙ e)

-- Past its digits a mask has no members.
pub bit_high : (k m i : ℕ) → m < 2 ^ k → k ≤ i → bit m i ≡ false
bit_high zero m i h l = ap (λ (x : ℕ). bit x i) (lt-one h) ∙ bit_none i
bit_high (suc k) m zero h l = absurd (omega arith)
bit_high (suc k) m (suc i) h l = bit_suc m i ∙ bit_high k (m / 2) i (half_lt k h) (omega arith)

pub bit_lt : (m j : ℕ) → m < 2 ^ 64 → bit m j ≡ true → j < 64
bit_lt m j h e = go (dec_lt j 64)
  where
    go : Dec (j < 64) → j < 64
    go (yes l) = l
    go (no l) = absurd (not_both (bit m j) e (bit_high 64 m j h (omega arith)))

-- Two masks of k digits with the same members are equal.
pub bit_ext : (k m n : ℕ) → m < 2 ^ k → n < 2 ^ k → ((i : ℕ) → i < k → bit m i ≡ bit n i) → m ≡ n
bit_ext zero m n h l e = lt-one h ∙ sym (lt-one l)
bit_ext (suc k) m n h l e =
    sym (div-add-mod' m 2)
    ∙ ap₂ (λ (x y : ℕ). x * 2 + y)
    (bit_ext k (m / 2) (n / 2) (half_lt k h) (half_lt k l) (λ i q. sym (bit_suc m i) ∙ e (suc i) (omega arith) ∙ bit_suc n i))
    (same_digit (m % 2) (n % 2) (mod-lt m two_pos) (mod-lt n two_pos) (sym (bit_zero m) ∙ e zero (omega arith) ∙ bit_zero n))
    ∙ div-add-mod' n 2

-- A mask with no member is 0.
pub none_zero : (m : ℕ) → m < 2 ^ 64 → ((j : ℕ) → bit m j ≡ true → ⊥) → m ≡ 0
none_zero m h f = bit_ext 64 m 0 h (pow_pos 64) (λ i q. refute (bit m i) (f i) ∙ sym (bit_none i))

pub zero_none : {m : ℕ} (j : ℕ) → m ≡ 0 → bit m j ≡ true → ⊥
zero_none {m} j e p = not_both (bit 0 j) (subst (λ (x : ℕ). bit x j ≡ true) e p) (bit_none j)

-- Members of a joint set.
pub in_l : (m n i : ℕ) → bit m i ≡ true → bit (bit_or m n) i ≡ true
in_l m n i e = bit-or m n i ∙ or_in_l (bit m i) (bit n i) e

pub in_r : (m n i : ℕ) → bit n i ≡ true → bit (bit_or m n) i ≡ true
in_r m n i e = bit-or m n i ∙ or_in_r (bit m i) (bit n i) e

pub in_cases : (m n i : ℕ) → bit (bit_or m n) i ≡ true → (bit m i ≡ true) ⊎ (bit n i ≡ true)
in_cases m n i e = or_out (bit m i) (bit n i) (sym (bit-or m n i) ∙ e)

-- Members of a common set.
pub in_both : (m n i : ℕ) → bit m i ≡ true → bit n i ≡ true → bit (bit_and m n) i ≡ true
in_both m n i p q = bit-and m n i ∙ and_in p q

pub both_out : (m n i : ℕ) → bit (bit_and m n) i ≡ true → (bit m i ≡ true) × (bit n i ≡ true)
both_out m n i e = and_out (bit m i) (bit n i) (sym (bit-and m n i) ∙ e)

-- One number more.
pub with_lt : (m i : ℕ) → m < 2 ^ 64 → i < 64 → with m i < 2 ^ 64
unfolding with
with_lt m i h l = or_lt 64 m (2 ^ i) h (pow-lt l)

pub in_with : (m i : ℕ) → bit (with m i) i ≡ true
unfolding with
in_with m i = in_r m (2 ^ i) i (in_one i)

pub with_old : (m i j : ℕ) → bit m j ≡ true → bit (with m i) j ≡ true
unfolding with
with_old m i j e = in_l m (2 ^ i) j e

pub with_out : (m i j : ℕ) → bit (with m i) j ≡ true → (bit m j ≡ true) ⊎ (i ≡ j)
unfolding with
with_out m i j e = go (in_cases m (2 ^ i) j e)
  where
    go : (bit m j ≡ true) ⊎ (bit (2 ^ i) j ≡ true) → (bit m j ≡ true) ⊎ (i ≡ j)
    go (inl q) = inl q
    go (inr q) = inr (one_out i j q)

-- The complement in k digits, and one number less.
pub bit_not : (k x i : ℕ) → x < 2 ^ k → i < k → bit (2 ^ k - 1 - x) i ≡ not (bit x i)
bit_not zero x i h l = absurd (omega arith)
bit_not (suc k) x zero h l =
    let p = pow-suc 2 k in
    let e : (2 ^ suc k - 1 - x) % 2 ≡ 1 - x % 2 = omega arith in
    bit_zero (2 ^ suc k - 1 - x) ∙ ap (λ (y : ℕ). eqb y 1) e ∙ other_digit (x % 2) (omega arith) ∙ ap not (sym (bit_zero x))
bit_not (suc k) x (suc i) h l =
    let p = pow-suc 2 k in
    let e : (2 ^ suc k - 1 - x) / 2 ≡ 2 ^ k - 1 - x / 2 = omega arith in
    bit_suc (2 ^ suc k - 1 - x) i ∙ ap (λ (y : ℕ). bit y i) e ∙ bit_not k (x / 2) i (omega arith) (omega arith) ∙ ap not (sym (bit_suc x i))

-- All numbers below 64 are in the mask of all.
pub in_full : (i : ℕ) → i < 64 → bit (2 ^ 64 - 1 - 0) i ≡ true
in_full i l = bit_not 64 0 i (pow_pos 64) l ∙ ap not (bit_none i)

pub without_lt : (m i : ℕ) → m < 2 ^ 64 → without m i < 2 ^ 64
unfolding without
without_lt m i h = omega (arith, and_le_l m (2 ^ 64 - 1 - 2 ^ i))

pub bit_without : (m a i : ℕ) → a < 64 → i < 64 → bit (without m a) i ≡ (bit m i && not (eqb a i))
unfolding without
bit_without m a i h l = bit-and m (2 ^ 64 - 1 - 2 ^ a) i ∙ ap (λ (t : Bool). bit m i && t) (bit_not 64 (2 ^ a) i (pow-lt h) l ∙ ap not (bit_one a i))

pub without_old : (m a i : ℕ) → bit (without m a) i ≡ true → bit m i ≡ true
unfolding without
without_old m a i e = (both_out m (2 ^ 64 - 1 - 2 ^ a) i e).0

-- A set within another.
pub within_out : (m n j : ℕ) → within m n ≡ true → bit m j ≡ true → bit n j ≡ true
unfolding within
within_out m n j e p = (both_out m n j (subst (λ (x : ℕ). bit x j ≡ true) (sym (eqb-true (bit_and m n) m e)) p)).1

pub within_in : (m n : ℕ) → m < 2 ^ 64 → n < 2 ^ 64 → ((j : ℕ) → bit m j ≡ true → bit n j ≡ true) → within m n ≡ true
unfolding within
within_in m n h l f = eq-eqb (bit_and m n) m (bit_ext 64 (bit_and m n) m (and_lt 64 m n h l) h (λ i q. bit-and m n i ∙ go i (bit m i) refl))
  where
    go : (i : ℕ) (s : Bool) → bit m i ≡ s → (s && bit n i) ≡ bit m i
    go i true e = f i e ∙ sym e
    go i false e = sym e

pub within_le : (m n : ℕ) → within m n ≡ true → m ≤ n
unfolding within
within_le m n e = let q = eqb-true (bit_and m n) m e in omega (arith, lib.Bits.and_le_r m n)

pub within_lt : (m n : ℕ) → n < 2 ^ 64 → within m n ≡ true → m < 2 ^ 64
within_lt m n h e = omega (arith, within_le m n e)

-- Two sets that meet have a common member.
pub meet_in : (m n i : ℕ) → bit m i ≡ true → bit n i ≡ true → meet m n ≡ true
unfolding meet
meet_in m n i p q = go (eqb (bit_and m n) 0) refl
  where
    go : (t : Bool) → eqb (bit_and m n) 0 ≡ t → not t ≡ true
    go false e = refl
    go true e = absurd (zero_none i (eqb-true (bit_and m n) 0 e) (in_both m n i p q))

-- The rows of a set's members below n, joined.
module _ (rows : ℕ → ℕ) where
  pub joined_in : (n m i j : ℕ) → i < n → bit m i ≡ true → bit (rows i) j ≡ true → bit (joined n rows m) j ≡ true
  unfolding joined
  joined_in zero m i j h p q = absurd (omega arith)
  joined_in (suc n) m i j h p q = go (λ l. joined_in n m i j l p q) (dec_lt i n)
    where
      go : (i < n → bit (joined n rows m) j ≡ true) → Dec (i < n) → bit (bit_or (joined n rows m) (only (bit m n) (rows n))) j ≡ true
      go rec (yes l) = in_l (joined n rows m) (only (bit m n) (rows n)) j (rec l)
      go rec (no l) =
          let e : i ≡ n = omega arith in
          in_r (joined n rows m) (only (bit m n) (rows n)) j
          (ap (λ (t : Bool). bit (only t (rows n)) j) (subst (λ (x : ℕ). bit m x ≡ true) e p) ∙ subst (λ (x : ℕ). bit (rows x) j ≡ true) e q)

  pub joined_out : (n m j : ℕ) → bit (joined n rows m) j ≡ true → (i : ℕ) × (bit m i ≡ true) × (bit (rows i) j ≡ true)
  unfolding joined
  joined_out zero m j e = absurd (zero_none j refl e)
  joined_out (suc n) m j e = go (joined_out n m j) (in_cases (joined n rows m) (only (bit m n) (rows n)) j e)
    where
      at : (t : Bool) → bit m n ≡ t → bit (only t (rows n)) j ≡ true → (i : ℕ) × (bit m i ≡ true) × (bit (rows i) j ≡ true)
      at true p q = (n, p, q)
      at false p q = absurd (zero_none j refl q)

      go : (bit (joined n rows m) j ≡ true → (i : ℕ) × (bit m i ≡ true) × (bit (rows i) j ≡ true))
          → (bit (joined n rows m) j ≡ true) ⊎ (bit (only (bit m n) (rows n)) j ≡ true) → (i : ℕ) × (bit m i ≡ true) × (bit (rows i) j ≡ true)
      go rec (inl q) = rec q
      go rec (inr q) = at (bit m n) refl q

pub only_lt : (t : Bool) (x : ℕ) → x < 2 ^ 64 → only t x < 2 ^ 64
only_lt true x h = h
only_lt false x h = pow_pos 64

pub only_yes : (t : Bool) (x : ℕ) → t ≡ true → only t x ≡ x
only_yes t x e = ap (λ (s : Bool). only s x) e

pub only_no : (t : Bool) (x : ℕ) → t ≡ false → only t x ≡ 0
only_no t x e = ap (λ (s : Bool). only s x) e

-- Rows below n that are words are joined to a word ..
joined_word : (rows : ℕ → ℕ) (n : ℕ) → ((i : ℕ) → i < n → rows i < 2 ^ 64) → (m : ℕ) → joined n rows m < 2 ^ 64
unfolding joined
joined_word rows zero bound m = pow_pos 64
joined_word rows (suc n) bound m =
    or_lt 64 (joined n rows m) (only (bit m n) (rows n)) (joined_word rows n (λ i h. bound i (omega arith)) m)
    (only_lt (bit m n) (rows n) (bound n (omega arith)))

-- .. and so are rows that are all words.
pub joined_lt : (rows : ℕ → ℕ) → ((i : ℕ) → rows i < 2 ^ 64) → (n m : ℕ) → joined n rows m < 2 ^ 64
joined_lt rows bound n m = joined_word rows n (λ i h. bound i) m

-- The members of a set that pass a test: who is one passes and is a member, and back.
module _ (f : ℕ → Bool) (m : ℕ) where
  pub picked_in : (i : ℕ) → i < 64 → bit m i ≡ true → f i ≡ true → bit (picked f m) i ≡ true
  picked_in i h p q = joined_in (alone_if f) 64 m i i h p (ap (λ (x : ℕ). bit x i) (only_yes (f i) (2 ^ i) q) ∙ in_one i)

  pub picked_out : (i : ℕ) → bit (picked f m) i ≡ true → (bit m i ≡ true) × (f i ≡ true)
  picked_out i e = let w = joined_out (alone_if f) 64 m i e in go w.0 w.1 (f w.0) refl w.2
    where
      go : (j : ℕ) → bit m j ≡ true → (t : Bool) → f j ≡ t → bit (only t (2 ^ j)) i ≡ true → (bit m i ≡ true) × (f i ≡ true)
      go j p true q r = subst (λ (x : ℕ). (bit m x ≡ true) × (f x ≡ true)) (one_out j i r) (p, q)
      go j p false q r = absurd (zero_none i refl r)

  -- They are a word.
  pub picked_lt : picked f m < 2 ^ 64
  picked_lt = joined_word (alone_if f) 64 (λ i h. only_lt (f i) (2 ^ i) (pow-lt h)) m

-- It is the same whether a set is cut down first and then picked from, or picked from first.
pub picked_both : (f : ℕ → Bool) (m n : ℕ) → picked f (bit_and m n) ≡ bit_and (picked f m) n
picked_both f m n =
    bit_ext 64 _ _ (picked_lt f (bit_and m n)) (omega (arith, picked_lt f m, and_le_l (picked f m) n)) (λ i h. go i h (bit (bit_and (picked f m) n) i) refl)
  where
    go : (i : ℕ) → i < 64 → (t : Bool) → bit (bit_and (picked f m) n) i ≡ t → bit (picked f (bit_and m n)) i ≡ bit (bit_and (picked f m) n) i
    go i h true e =
        let w = both_out (picked f m) n i e in
        let v = picked_out f m i w.0 in
        picked_in f (bit_and m n) i h (in_both m n i v.0 w.1) v.1 ∙ sym e
    go i h false e = refute _ (λ p.
        let w = picked_out f (bit_and m n) i p in
        let v = both_out m n i w.0 in
        not_both _ (in_both (picked f m) n i (picked_in f m i h v.0 w.1) v.1) e) ∙ sym e

-- The machine's forms: (m >> i) & 1 is the digit, and 1 << i the set of one number.
pub shift_and : (m i : ℕ) → bit_and (m / 2 ^ i) 1 ≡ m / 2 ^ i % 2
shift_and m i = and_mask (m / 2 ^ i) 1

pub one_shifted : (i : ℕ) → i < 64 → (1 * 2 ^ i) % 2 ^ 64 ≡ 2 ^ i
one_shifted i h = ap (λ (x : ℕ). x % 2 ^ 64) (one-mul (2 ^ i)) ∙ mod-eq_of_lt (pow-lt h)
