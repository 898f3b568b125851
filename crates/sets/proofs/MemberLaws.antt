-- The lowest member of a set by the count of trailing zeros, the rest by m & (m - 1), and the laws by which a loop over the
-- members shows what it makes: a test of all, a search, or rows joined.
use mathlib.Core.Path.{◌≡◌, refl, sym, ap, ap₂, ◌∙◌}
use mathlib.Core.Bool.{Bool, true, false, ◌&&◌, ◌||◌, not, true≢false}
use Prim.Native.Nat.{ℕ, zero, suc, ◌+◌, ◌-◌, ◌/◌, ◌%◌, ◌^◌, ◌≤◌, ◌<◌}
use native.Mathlib.Nat.{mod-lt, zero-lt-suc, add-zero, lt_of_lt_of_le, pow-suc}
use native.Mathlib.Decide.{ℕ_discrete, dec_lt}
use native.Mathlib.Omega.{arith}
use lib.Arith.{lt-one}
use lib.Dec.{eqb, eqb-zero-suc, eqb-suc-suc}
use lib.Bits.{bit_and, bit_or, and_lt, and_le_r, or_lt, or_comm, or_self, or_zero_r}
use lib.Count.{count_trailing_zeros, under}
use lib.Pow.{pow_pos, pow_mono}
use borrow.Author.Tests.{eqb-true, eq-eqb, ne_eqb}
use Rattle.sets.specs.Mask.{bit, with, without, joined, only}
use Rattle.sets.specs.Search.{lowest_from, lowest, all}
use Rattle.sets.proofs.Logic.{not_both}
use Rattle.sets.proofs.MaskLaws.{bit_zero, bit_suc, bit-and, bit-or, bit_one, bit_none, bit_ext, bit_without, with_lt, without_lt}
use Rattle.sets.proofs.SearchLaws.{lowest_passes, lowest_first, lowest_is, lowest_end, all_in, all_fails}

-- Each zero below the lowest member is one turn of the search.
from_zeros : (k j m : ℕ) (f : ℕ → Bool) → ((i : ℕ) → f (j + i) ≡ bit m i) → j + count_trailing_zeros k m ≡ lowest_from k j f
unfolding count_trailing_zeros lowest_from
from_zeros zero j m f e = add-zero j
from_zeros (suc k) j m f e =
    go (m % 2) refl (mod-lt m (zero-lt-suc 1)) (f j) (ap f (sym (add-zero j)) ∙ e zero ∙ bit_zero m)
    (from_zeros k (suc j) (m / 2) f (λ i. ap f (sym (shift i)) ∙ e (suc i) ∙ bit_suc m i))
  where
    shift : (i : ℕ) → j + suc i ≡ suc j + i
    shift i = omega arith

    go : (r : ℕ) → m % 2 ≡ r → r < 2 → (t : Bool) → t ≡ eqb (m % 2) 1 → suc j + count_trailing_zeros k (m / 2) ≡ lowest_from k (suc j) f
        → j + under r (count_trailing_zeros k (m / 2)) ≡ (elim t as (λ (x : Bool). ℕ) [ true ↦ j | false ↦ lowest_from k (suc j) f ])
    go zero q l true p rec = absurd (true≢false (p ∙ ap (λ (x : ℕ). eqb x 1) q))
    go zero q l false p rec = shift (count_trailing_zeros k (m / 2)) ∙ rec
    go (suc zero) q l true p rec = add-zero j
    go (suc zero) q l false p rec = absurd (true≢false (sym (p ∙ ap (λ (x : ℕ). eqb x 1) q)))
    go (suc (suc r)) q l t p rec = absurd (omega arith)

-- The count of trailing zeros is the lowest member.
pub zeros_lowest : (m : ℕ) → count_trailing_zeros 64 m ≡ lowest (bit m)
zeros_lowest m =
    let z : zero + count_trailing_zeros 64 m ≡ count_trailing_zeros 64 m = omega arith in
    sym z ∙ from_zeros 64 zero m (bit m) (λ i. ap (bit m) (omega arith))

-- Of the digits of m and m - 1 only those above the lowest member are the same: m & (m - 1) lacks exactly that one.
less_bit : (k m i : ℕ) → 0 < m → m < 2 ^ k → (bit m i && bit (m - 1) i) ≡ (bit m i && not (eqb (count_trailing_zeros k m) i))
unfolding count_trailing_zeros
less_bit zero m i p h = absurd (omega (arith, lt-one h))
less_bit (suc k) m zero p h = go (m % 2) refl (mod-lt m (zero-lt-suc 1))
  where
    at : (s t u : Bool) → bit m zero ≡ s → bit (m - 1) zero ≡ t → (s && t) ≡ (s && u) → (bit m zero && bit (m - 1) zero) ≡ (bit m zero && u)
    at s t u e f g = ap₂ ◌&&◌ e f ∙ g ∙ ap (λ (x : Bool). x && u) (sym e)

    go : (r : ℕ) → m % 2 ≡ r → r < 2 → (bit m zero && bit (m - 1) zero) ≡ (bit m zero && not (eqb (under r (count_trailing_zeros k (m / 2))) zero))
    go zero q l = at false (bit (m - 1) zero) _ (bit_zero m ∙ ap (λ (x : ℕ). eqb x 1) q) refl refl
    go (suc zero) q l =
        let e : (m - 1) % 2 ≡ 0 = omega arith in
        at true false _ (bit_zero m ∙ ap (λ (x : ℕ). eqb x 1) q) (bit_zero (m - 1) ∙ ap (λ (x : ℕ). eqb x 1) e) refl
    go (suc (suc r)) q l = absurd (omega arith)
less_bit (suc k) m (suc i) p h = go (m % 2) refl (mod-lt m (zero-lt-suc 1)) (λ q l. less_bit k (m / 2) i q l)
  where
    both : (s : Bool) → (s && s) ≡ (s && true)
    both true = refl
    both false = refl

    at : (x u : ℕ) → bit (m - 1) (suc i) ≡ bit x i → (bit (m / 2) i && bit x i) ≡ (bit (m / 2) i && not (eqb u (suc i)))
        → (bit m (suc i) && bit (m - 1) (suc i)) ≡ (bit m (suc i) && not (eqb u (suc i)))
    at x u e g = ap₂ ◌&&◌ (bit_suc m i) e ∙ g ∙ ap (λ (t : Bool). t && not (eqb u (suc i))) (sym (bit_suc m i))

    go : (r : ℕ) → m % 2 ≡ r → r < 2
        → (0 < m / 2 → m / 2 < 2 ^ k → (bit (m / 2) i && bit (m / 2 - 1) i) ≡ (bit (m / 2) i && not (eqb (count_trailing_zeros k (m / 2)) i)))
        → (bit m (suc i) && bit (m - 1) (suc i)) ≡ (bit m (suc i) && not (eqb (under r (count_trailing_zeros k (m / 2))) (suc i)))
    go zero q l rec =
        let e : (m - 1) / 2 ≡ m / 2 - 1 = omega arith in
        let w = pow-suc 2 k in
        at (m / 2 - 1) _ (bit_suc (m - 1) i ∙ ap (λ (x : ℕ). bit x i) e)
        (rec (omega arith) (omega arith) ∙ ap (λ (t : Bool). bit (m / 2) i && not t) (sym (eqb-suc-suc (count_trailing_zeros k (m / 2)) i)))
    go (suc zero) q l rec =
        let e : (m - 1) / 2 ≡ m / 2 = omega arith in
        at (m / 2) _ (bit_suc (m - 1) i ∙ ap (λ (x : ℕ). bit x i) e)
        (both (bit (m / 2) i) ∙ ap (λ (t : Bool). bit (m / 2) i && not t) (sym (eqb-zero-suc i)))
    go (suc (suc r)) q l rec = absurd (omega arith)

-- A test that agrees with its rest where it is not the one asked for.
and_yes : (s : Bool) → s ≡ (s && true)
and_yes true = refl
and_yes false = refl

-- Of a set that has a member: its lowest, and the rest.
module _ (m : ℕ) (some : 0 < m) (fits : m < 2 ^ 64) where
  pub lowest_lt : lowest (bit m) < 64
  lowest_lt = go (dec_lt (lowest (bit m)) 64)
    where
      go : Dec (lowest (bit m) < 64) → lowest (bit m) < 64
      go (yes l) = l
      go (no l) =
          let z : m ≡ 0 = bit_ext 64 m 0 fits (pow_pos 64) (λ i q. lowest_first 64 0 (bit m) i (omega arith) (omega arith) ∙ sym (bit_none i)) in
          absurd (omega arith)

  pub lowest_in : bit m (lowest (bit m)) ≡ true
  lowest_in = lowest_passes 64 0 (bit m) lowest_lt

  pub less_rest : bit_and m (m - 1) ≡ without m (lowest (bit m))
  less_rest =
      bit_ext 64 (bit_and m (m - 1)) (without m (lowest (bit m))) (and_lt 64 m (m - 1) fits (omega arith)) (without_lt m (lowest (bit m)) fits) (λ i q.
      bit-and m (m - 1) i ∙ less_bit 64 m i some fits ∙ ap (λ (x : ℕ). bit m i && not (eqb x i)) (zeros_lowest m)
      ∙ sym (bit_without m (lowest (bit m)) i lowest_lt q))

  -- The rest is smaller: a loop over the members ends.
  pub rest_lt : without m (lowest (bit m)) < m
  rest_lt = omega (arith, less_rest, and_le_r m (m - 1))

  -- The lowest member is not in the rest; everybody else is as before.
  pub rest_out : (k : ℕ) → k < 64 → bit (without m (lowest (bit m))) k ≡ false → (lowest (bit m) ≡ k → ⊥) → bit m k ≡ false
  rest_out k l out other =
      and_yes (bit m k) ∙ sym (bit_without m (lowest (bit m)) k lowest_lt l ∙ ap (λ (t : Bool). bit m k && not t) (ne_eqb (lowest (bit m)) k other)) ∙ out

  -- The rest with the lowest member is the set.
  pub rest_with : m ≡ with (without m (lowest (bit m))) (lowest (bit m))
  unfolding with
  rest_with =
      let t = lowest (bit m) in
      bit_ext 64 m (with (without m t) t) fits (with_lt (without m t) t (without_lt m t fits) lowest_lt) (λ i q.
      sym (bit-or (without m t) (2 ^ t) i ∙ ap₂ ◌||◌ (bit_without m t i lowest_lt q) (bit_one t i) ∙ go i (bit m i) refl (eqb t i) refl))
    where
      go : (i : ℕ) (s : Bool) → bit m i ≡ s → (u : Bool) → eqb (lowest (bit m)) i ≡ u → ((s && not u) || u) ≡ bit m i
      go i true e true f = sym e
      go i true e false f = sym e
      go i false e true f = absurd (not_both (bit m i) (ap (bit m) (sym (eqb-true (lowest (bit m)) i f)) ∙ lowest_in) e)
      go i false e false f = sym e

-- As a loop over members makes a test of all, or a search: who is not left has been seen, and f says t of it.
-- A test of all goes on while f says true, a search while it says false.
abbrev pub Seen : (ℕ → Bool) → Bool → ℕ → Type 0
Seen f t left = (k : ℕ) → k < 64 → bit left k ≡ false → f k ≡ t

module _ (f : ℕ → Bool) {left : ℕ} (some : 0 < left) (fits : left < 2 ^ 64) where
  -- f says it of the lowest too: on with the rest
  pub seen_on : {t : Bool} → Seen f t left → f (lowest (bit left)) ≡ t → Seen f t (without left (lowest (bit left)))
  seen_on {t} seen e k l out = go (ℕ_discrete (lowest (bit left)) k)
    where
      go : Dec (lowest (bit left) ≡ k) → f k ≡ t
      go (yes q) = ap f (sym q) ∙ e
      go (no q) = seen k l (rest_out left some fits k l out q)

  -- the test fails at the lowest: it does not hold of all
  pub seen_fails : f (lowest (bit left)) ≡ false → all 64 f ≡ false
  seen_fails e = all_fails f 64 (lowest_lt left some fits) e

  -- the lowest passes, and who is below it was seen: it is what the search finds
  pub seen_at : Seen f false left → f (lowest (bit left)) ≡ true → lowest (bit left) ≡ lowest f
  seen_at seen e =
      let l = lowest_lt left some fits in
      sym (lowest_is 64 0 f (lowest (bit left)) (omega arith) (omega arith) e
      (λ k a b. seen k (omega arith) (lowest_first 64 0 (bit left) k (omega arith) b)))

module _ (f : ℕ → Bool) where
  -- nobody is left: the test holds of all,
  pub seen_all : Seen f true 0 → all 64 f ≡ true
  seen_all seen = all_in 64 f (λ k l. seen k l (bit_none k))

  -- or the search finds nothing
  pub seen_none : Seen f false 0 → 64 ≡ lowest f
  seen_none seen = lowest_end 64 f (λ k l. seen k l (bit_none k))

-- Joining is associative: all digits lie below some power of 2.
below_pow : (n : ℕ) → n < 2 ^ n
below_pow zero = zero-lt-suc zero
below_pow (suc n) = omega (arith, below_pow n, pow-suc 2 n)

pub or_assoc : (a b c : ℕ) → bit_or (bit_or a b) c ≡ bit_or a (bit_or b c)
or_assoc a b c =
    let k = a + b + c in
    let ha : a < 2 ^ k = lt_of_lt_of_le (below_pow a) (pow_mono (omega arith)) in
    let hb : b < 2 ^ k = lt_of_lt_of_le (below_pow b) (pow_mono (omega arith)) in
    let hc : c < 2 ^ k = lt_of_lt_of_le (below_pow c) (pow_mono (omega arith)) in
    bit_ext k (bit_or (bit_or a b) c) (bit_or a (bit_or b c)) (or_lt k (bit_or a b) c (or_lt k a b ha hb) hc)
    (or_lt k a (bit_or b c) ha (or_lt k b c hb hc)) (λ i q.
    bit-or (bit_or a b) c i ∙ ap (λ (t : Bool). t || bit c i) (bit-or a b i) ∙ bool_assoc (bit a i) (bit b i) (bit c i)
    ∙ sym (bit-or a (bit_or b c) i ∙ ap (λ (t : Bool). bit a i || t) (bit-or b c i)))
  where
    bool_assoc : (s t u : Bool) → ((s || t) || u) ≡ (s || (t || u))
    bool_assoc true t u = refl
    bool_assoc false t u = refl

or_swap : (a b x y : ℕ) → bit_or (bit_or a b) (bit_or x y) ≡ bit_or (bit_or a x) (bit_or b y)
or_swap a b x y =
    or_assoc a b (bit_or x y)
    ∙ ap (bit_or a) (sym (or_assoc b x y) ∙ ap (λ (z : ℕ). bit_or z y) (or_comm b x) ∙ or_assoc x b y)
    ∙ sym (or_assoc a x (bit_or b y))

only_or : (s t : Bool) (x : ℕ) → only (s || t) x ≡ bit_or (only s x) (only t x)
only_or true true x = sym (or_self x)
only_or true false x = sym (or_zero_r x)
only_or false true x = sym (or_comm 0 x ∙ or_zero_r x)
only_or false false x = refl

module _ (rows : ℕ → ℕ) where
  -- The rows of two sets together are the rows of both, joined.
  pub joined_or : (n a b : ℕ) → joined n rows (bit_or a b) ≡ bit_or (joined n rows a) (joined n rows b)
  unfolding joined
  joined_or zero a b = refl
  joined_or (suc n) a b =
      ap₂ bit_or (joined_or n a b) (ap (λ (t : Bool). only t (rows n)) (bit-or a b n) ∙ only_or (bit a n) (bit b n) (rows n))
      ∙ or_swap (joined n rows a) (joined n rows b) (only (bit a n) (rows n)) (only (bit b n) (rows n))

  -- the rows below n of one number from n on are none
  joined_past : (n i : ℕ) → n ≤ i → joined n rows (2 ^ i) ≡ 0
  unfolding joined
  joined_past zero i h = refl
  joined_past (suc n) i h =
      ap₂ bit_or (joined_past n i (omega arith)) (ap (λ (t : Bool). only t (rows n)) (bit_one i n ∙ ne_eqb i n (λ e. omega arith)))

  -- The rows of one number are its row.
  pub joined_one : (n i : ℕ) → i < n → joined n rows (2 ^ i) ≡ rows i
  unfolding joined
  joined_one zero i h = absurd (omega arith)
  joined_one (suc n) i h = go (dec_lt i n) (λ l. joined_one n i l)
    where
      go : Dec (i < n) → (i < n → joined n rows (2 ^ i) ≡ rows i) → bit_or (joined n rows (2 ^ i)) (only (bit (2 ^ i) n) (rows n)) ≡ rows i
      go (yes l) rec =
          ap₂ bit_or (rec l) (ap (λ (t : Bool). only t (rows n)) (bit_one i n ∙ ne_eqb i n (λ e. omega arith))) ∙ or_zero_r (rows i)
      go (no l) rec =
          let e : i ≡ n = omega arith in
          ap₂ bit_or (joined_past n i (omega arith)) (ap (λ (t : Bool). only t (rows n)) (bit_one i n ∙ eq-eqb i n e))
          ∙ or_comm 0 (rows n) ∙ or_zero_r (rows n) ∙ ap rows (sym e)

  -- The rows of nobody are none.
  pub joined_empty : (n : ℕ) → joined n rows 0 ≡ 0
  unfolding joined
  joined_empty zero = refl
  joined_empty (suc n) = ap₂ bit_or (joined_empty n) (ap (λ (t : Bool). only t (rows n)) (bit_none n))

  -- As a loop over members joins rows: what is joined, with the rows of those left, is the whole. On with the rest ..
  pub joined_on : (out : ℕ) {left whole : ℕ} → 0 < left → left < 2 ^ 64 → bit_or out (joined 64 rows left) ≡ whole
      → bit_or (bit_or out (rows (lowest (bit left)))) (joined 64 rows (without left (lowest (bit left)))) ≡ whole
  unfolding with
  joined_on out {left} some fits e =
      or_assoc out (rows (lowest (bit left))) (joined 64 rows (without left (lowest (bit left))))
      ∙ ap (bit_or out) (sym (ap (joined 64 rows) (rest_with left some fits) ∙ joined_or 64 (without left (lowest (bit left))) (2 ^ lowest (bit left))
      ∙ ap (bit_or (joined 64 rows (without left (lowest (bit left))))) (joined_one 64 (lowest (bit left)) (lowest_lt left some fits))
      ∙ or_comm (joined 64 rows (without left (lowest (bit left)))) (rows (lowest (bit left)))))
      ∙ e

  -- .. until nobody is left
  pub joined_done : (out : ℕ) {whole : ℕ} → bit_or out (joined 64 rows 0) ≡ whole → out ≡ whole
  joined_done out e = sym (or_zero_r out) ∙ ap (bit_or out) (sym (joined_empty 64)) ∙ e
