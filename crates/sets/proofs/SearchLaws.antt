-- What the searches of specs/Search.antt find, and the laws by which a loop shows that it makes them.
use mathlib.Core.Path.{◌≡◌, refl, sym, ap, ap₂, ◌∙◌, subst}
use mathlib.Core.Logic.{◌⊎◌, inl, inr}
use mathlib.Core.Bool.{Bool, true, false, not, true≢false}
use Prim.Native.Nat.{ℕ, zero, suc, ◌+◌, ◌-◌, ◌^◌, ◌≤◌, ◌<◌}
use native.Mathlib.Numerals.{add-one}
use native.Mathlib.Decide.{dec_lt}
use native.Mathlib.Omega.{arith}
use lib.Dec.{ltb}
use lib.Bits.{bit_and, and_lt}
use lib.Pow.{pow_pos}
use borrow.Author.Tests.{ltb-true, lt-ltb, eq-eqb}
use Rattle.sets.specs.Mask.{bit, meet}
use Rattle.sets.specs.Search.{lowest_from, lowest, all, paired}
use Rattle.sets.proofs.Logic.{not_both, refute}
use Rattle.sets.proofs.MaskLaws.{bit_none, bit_ext, both_out}

-- What a search finds passes.
pub lowest_passes : (n i : ℕ) (f : ℕ → Bool) → lowest_from n i f < i + n → f (lowest_from n i f) ≡ true
unfolding lowest_from
lowest_passes zero i f h = absurd (omega arith)
lowest_passes (suc n) i f h = go (f i) refl h (λ q. lowest_passes n (suc i) f (omega arith))
  where
    go : (t : Bool) → f i ≡ t → elim t [ true ↦ i | false ↦ lowest_from n (suc i) f ] < i + suc n
        → (lowest_from n (suc i) f < i + suc n → f (lowest_from n (suc i) f) ≡ true) → f (elim t [ true ↦ i | false ↦ lowest_from n (suc i) f ]) ≡ true
    go true e q rec = e
    go false e q rec = rec q

-- Nothing below what a search finds passes.
pub lowest_first : (n i : ℕ) (f : ℕ → Bool) (k : ℕ) → i ≤ k → k < lowest_from n i f → f k ≡ false
unfolding lowest_from
lowest_first zero i f k l m = absurd (omega arith)
lowest_first (suc n) i f k l m = go (f i) refl m (λ q r. lowest_first n (suc i) f k r q) (dec_lt i k)
  where
    go : (t : Bool) → f i ≡ t → k < elim t [ true ↦ i | false ↦ lowest_from n (suc i) f ]
        → (k < lowest_from n (suc i) f → suc i ≤ k → f k ≡ false) → Dec (i < k) → f k ≡ false
    go true e q rec d = absurd (omega arith)
    go false e q rec (yes d) = rec q d
    go false e q rec (no d) = let s : i ≡ k = omega arith in subst (λ (x : ℕ). f x ≡ false) s e

pub lowest_most : (n i : ℕ) (f : ℕ → Bool) → lowest_from n i f ≤ i + n
unfolding lowest_from
lowest_most zero i f = omega arith
lowest_most (suc n) i f = go (f i) (lowest_most n (suc i) f)
  where
    go : (t : Bool) → lowest_from n (suc i) f ≤ suc i + n → elim t [ true ↦ i | false ↦ lowest_from n (suc i) f ] ≤ i + suc n
    go true h = omega arith
    go false h = omega arith

-- Where something passes, the search finds something.
pub lowest_some : (n i : ℕ) (f : ℕ → Bool) (k : ℕ) → i ≤ k → k < i + n → f k ≡ true → lowest_from n i f < i + n
lowest_some n i f k l m e = go (dec_lt (lowest_from n i f) (i + n))
  where
    go : Dec (lowest_from n i f < i + n) → lowest_from n i f < i + n
    go (yes d) = d
    go (no d) = absurd (not_both (f k) e (lowest_first n i f k l (omega arith)))

-- A search does not go below its start.
pub lowest_from_lem : (n i : ℕ) (f : ℕ → Bool) → i ≤ lowest_from n i f
unfolding lowest_from
lowest_from_lem zero i f = omega arith
lowest_from_lem (suc n) i f = go (f i) (lowest_from_lem n (suc i) f)
  where
    go : (t : Bool) → suc i ≤ lowest_from n (suc i) f → i ≤ elim t [ true ↦ i | false ↦ lowest_from n (suc i) f ]
    go true h = omega arith
    go false h = omega arith

-- What passes, and has nothing that passes before it, is what the search finds.
pub lowest_is : (n i : ℕ) (f : ℕ → Bool) (k : ℕ) → i ≤ k → k < i + n → f k ≡ true → ((j : ℕ) → i ≤ j → j < k → f j ≡ false) → lowest_from n i f ≡ k
lowest_is n i f k l m e none = go (dec_lt (lowest_from n i f) k) (dec_lt k (lowest_from n i f))
  where
    found : lowest_from n i f < i + n
    found = lowest_some n i f k l m e

    go : Dec (lowest_from n i f < k) → Dec (k < lowest_from n i f) → lowest_from n i f ≡ k
    go (yes h) r = absurd (not_both _ (lowest_passes n i f found) (none (lowest_from n i f) (lowest_from_lem n i f) h))
    go (no h) (yes r) = absurd (not_both (f k) e (lowest_first n i f k l r))
    go (no h) (no r) = omega arith

-- Two tests that agree on 0..63 have the same lowest.
pub lowest_same : (f g : ℕ → Bool) → ((k : ℕ) → k < 64 → f k ≡ g k) → lowest f ≡ lowest g
unfolding lowest_from
lowest_same f g same = go 64 0 (omega arith)
  where
    go : (n i : ℕ) → i + n ≤ 64 → lowest_from n i f ≡ lowest_from n i g
    go zero i h = refl
    go (suc n) i h = turn (f i) (g i) (same i (omega arith)) (go n (suc i) (omega arith))
      where
        turn : (s t : Bool) → s ≡ t → lowest_from n (suc i) f ≡ lowest_from n (suc i) g
            → ◌≡◌ {A = ℕ} (elim s [ true ↦ i | false ↦ lowest_from n (suc i) f ]) (elim t [ true ↦ i | false ↦ lowest_from n (suc i) g ])
        turn s t e r = ap₂ (λ (x : Bool) (y : ℕ). elim x as (λ (z : Bool). ℕ) [ true ↦ i | false ↦ y ]) e r

-- A search over 0..63 that finds nothing: nothing passes.
pub none_passes : (f : ℕ → Bool) → ltb (lowest f) 64 ≡ false → (k : ℕ) → k < 64 → f k ≡ false
none_passes f e k h = refute (f k) (λ p. not_both (ltb (lowest f) 64) (lt-ltb _ _ (lowest_some 64 0 f k (omega arith) (omega arith) p)) e)

pub none_found : (f : ℕ → Bool) → ((k : ℕ) → k < 64 → f k ≡ false) → ltb (lowest f) 64 ≡ false
none_found f h = refute _ (λ e. let l = ltb-true (lowest f) 64 e in not_both (f (lowest f)) (lowest_passes 64 0 f l) (h (lowest f) l))

-- Whatever its length, a search in which nothing passes comes to its end.
pub lowest_end : (n : ℕ) (f : ℕ → Bool) → ((k : ℕ) → k < n → f k ≡ false) → n ≡ lowest_from n 0 f
lowest_end n f none = go (dec_lt (lowest_from n 0 f) n) (lowest_most n 0 f)
  where
    go : Dec (lowest_from n 0 f < n) → lowest_from n 0 f ≤ 0 + n → n ≡ lowest_from n 0 f
    go (yes h) m = absurd (not_both _ (lowest_passes n 0 f (omega arith)) (none _ h))
    go (no h) m = omega arith

-- Where no pair passes, none is found; where none is found, no pair passes.
pub no_pair : (f : ℕ → ℕ → Bool) → ltb (lowest (paired f)) 64 ≡ false → (u v : ℕ) → u < 64 → v < 64 → f u v ≡ false
no_pair f e u v hu hv = none_passes (f u) (none_passes (paired f) e u hu) v hv

pub pair_none : (f : ℕ → ℕ → Bool) → ((u v : ℕ) → u < 64 → v < 64 → f u v ≡ false) → ltb (lowest (paired f)) 64 ≡ false
pair_none f h = none_found (paired f) (λ u hu. none_found (f u) (λ v hv. h u v hu hv))

-- All of the numbers below n.
pub all_out : (n : ℕ) (f : ℕ → Bool) → all n f ≡ true → (i : ℕ) → i < n → f i ≡ true
unfolding all
all_out zero f e i h = absurd (omega arith)
all_out (suc n) f e i h = go (all n f) refl e (λ q. all_out n f q i)
  where
    go : (t : Bool) → all n f ≡ t → elim t [ true ↦ f n | false ↦ false ] ≡ true → (all n f ≡ true → i < n → f i ≡ true) → f i ≡ true
    go false p q rec = absurd (true≢false (sym q))
    go true p q rec = last (dec_lt i n)
      where
        last : Dec (i < n) → f i ≡ true
        last (yes l) = rec p l
        last (no l) = let m : n ≡ i = omega arith in subst (λ (x : ℕ). f x ≡ true) m q

pub all_in : (n : ℕ) (f : ℕ → Bool) → ((i : ℕ) → i < n → f i ≡ true) → all n f ≡ true
unfolding all
all_in zero f h = refl
all_in (suc n) f h =
    ap (λ (t : Bool). elim t as (λ (x : Bool). Bool) [ true ↦ f n | false ↦ false ]) (all_in n f (λ i l. h i (omega arith))) ∙ h n (omega arith)

-- Some number below n passes, or none does.
pub some_or_none : (n : ℕ) (f : ℕ → Bool) → ((i : ℕ) × (i < n) × (f i ≡ true)) ⊎ ((i : ℕ) → i < n → f i ≡ false)
some_or_none zero f = inr (λ i h. absurd (omega arith))
some_or_none (suc n) f = go (f n) refl (some_or_none n f)
  where
    go : (t : Bool) → f n ≡ t → ((i : ℕ) × (i < n) × (f i ≡ true)) ⊎ ((i : ℕ) → i < n → f i ≡ false)
        → ((i : ℕ) × (i < suc n) × (f i ≡ true)) ⊎ ((i : ℕ) → i < suc n → f i ≡ false)
    go true e r = inl (n, omega arith, e)
    go false e (inl r) = inl (r.0, omega arith, r.2)
    go false e (inr r) = inr (λ i h. last i h (dec_lt i n))
      where
        last : (i : ℕ) → i < suc n → Dec (i < n) → f i ≡ false
        last i h (yes l) = r i l
        last i h (no l) = let m : n ≡ i = omega arith in subst (λ (x : ℕ). f x ≡ false) m e

-- Two sets that meet have a common member.
pub meet_out : (m n : ℕ) → m < 2 ^ 64 → n < 2 ^ 64 → meet m n ≡ true → (i : ℕ) × (bit m i ≡ true) × (bit n i ≡ true)
unfolding meet
meet_out m n h l e = go (some_or_none 64 (λ i. bit (bit_and m n) i))
  where
    go : ((i : ℕ) × (i < 64) × (bit (bit_and m n) i ≡ true)) ⊎ ((i : ℕ) → i < 64 → bit (bit_and m n) i ≡ false) → (i : ℕ) × (bit m i ≡ true) × (bit n i ≡ true)
    go (inl r) = let s = both_out m n r.0 r.2 in (r.0, s.0, s.1)
    go (inr r) =
        let z : bit_and m n ≡ 0 = bit_ext 64 (bit_and m n) 0 (and_lt 64 m n h l) (pow_pos 64) (λ i q. r i q ∙ sym (bit_none i)) in
        absurd (true≢false (sym e ∙ ap not (eq-eqb (bit_and m n) 0 z)))

-- As a loop makes a search: at i the rest of the numbers below n gives what the whole gives, t.
abbrev pub search_rest : (ℕ → Bool) → ℕ → ℕ → ℕ
search_rest f i n = lowest_from (n - i) i f

left : (i n : ℕ) → i < n → n - i ≡ suc (n - (i + 1))
left i n h = omega arith

-- one turn of the search, by the test at i
search_turn : (f : ℕ → Bool) (i n : ℕ) (t : Bool) → i < n → f i ≡ t
    → search_rest f i n ≡ (elim t as (λ (x : Bool). ℕ) [ true ↦ i | false ↦ search_rest f (i + 1) n ])
unfolding lowest_from
search_turn f i n t h p =
    ap (λ (k : ℕ). lowest_from k i f) (left i n h)
    ∙ ap (λ (x : Bool). elim x as (λ (y : Bool). ℕ) [ true ↦ i | false ↦ lowest_from (n - (i + 1)) (suc i) f ]) p
    ∙ ap (λ (j : ℕ). elim t as (λ (y : Bool). ℕ) [ true ↦ i | false ↦ lowest_from (n - (i + 1)) j f ]) (sym (add-one i))

module _ (f : ℕ → Bool) {i n t : ℕ} where
  -- i does not pass: on with i + 1
  pub search_on : i < n → search_rest f i n ≡ t → f i ≡ false → search_rest f (i + 1) n ≡ t
  search_on h e p = sym (search_turn f i n false h p) ∙ e

  -- i passes: it is what the search finds
  pub search_at : i < n → search_rest f i n ≡ t → f i ≡ true → i ≡ t
  search_at h e p = sym (search_turn f i n true h p) ∙ e

  -- nothing is left
  pub search_out : n ≤ i → i ≤ n → search_rest f i n ≡ t → n ≡ t
  unfolding lowest_from
  search_out h k e =
      let q : i ≡ n = omega arith in
      let z : n - n ≡ 0 = omega arith in
      sym (ap (λ (x : ℕ). lowest_from x n f) z) ∙ ap (λ (j : ℕ). search_rest f j n) (sym q) ∙ e

-- As a loop makes a test of all: those below i pass.
module _ (f : ℕ → Bool) {i : ℕ} where
  pub all_on : all i f ≡ true → f i ≡ true → all (i + 1) f ≡ true
  all_on e p = all_in (i + 1) f (λ k h. go k h (dec_lt k i))
    where
      go : (k : ℕ) → k < i + 1 → Dec (k < i) → f k ≡ true
      go k h (yes l) = all_out i f e k l
      go k h (no l) = let m : i ≡ k = omega arith in subst (λ (x : ℕ). f x ≡ true) m p

  pub all_fails : (n : ℕ) → i < n → f i ≡ false → all n f ≡ false
  all_fails n h p = refute (all n f) (λ e. not_both (f i) (all_out n f e i h) p)

  pub all_done : (n : ℕ) → n ≤ i → i ≤ n → all i f ≡ true → all n f ≡ true
  all_done n h k e = let q : i ≡ n = omega arith in subst (λ (x : ℕ). all x f ≡ true) q e
