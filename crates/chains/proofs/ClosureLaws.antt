-- The computed closure is exactly what chains of any length lead to, and 64 steps suffice.
use mathlib.Core.Path.{◌≡◌, refl, sym, subst}
use mathlib.Core.Logic.{◌⊎◌, inl, inr}
use mathlib.Core.Bool.{Bool, true, false}
use Prim.Native.Nat.{ℕ, zero, suc, ◌+◌, ◌^◌, ◌≤◌, ◌<◌}
use native.Mathlib.Nat.{le_refl}
use native.Mathlib.Decide.{dec_lt}
use native.Mathlib.Omega.{arith}
use lib.Dec.{eqb}
use lib.Bits.{or_lt}
use lib.Pow.{pow-lt}
use borrow.Author.Tests.{eqb-true, eqb-false}
use Rattle.sets.specs.Mask.{bit, joined}
use Rattle.sets.specs.Count.{count}
use Rattle.sets.proofs.MaskLaws.{bit_ext, bit_lt, in_l, in_r, in_cases, in_one, one_out, joined_in, joined_out, joined_lt}
use Rattle.sets.proofs.CountLaws.{count_le, Sub, count_same}
use Rattle.chains.specs.Closure.{widen, close, group}
use Rattle.chains.specs.Relation.{Relation, In, Step, Chain, stay, more, Steps, none, next}

-- A chain leads to j from a member of m.
abbrev pub From : (ℕ → ℕ) → ℕ → ℕ → Type 0
From rows m j = (i : ℕ) × In m i × Chain (Step rows) i j

-- A chain of at most n steps leads to j from a member of m.
pub record Within (n : ℕ) (rows : ℕ → ℕ) (m j : ℕ) : Type 0 where
  pub from : ℕ
  pub count : ℕ
  pub few : count ≤ n
  pub starts : In m from
  pub way : Steps (Step rows) from count j

pub steps_chain : {E : Relation} {i n j : ℕ} → Steps E i n j → Chain E i j
steps_chain none = stay
steps_chain (next c e) = more (steps_chain c) e

steps_first : {E : Relation} {h i n j : ℕ} → E h i → Steps E i n j → Steps E h (suc n) j
steps_first e none = next none e
steps_first e (next c f) = next (steps_first e c) f

module _ (rows : ℕ → ℕ) where
  within_none : (m j : ℕ) → In m j → Within 0 rows m j
  within_none m j e = record { from = j; count = 0; few = le_refl 0; starts = e; way = none }

  within_wider : {n m j : ℕ} → Within 0 rows m j → Within n rows m j
  within_wider w = record { from = w.from; count = w.count; few = omega arith; starts = w.starts; way = w.way }

  within_more : (n m j : ℕ) → Within n rows (widen rows m) j → Within (suc n) rows m j
  unfolding widen
  within_more n m j w = go (in_cases m (joined 64 rows m) w.from w.starts)
    where
      go : In m w.from ⊎ In (joined 64 rows m) w.from → Within (suc n) rows m j
      go (inl q) = record { from = w.from; count = w.count; few = omega arith; starts = q; way = w.way }
      go (inr q) =
          let o = joined_out rows 64 m w.from q in
          record { from = o.0; count = suc w.count; few = omega (arith, w.few); starts = o.1; way = steps_first o.2 w.way }

-- The closure, of rows of 64-bit words.
module _ (rows : ℕ → ℕ) (bound : (i : ℕ) → rows i < 2 ^ 64) where
  widen_lt : (m : ℕ) → m < 2 ^ 64 → widen rows m < 2 ^ 64
  unfolding widen
  widen_lt m h = or_lt 64 m (joined 64 rows m) h (joined_lt rows bound 64 m)

  widen_sub : (m : ℕ) → Sub m (widen rows m)
  unfolding widen
  widen_sub m i e = in_l m (joined 64 rows m) i e

  -- a widening that adds nothing to the count adds nothing
  widen_same : (m : ℕ) → m < 2 ^ 64 → count (widen rows m) ≤ count m → widen rows m ≡ m
  widen_same m h l = sym (bit_ext 64 m (widen rows m) h (widen_lt m h) (count_same 64 m (widen rows m) (widen_sub m) l))

  widen_more : (m : ℕ) → m < 2 ^ 64 → (widen rows m ≡ m → ⊥) → count m < count (widen rows m)
  widen_more m h ne = go (dec_lt (count m) (count (widen rows m)))
    where
      go : Dec (count m < count (widen rows m)) → count m < count (widen rows m)
      go (yes l) = l
      go (no l) = absurd (ne (widen_same m h (omega arith)))

  pub close_lt : (n m : ℕ) → m < 2 ^ 64 → close n rows m < 2 ^ 64
  unfolding close
  close_lt zero m h = h
  close_lt (suc n) m h = go (eqb (widen rows m) m) (close_lt n (widen rows m) (widen_lt m h))
    where
      go : (t : Bool) → close n rows (widen rows m) < 2 ^ 64 → elim t [ true ↦ m | false ↦ close n rows (widen rows m) ] < 2 ^ 64
      go true r = h
      go false r = r

  -- 64 widenings are enough
  stable : (n m : ℕ) → m < 2 ^ 64 → 64 ≤ count m + n → widen rows (close n rows m) ≡ close n rows m
  unfolding close
  stable zero m h l = widen_same m h (omega (arith, count_le 64 (widen rows m)))
  stable (suc n) m h l = go (eqb (widen rows m) m) refl (λ q. stable n (widen rows m) (widen_lt m h) (omega (arith, widen_more m h q)))
    where
      go : (t : Bool) → eqb (widen rows m) m ≡ t → ((widen rows m ≡ m → ⊥) → widen rows (close n rows (widen rows m)) ≡ close n rows (widen rows m))
          → widen rows (elim t [ true ↦ m | false ↦ close n rows (widen rows m) ]) ≡ elim t [ true ↦ m | false ↦ close n rows (widen rows m) ]
      go true e r = eqb-true (widen rows m) m e
      go false e r = r (eqb-false (widen rows m) m e)

  close_sub : (n m : ℕ) → Sub m (close n rows m)
  unfolding close
  close_sub zero m i e = e
  close_sub (suc n) m i e = go (eqb (widen rows m) m) (close_sub n (widen rows m) i (widen_sub m i e))
    where
      go : (t : Bool) → bit (close n rows (widen rows m)) i ≡ true → bit (elim t [ true ↦ m | false ↦ close n rows (widen rows m) ]) i ≡ true
      go true r = e
      go false r = r

  -- what n widenings add lies at most n steps away
  close_within : (n m j : ℕ) → bit (close n rows m) j ≡ true → Within n rows m j
  unfolding close
  close_within zero m j e = within_none rows m j e
  close_within (suc n) m j e = go (eqb (widen rows m) m) (λ q. within_more rows n m j (close_within n (widen rows m) j q)) e
    where
      go : (t : Bool) → (bit (close n rows (widen rows m)) j ≡ true → Within (suc n) rows m j)
          → bit (elim t [ true ↦ m | false ↦ close n rows (widen rows m) ]) j ≡ true → Within (suc n) rows m j
      go true r q = within_wider rows (within_none rows m j q)
      go false r q = r q

  -- a member's row lies in the closure
  close_step : (m i j : ℕ) → m < 2 ^ 64 → bit (close 64 rows m) i ≡ true → bit (rows i) j ≡ true → bit (close 64 rows m) j ≡ true
  unfolding widen
  close_step m i j h p q =
      subst (λ (x : ℕ). bit x j ≡ true) (stable 64 m h (omega arith))
      (in_r (close 64 rows m) (joined 64 rows (close 64 rows m)) j
      (joined_in rows 64 (close 64 rows m) i j (bit_lt (close 64 rows m) i (close_lt 64 m h) p) p q))

  chain_close : (m i j : ℕ) → m < 2 ^ 64 → In m i → Chain (Step rows) i j → In (close 64 rows m) j
  chain_close m i j h p stay = close_sub 64 m i p
  chain_close m i j h p (more {j = k} c e) = close_step m k j h (chain_close m i k h p c) e

  -- The closure of m has exactly the members that chains of any length lead to from a member of m.
  pub close_chain : (m j : ℕ) → In (close 64 rows m) j → From rows m j
  close_chain m j e = let w = close_within 64 m j e in (w.from, w.starts, steps_chain w.way)

  pub from_close : (m j : ℕ) → m < 2 ^ 64 → From rows m j → In (close 64 rows m) j
  from_close m j h w = chain_close m w.0 j h w.1 w.2

  -- The group of t is exactly what chains of no steps or more lead to from t.
  pub group_chain : (t j : ℕ) → In (group rows t) j → Chain (Step rows) t j
  unfolding group
  group_chain t j e =
      let w = close_chain (2 ^ t) j e in
      subst (λ (x : ℕ). Chain (Step rows) x j) (sym (one_out t w.0 w.1)) w.2

  pub chain_group : (t j : ℕ) → t < 64 → Chain (Step rows) t j → In (group rows t) j
  unfolding group
  chain_group t j h c = from_close (2 ^ t) j (pow-lt h) (t, in_one t, c)

  pub group_lt : (t : ℕ) → t < 64 → group rows t < 2 ^ 64
  unfolding group
  group_lt t h = close_lt 64 (2 ^ t) (pow-lt h)
