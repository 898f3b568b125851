-- Mixed rows, joined and closed: what one step of the code gives is what the definitions give.
use mathlib.Core.Path.{◌≡◌, refl, sym, ap, ap₂, ◌∙◌, fun_ext}
use mathlib.Core.Bool.{Bool, true, false, ◌&&◌, ◌||◌, not}
use mathlib.Core.List.{List}
use Prim.Native.Nat.{ℕ, zero, suc, ◌+◌, ◌-◌, ◌^◌, ◌≤◌, ◌<◌}
use native.Mathlib.Decide.{ℕ_discrete}
use native.Mathlib.Omega.{arith}
use lib.Dec.{eqb}
use lib.Bits.{bit_and, bit_or, or_self, or_zero_r, or_lt, and_lt}
use lib.ListN.{length, get_or, set}
use lib.Seq.{get_or-set_same, get_or-set_other}
use borrow.Author.Tests.{eq-eqb, ne_eqb}
use Rattle.sets.specs.Mask.{bit, only, joined}
use Rattle.sets.proofs.Logic.{and_out, not_out}
use Rattle.sets.proofs.MaskLaws.{bit_ext, bit-or, bit-and, bit_not, bit_lt, in_l, in_r, none_zero}
use Rattle.sets.proofs.MemberLaws.{or_assoc, joined_or}
use Rattle.chains.specs.Closure.{widen, close, group}
use Rattle.chains.specs.Relation.{Step, stay}
use Rattle.chains.proofs.RelationLaws.{chain_join, chain_map}
use Rattle.chains.proofs.ClosureLaws.{close_lt, close_chain, from_close, group_lt, group_chain, chain_group}
use Rattle.rules.specs.Book.{Book, SB, RB}
use Rattle.rules.specs.Meaning.{Sized}
use Rattle.rules.specs.Trade.{mixed, subject_group, role_group}
use Rattle.rules.proofs.Exactly.{itself, exactly_as, exactly_same}
use Rattle.trade.specs.Spread.{Enough}

-- A table mixed with itself is the table.
pub mixed_self : (d : Book) (n : ℕ) → mixed d n n ≡ d.row n
mixed_self d n = fun_ext (λ u. or_self (d.row n u))

-- Rows that agree are joined alike ..
module _ (f g : ℕ → ℕ) (alike : (k : ℕ) → k < 64 → f k ≡ g k) where
  joined_same : (n m : ℕ) → n ≤ 64 → joined n f m ≡ joined n g m
  unfolding joined
  joined_same zero m h = refl
  joined_same (suc n) m h = ap₂ bit_or (joined_same n m (omega arith)) (ap (only (bit m n)) (alike n (omega arith)))

  -- .. widen a set alike ..
  pub widen_same : (m : ℕ) → widen f m ≡ widen g m
  unfolding widen
  widen_same m = ap (bit_or m) (joined_same 64 m (omega arith))

  -- .. and close it alike.
  pub close_same : (n m : ℕ) → close n f m ≡ close n g m
  unfolding close
  close_same zero m = refl
  close_same (suc n) m =
      ap (λ (w : ℕ). elim (eqb w m) as (λ (x : Bool). ℕ) [ true ↦ m | false ↦ close n f w ]) (widen_same m)
      ∙ ap (λ (w : ℕ). elim (eqb (widen g m) m) as (λ (x : Bool). ℕ) [ true ↦ m | false ↦ w ]) (close_same n (widen g m))

-- One row more stands in its place.
pub placed : (rows : ℕ → ℕ) (l : List ℕ) (r v : ℕ) → r < length l → v ≡ rows r → ((k : ℕ) → k < r → get_or l k 0 ≡ rows k)
    → (k : ℕ) → k < r + 1 → get_or (set l r v) k 0 ≡ rows k
placed rows l r v h e before k q = go (ℕ_discrete k r)
  where
    go : Dec (k ≡ r) → get_or (set l r v) k 0 ≡ rows k
    go (yes z) = rw (z, get_or-set_same l r v 0 h, e)
    go (no z) = get_or-set_other l r k v 0 z ∙ before k (omega arith)

-- With no steps left the set stays.
pub close_none : (rows : ℕ → ℕ) (m n : ℕ) → n ≡ 0 → m ≡ close n rows m
unfolding close
close_none rows m n e = rw e

-- The members of j that m lacks.
abbrev pub lacked : ℕ → ℕ → ℕ
lacked m j = bit_and j (2 ^ 64 - 1 - m)

-- A set m of which one step is taken by joining j to it. What m lacks of j is what the step adds.
module _ (rows : ℕ → ℕ) (m j : ℕ) (hm : m < 2 ^ 64) (hj : j < 2 ^ 64) (step : bit_or m j ≡ widen rows m) where
  lacked_bit : (i : ℕ) → i < 64 → bit (lacked m j) i ≡ (bit j i && not (bit m i))
  lacked_bit i l = bit-and j (2 ^ 64 - 1 - m) i ∙ ap (λ (t : Bool). bit j i && t) (bit_not 64 m i hm l)

  lacked_lt : lacked m j < 2 ^ 64
  lacked_lt = and_lt 64 j (2 ^ 64 - 1 - m) hj (omega arith)

  wider : bit_or m (lacked m j) ≡ widen rows m
  wider =
      bit_ext 64 (bit_or m (lacked m j)) (bit_or m j) (or_lt 64 m (lacked m j) hm lacked_lt) (or_lt 64 m j hm hj) (λ i l.
      bit-or m (lacked m j) i ∙ ap (λ (t : Bool). bit m i || t) (lacked_bit i l) ∙ go (bit m i) (bit j i) ∙ sym (bit-or m j i))
      ∙ step
    where
      go : (s t : Bool) → (s || (t && not s)) ≡ (s || t)
      go true t = refl
      go false true = refl
      go false false = refl

  -- one step, by whether it adds something
  close_turn : (n : ℕ) (t : Bool) → (n ≡ 0 → ⊥) → eqb (bit_or m (lacked m j)) m ≡ t
      → close n rows m ≡ (elim t as (λ (x : Bool). ℕ) [ true ↦ m | false ↦ close (n - 1) rows (bit_or m (lacked m j)) ])
  unfolding close
  close_turn zero t h e = absurd (h refl)
  close_turn (suc n) t h e =
      let q : suc n - 1 ≡ n = omega arith in
      ap (λ (x : ℕ). elim (eqb x m) as (λ (y : Bool). ℕ) [ true ↦ m | false ↦ close n rows x ]) (sym wider)
      ∙ ap₂ (λ (x : Bool) (k : ℕ). elim x as (λ (y : Bool). ℕ) [ true ↦ m | false ↦ close k rows (bit_or m (lacked m j)) ]) e (sym q)

  -- A step that adds nothing: the set is closed.
  pub close_still : (n : ℕ) → (n ≡ 0 → ⊥) → lacked m j ≡ 0 → m ≡ close n rows m
  close_still n h e = sym (close_turn n true h (eq-eqb (bit_or m (lacked m j)) m (ap (bit_or m) e ∙ or_zero_r m)))

  -- What is added was not there.
  adds : (lacked m j ≡ 0 → ⊥) → bit_or m (lacked m j) ≡ m → ⊥
  adds some e = some (none_zero (lacked m j) lacked_lt (λ i p.
      let l = bit_lt (lacked m j) i lacked_lt p in
      not_out (bit m i) (and_out (bit j i) (not (bit m i)) (sym (lacked_bit i l) ∙ p)).1 (ap (λ (x : ℕ). bit x i) (sym e) ∙ in_r m (lacked m j) i p)))

  -- A step that adds something: on with one step less.
  pub close_on : (n : ℕ) → (n ≡ 0 → ⊥) → (lacked m j ≡ 0 → ⊥) → close (n - 1) rows (bit_or m (lacked m j)) ≡ close n rows m
  close_on n h some = sym (close_turn n false h (ne_eqb (bit_or m (lacked m j)) m (adds some)))

  -- After a step the members that it added are enough: the rows of the others were joined in it.
  pub frontier : Enough rows (bit_or m (lacked m j)) (lacked m j)
  unfolding widen
  frontier =
      let w = bit_or m (lacked m j) in
      let old = joined 64 rows m in
      let had : bit_or w old ≡ w = ap (λ (x : ℕ). bit_or x old) wider ∙ or_assoc m old old ∙ ap (bit_or m) (or_self old) ∙ sym wider in
      ap (λ (x : ℕ). bit_or x (joined 64 rows (lacked m j))) (sym had)
      ∙ or_assoc w old (joined 64 rows (lacked m j))
      ∙ ap (bit_or w) (sym (joined_or rows 64 m (lacked m j)))

-- What chains of SB and RB mixed lead to from the subject group of t is the role group of t.
pub around : (d : Book) → Sized d → (t : ℕ) → t < 64 → close 64 (mixed d SB RB) (subject_group d t) ≡ role_group d t
unfolding subject_group role_group
around d s t h =
    bit_ext 64 (close 64 rows narrow) (group rows t) (close_lt rows fits 64 narrow small) (group_lt rows fits t h) (λ j l.
    exactly_same
    (exactly_as
    (λ e.
    let w = close_chain rows fits narrow j e in
    chain_join (chain_map along (group_chain (d.row SB) (s.rows SB).fits t w.0 w.1)) w.2)
    (λ c. from_close rows fits narrow j small (t, chain_group (d.row SB) (s.rows SB).fits t t h stay, c)) (itself (bit (close 64 rows narrow) j)))
    (exactly_as (group_chain rows fits t j) (chain_group rows fits t j h) (itself (bit (group rows t) j))))
  where
    rows : ℕ → ℕ
    rows = mixed d SB RB

    narrow : ℕ
    narrow = group (d.row SB) t

    fits : (i : ℕ) → mixed d SB RB i < 2 ^ 64
    fits i = or_lt 64 (d.row SB i) (d.row RB i) ((s.rows SB).fits i) ((s.rows RB).fits i)

    small : group (d.row SB) t < 2 ^ 64
    small = group_lt (d.row SB) (s.rows SB).fits t h

    along : (i k : ℕ) → Step (d.row SB) i k → Step (mixed d SB RB) i k
    along i k e = in_l (d.row SB i) (d.row RB i) k e
