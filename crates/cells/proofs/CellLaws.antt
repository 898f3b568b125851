-- The loops over the cells of an order. Kinds 12 and 14 empty all 64: the loop starts with none emptied, each turn empties one more, and after 64 turns
-- all are. Kind 13 stamps those of a hand: a cell stamped, and the rest of the hand after it, is the hand stamped.
use mathlib.Core.Path.{◌≡◌, refl, sym, ap, ◌∙◌}
use mathlib.Core.Logic.{inr}
use mathlib.Core.Bool.{Bool, true, false, ◌&&◌, ◌||◌, not}
use Prim.Native.Nat.{ℕ, ◌+◌, ◌^◌, ◌≤◌, ◌<◌}
use native.Mathlib.Omega.{arith}
use native.Mathlib.Decide.{dec_lt, ℕ_discrete}
use lib.Dec.{eqb, ltb}
use borrow.Author.Tests.{eqb-true, eqb-false, eq-eqb, ne_eqb, lt-ltb, le-ltb}
use Rattle.sets.specs.Mask.{bit, with, without}
use Rattle.sets.specs.Search.{lowest}
use Rattle.sets.proofs.Logic.{and_fails_r, or_none}
use Rattle.sets.proofs.MaskLaws.{bit-or, bit_one, bit_none, bit_without}
use Rattle.sets.proofs.MemberLaws.{lowest_lt, lowest_in, rest_with}
use Rattle.rules.specs.Book.{Book, read}
use Rattle.rules.specs.Requests.{stamped_cell, stamped}
use Rattle.rules.proofs.BookLaws.{book_ext, read_no_cell}
use Rattle.book.specs.Slice.{with_cell}
use Rattle.cells.specs.Cells.{emptied_to, emptied, new_cell}

-- a choice by a test whose value is known
choose : (s t : Bool) (x : ℕ) → s ≡ t → ◌≡◌ {A = ℕ} (elim s [ true ↦ 0 | false ↦ x ]) (elim t [ true ↦ 0 | false ↦ x ])
choose s t x e = ap (λ (z : Bool). elim z as (λ (w : Bool). ℕ) [ true ↦ 0 | false ↦ x ]) e

module _ (d : Book) (p : ℕ) where
  -- Before the first turn the book is as it was.
  pub none_emptied : d ≡ emptied_to 0 d p
  none_emptied = book_ext _ _ (λ i. refl) (λ n r. refl)
      (λ q t. sym (choose (eqb q p && ltb t 0) false (d.cell q t) (and_fails_r (eqb q p) (ltb t 0) (le-ltb t 0 (omega arith)))))

  -- A turn empties one cell more.
  pub more_emptied : (i : ℕ) {before after : Book} → after ≡ with_cell p i 0 before → before ≡ emptied_to i d p → after ≡ emptied_to (i + 1) d p
  more_emptied i turn e =
      turn ∙ ap (with_cell p i 0) e ∙ book_ext _ _ (λ j. refl) (λ n r. refl) (λ q t. go q t (eqb q p) (ℕ_discrete t i))
    where
      go : (q t : ℕ) (s : Bool) → Dec (t ≡ i)
          → ◌≡◌ {A = ℕ} (elim (s && eqb t i) [ true ↦ 0 | false ↦ elim (s && ltb t i) [ true ↦ 0 | false ↦ d.cell q t ] ])
          (elim (s && ltb t (i + 1)) [ true ↦ 0 | false ↦ d.cell q t ])
      go q t false k = refl
      go q t true (yes e) = choose (eqb t i) true _ (eq-eqb t i e) ∙ sym (choose (ltb t (i + 1)) true (d.cell q t) (lt-ltb t (i + 1) (omega arith)))
      go q t true (no n) = choose (eqb t i) false _ (ne_eqb t i n) ∙ choose (ltb t i) (ltb t (i + 1)) (d.cell q t) (last (dec_lt t i))
        where
          last : Dec (t < i) → ltb t i ≡ ltb t (i + 1)
          last (yes l) = lt-ltb t i l ∙ sym (lt-ltb t (i + 1) (omega arith))
          last (no l) = le-ltb t i (omega arith) ∙ sym (le-ltb t (i + 1) (omega arith))

-- After 64 turns all cells are empty: past task 63 a book of words has none.
pub all_emptied : (w : ℕ → ℕ) (p i : ℕ) → 64 ≤ i → emptied_to i (read w) p ≡ emptied (read w) p
all_emptied w p i h = book_ext _ _ (λ j. refl) (λ n r. refl) (λ q t. go q t (eqb q p) (dec_lt t i))
  where
    go : (q t : ℕ) (s : Bool) → Dec (t < i)
        → ◌≡◌ {A = ℕ} (elim (s && ltb t i) [ true ↦ 0 | false ↦ (read w).cell q t ]) (elim s [ true ↦ 0 | false ↦ (read w).cell q t ])
    go q t false k = refl
    go q t true (yes l) = choose (ltb t i) true _ (lt-ltb t i l)
    go q t true (no l) = choose (ltb t i) false _ (le-ltb t i (omega arith)) ∙ read_no_cell w q t (inr (omega arith))

module _ (d : Book) (p by_subject e c : ℕ) where
  -- The lowest of those left stamped, and then the rest, is all of them stamped ..
  pub stamped_on : {left : ℕ} {whole : Book} → 0 < left → left < 2 ^ 64 → stamped d p left by_subject e c ≡ whole
      → stamped (with_cell p (lowest (bit left)) (new_cell d p by_subject e c (lowest (bit left))) d) p (without left (lowest (bit left))) by_subject e c
      ≡ whole
  unfolding stamped_cell with
  stamped_on {left} some fits all = book_ext _ _ (λ j. refl) (λ n r. refl) (λ q u. go q u (eqb q p) refl (eqb u t) refl) ∙ all
    where
      t : ℕ
      t = lowest (bit left)

      gone : bit (without left t) t ≡ false
      gone =
          let l = lowest_lt left some fits in
          bit_without left t t l l ∙ and_fails_r (bit left t) _ (ap not (eq-eqb t t refl))

      other : (u : ℕ) → (t ≡ u → ⊥) → bit (without left t) u ≡ bit left u
      other u n =
          sym (ap (λ (m : ℕ). bit m u) (rest_with left some fits) ∙ bit-or (without left t) (2 ^ t) u
          ∙ ap (λ (s : Bool). bit (without left t) u || s) (bit_one t u ∙ ne_eqb t u n) ∙ or_none (bit (without left t) u))

      go : (q u : ℕ) (s : Bool) → eqb q p ≡ s → (r : Bool) → eqb u t ≡ r
          → stamped_cell (s && bit (without left t) u) (bit by_subject u) e c (elim (s && r) [ true ↦ new_cell d p by_subject e c t | false ↦ d.cell q u ])
          ≡ stamped_cell (s && bit left u) (bit by_subject u) e c (d.cell q u)
      go q u false f r g = refl
      go q u true f true g =
          let z = eqb-true u t g in
          let y = eqb-true q p f in
          let in_hand = ap (bit left) z ∙ lowest_in left some fits in
          ap (λ (s : Bool). stamped_cell s (bit by_subject u) e c (new_cell d p by_subject e c t)) (ap (bit (without left t)) z ∙ gone)
          ∙ sym (λ i. stamped_cell (in_hand i) (bit by_subject (z i)) e c (d.cell (y i) (z i)))
      go q u true f false g =
          ap (λ (s : Bool). stamped_cell s (bit by_subject u) e c (d.cell q u)) (other u (λ z. eqb-false u t g (sym z)))

  -- .. until nobody is left: then nothing is stamped.
  pub stamped_done : {whole : Book} → stamped d p 0 by_subject e c ≡ whole → d ≡ whole
  unfolding stamped_cell
  stamped_done all =
      sym (book_ext _ _ (λ j. refl) (λ n r. refl) (λ q u.
      ap (λ (t : Bool). stamped_cell t (bit by_subject u) e c (d.cell q u)) (and_fails_r (eqb q p) (bit 0 u) (bit_none u)))) ∙ all
