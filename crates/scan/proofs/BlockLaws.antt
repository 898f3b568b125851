-- The scan by blocks of 64 words: the lowest bad word of a block, where no word before it is bad, is the lowest of the book.
use mathlib.Core.Path.{◌≡◌, refl, sym, ap, ap₂, ◌∙◌}
use mathlib.Core.Bool.{Bool, true, false}
use mathlib.Core.Logic.{◌⊎◌, inl, inr}
use Prim.Native.Nat.{ℕ, zero, suc, ◌+◌, ◌-◌, ◌^◌, ◌≤◌, ◌<◌}
use native.Mathlib.Omega.{arith}
use native.Mathlib.Decide.{dec_lt}
use lib.Dec.{eqb}
use lib.ListN.{get_or}
use lib.Bits.{bit_or, or_add_and, and_le_l, and_le_r}
use borrow.Author.Tests.{ne_eqb}
use Rattle.sets.specs.Mask.{bit, only, joined}
use Rattle.std.specs.Prelude.{Option, Some, None, MatchOption}
use Rattle.sets.specs.Search.{lowest_from, lowest}
use Rattle.sets.specs.Members.{IsLowest}
use Rattle.sets.proofs.MaskLaws.{in_full, only_yes}
use Rattle.sets.proofs.SearchLaws.{lowest_passes, lowest_first, lowest_is, lowest_end, lowest_same}
use Rattle.rules.specs.Book.{Book, book_words, head_words, table_count, tasks, roles, subjects, active}
use Rattle.rules.specs.Book.{bad_mask, bad_active, RowTest, masks, actives, order_masks, row_tests, bad_row, bad, first_bad}
use Rattle.rules.proofs.WordLaws.{bad_word, bad_head, bad_row_lem}
use Rattle.book.specs.declared.Table.{Table}
use Rattle.book.specs.declared.Table.TheVariants.{Sme, Dme, Rb, Sb}
use Rattle.book.specs.Tables.{number}
use Rattle.scan.specs.Blocks.{mask_bad, active_bad, row_bad}
use Rattle.scan.proofs.BadLaws.{zero_word, some_word}

-- No number below i passes: of the test for bad words, all words before i are good.
abbrev pub NoneBelow : (ℕ → Bool) → ℕ → Type 0
NoneBelow f i = (j : ℕ) → j < i → f j ≡ false

-- Where a block begins at i, and nothing before it passes:
module _ (f : ℕ → Bool) (i : ℕ) (none : NoneBelow f i) where
  -- nothing passes up to what the search of the block finds,
  pub block_on : (k : ℕ) → k ≤ lowest (λ r. f (i + r)) → NoneBelow f (i + k)
  block_on k h j l = go (dec_lt j i)
    where
      go : Dec (j < i) → f j ≡ false
      go (yes b) = none j b
      go (no b) =
          let e : j ≡ i + (j - i) = omega arith in
          ap f e ∙ lowest_first 64 0 (λ r. f (i + r)) (j - i) (omega arith) (omega arith)

  -- and that is what the whole search finds.
  pub block_at : (n : ℕ) {x : ℕ} → (x < 64) × (lowest (λ r. f (i + r)) ≡ x) → i + x < n → lowest_from n 0 f ≡ i + x
  block_at n {x} h l =
      lowest_is n 0 f (i + x) (omega arith) (omega arith)
      (ap (λ (r : ℕ). f (i + r)) (sym h.1) ∙ lowest_passes 64 0 (λ r. f (i + r)) (omega arith))
      (λ j a b. block_on x (omega arith) j b)

module _ (d : Book) where
  -- Words 0 to 2 are never bad ..
  head_good : NoneBelow (bad d) 3
  head_good i h = bad_head d i (omega arith) ∙ ap (bad_word (d.head i)) (ne_eqb i 3 (λ e. omega arith)) ∙ go (eqb (d.head i) 0)
    where
      go : (t : Bool) → (elim t as (λ (x : Bool). Bool) [ true ↦ false | false ↦ false ]) ≡ false
      go true = refl
      go false = refl

  -- .. so word 3 is the lowest bad one where it is not 0 ..
  pub gap_bad : (d.head 3 ≡ 0 → ⊥) → first_bad d ≡ 3
  unfolding first_bad
  gap_bad n = lowest_is book_words 0 (bad d) 3 (omega arith) (omega arith) (bad_head d 3 (omega arith) ∙ some_word true refl n) (λ j a b. head_good j b)

  -- .. and where it is, no word of the head is bad.
  pub past_head : d.head 3 ≡ 0 → NoneBelow (bad d) head_words
  past_head e i h = go (dec_lt i 3)
    where
      go : Dec (i < 3) → bad d i ≡ false
      go (yes l) = head_good i l
      go (no l) = let z : i ≡ 3 = omega arith in ap (bad d) z ∙ bad_head d 3 (omega arith) ∙ zero_word true refl e

-- The test of a table, by its number.
abbrev pub row_test : ℕ → RowTest
row_test n = get_or row_tests n (λ d r v. false)

abbrev test_of : Table → RowTest
test_of t = row_test (number t)

-- The four pair tables have one test.
pub pair_test : (t : Table) → (t ≡ Sme) ⊎ ((t ≡ Dme) ⊎ ((t ≡ Rb) ⊎ (t ≡ Sb))) → row_test (number t) ≡ masks tasks tasks
unfolding row_tests
pair_test t (inl e) = ap test_of e
pair_test t (inr (inl e)) = ap test_of e
pair_test t (inr (inr (inl e))) = ap test_of e
pair_test t (inr (inr (inr e))) = ap test_of e

-- The bad rows of table n are those that its test finds:
module _ (d : Book) (n : ℕ) (h : n < table_count) where
  rows_by : (test : RowTest) (f : ℕ → Bool) → row_test n ≡ test → ((r : ℕ) → r < 64 → f r ≡ bad_word (d.row n r) (test d r (d.row n r)))
      → lowest f ≡ lowest (row_bad d n)
  unfolding bad_row
  rows_by test f q same =
      lowest_same f (row_bad d n) (λ r l.
      same r l ∙ ap (λ (t : RowTest). bad_word (d.row n r) (t d r (d.row n r))) (sym q) ∙ sym (bad_row_lem d n r h l))

  -- in a table of masks, where the owners are I and the known things J,
  pub mask_rows : (owner known : Book → ℕ) {I J : ℕ} → row_test n ≡ masks owner known → I ≡ owner d → J ≡ known d
      → lowest (mask_bad d n I J) ≡ lowest (row_bad d n)
  mask_rows owner known {I} {J} q e f =
      rows_by (masks owner known) (mask_bad d n I J) q (λ r l.
      ap₂ (λ (x y : ℕ). bad_word (d.row n r) (bad_mask (bit x r) y (d.row n r))) e f)

  -- in the table of the orders, where all 64 are owners,
  pub order_rows : {J : ℕ} → row_test n ≡ order_masks → J ≡ tasks d → lowest (mask_bad d n (2 ^ 64 - 1 - 0) J) ≡ lowest (row_bad d n)
  order_rows {J} q f =
      rows_by order_masks (mask_bad d n (2 ^ 64 - 1 - 0) J) q (λ r l.
      ap₂ (λ (t : Bool) (y : ℕ). bad_word (d.row n r) (bad_mask t y (d.row n r))) (in_full r l) f)

  -- and in that of the active roles.
  pub active_rows : {I J : ℕ} → n ≡ active → I ≡ subjects d → J ≡ roles d → lowest (active_bad d I J) ≡ lowest (row_bad d n)
  unfolding row_tests
  active_rows {I} {J} q e f =
      rows_by actives (active_bad d I J) (ap row_test q) (λ r l.
      ap₂ (λ (x y : ℕ). bad_word (d.row active r) (bad_active (bit x r) y (d.row active r))) e f
      ∙ ap (λ (m : ℕ). bad_word (d.row m r) (actives d r (d.row m r))) (sym q))

-- As a loop joins the cells of an order, one after the other.
pub cells_on : (f : ℕ → ℕ) (t : ℕ) {any v : ℕ} → t < 64 → any ≡ joined t f (2 ^ 64 - 1 - 0) → v ≡ f t → bit_or any v ≡ joined (t + 1) f (2 ^ 64 - 1 - 0)
unfolding joined
cells_on f t h e q =
    let next : suc t ≡ t + 1 = omega arith in
    ap₂ bit_or e (q ∙ sym (only_yes _ (f t) (in_full t h))) ∙ ap (λ (n : ℕ). joined n f (2 ^ 64 - 1 - 0)) next

-- Where they come to 0, each of them is 0.
pub cells_none : (f : ℕ → ℕ) (n : ℕ) → n ≤ 64 → joined n f (2 ^ 64 - 1 - 0) ≡ 0 → (t : ℕ) → t < n → f t ≡ 0
unfolding joined
cells_none f zero h e t l = absurd (omega arith)
cells_none f (suc n) h e t l = go (dec_lt t n) (λ z q. cells_none f n (omega arith) z t q)
  where
    some : ℕ
    some = joined n f (2 ^ 64 - 1 - 0)

    last : ℕ
    last = only (bit (2 ^ 64 - 1 - 0) n) (f n)

    go : Dec (t < n) → (some ≡ 0 → t < n → f t ≡ 0) → f t ≡ 0
    go (yes q) before = before (omega (arith, e, or_add_and some last, and_le_r some last)) q
    go (no q) before =
        let at : t ≡ n = omega arith in
        let none : last ≡ 0 = omega (arith, e, or_add_and some last, and_le_l some last) in ap f at ∙ sym (only_yes _ (f n) (in_full n (omega arith))) ∙ none

-- As the library's search through a range says it: what is found is the lowest that passes.
pub found_lowest : (f : ℕ → Bool) (o : Option ℕ)
    → MatchOption o ((k : ℕ) → 0 ≤ k → k < 64 → f k ≡ false) (λ i. (0 ≤ i) × (i < 64) × (f i ≡ true) × ((k : ℕ) → 0 ≤ k → k < i → f k ≡ false))
    → IsLowest f o
found_lowest f None h = sym (lowest_end 64 f (λ k l. h k (omega arith) l))
found_lowest f (Some i) h = (h.1, lowest_is 64 0 f i (omega arith) (omega arith) h.2 h.3)

-- Two tests that agree on 0 to 63 find the same.
pub found_same : (f g : ℕ → Bool) (o : Option ℕ) → lowest f ≡ lowest g → IsLowest f o → IsLowest g o
found_same f g None e h = sym e ∙ h
found_same f g (Some i) e h = (h.0, sym e ∙ h.1)
