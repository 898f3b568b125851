-- Laws of rows: what a byte of a slice says of a letter, and the steps by which loops test a row and search the rows.
use mathlib.Core.Path.{◌≡◌, refl, sym, ap, ap₂, ◌∙◌, subst}
use mathlib.Core.Bool.{Bool, true, false, ◌&&◌}
use lib.Dec.{leb, eqb}
use mathlib.Core.List.{List, [], ◌∷◌, ◌++◌}
use Prim.Native.Nat.{ℕ, zero, suc, ◌+◌, ◌-◌, ◌≤◌, ◌<◌}
use native.Mathlib.Nat.{le_of_suc-le-suc, add-sub_of_le}
use native.Mathlib.Omega.{arith}
use lib.ListN.{length, get_or, replicate, length-append, length-replicate, get_or-eq_default}
use borrow.Author.Tests.{le-leb, lt-leb}
use Rattle.sets.specs.Search.{lowest_from}
use native.Mathlib.Decide.{dec_lt}
use Rattle.std.proofs.Common.{Option, Some, None}
use Rattle.std.specs.Option.{MatchOption, SomeIff}
use Rattle.std.specs.List.{list_all, range_with_len}
use Rattle.sets.specs.Search.{all}
use Rattle.sets.proofs.Logic.{and_in, and_out, not_both, refute}
use Rattle.sets.proofs.SearchLaws.{all_in, all_out, lowest_is, lowest_end}
use Rattle.text.specs.Rows.{letter_at, filled, same_letters, is_row}

-- A test of the numbers from i on, n of them, one by one: where all pass, and that all pass.
all_listed : (n i : ℕ) (f : ℕ → Bool) → ((k : ℕ) → i ≤ k → k < i + n → f k ≡ true) → list_all f (range_with_len i n) ≡ true
all_listed zero i f h = refl
all_listed (suc n) i f h = and_in (h i (omega arith) (omega arith)) (all_listed n (i + 1) f (λ k l m. h k (omega arith) (omega arith)))

listed_all : (n i : ℕ) (f : ℕ → Bool) → list_all f (range_with_len i n) ≡ true → (k : ℕ) → i ≤ k → k < i + n → f k ≡ true
listed_all zero i f e k l m = absurd (omega arith)
listed_all (suc n) i f e k l m = go (dec_lt i k) (λ h. listed_all n (i + 1) f (and_out _ _ e).1 k h (omega arith))
  where
    go : Dec (i < k) → (i + 1 ≤ k → f k ≡ true) → f k ≡ true
    go (yes d) rec = rec (omega arith)
    go (no d) rec = let s : i ≡ k = omega arith in subst (λ (x : ℕ). f x ≡ true) s (and_out _ _ e).0

-- So the test of a range tests all numbers below its end.
pub all_range : (n : ℕ) (f : ℕ → Bool) → list_all f (range_with_len 0 n) ≡ all n f
all_range n f = go (all n f) refl
  where
    go : (t : Bool) → all n f ≡ t → list_all f (range_with_len 0 n) ≡ all n f
    go true e = all_listed n 0 f (λ k l m. all_out n f e k (omega arith)) ∙ sym e
    go false e = refute _ (λ p. not_both (all n f) (all_in n f (λ i h. listed_all n 0 f p i (omega arith) (omega arith))) e) ∙ sym e

-- A search over a range gives the lowest that passes, if one does.
pub find_range : (n : ℕ) (f : ℕ → Bool) (r : Option ℕ)
    → MatchOption r ((k : ℕ) → 0 ≤ k → k < n → f k ≡ false) (λ i. (0 ≤ i) × (i < n) × (f i ≡ true) × ((k : ℕ) → 0 ≤ k → k < i → f k ≡ false))
    → SomeIff r (lowest_from n 0 f < n) (lowest_from n 0 f)
find_range n f None h = λ l. omega (arith, lowest_end n f (λ k m. h k (omega arith) m))
find_range n f (Some i) h = let e : lowest_from n 0 f ≡ i = lowest_is n 0 f i h.0 (omega arith) h.2 h.3 in (omega arith, sym e)

-- Within the bytes it does not matter what is said to stand behind them.
pub letter_in : (l : List ℕ) (i : ℕ) → i < length l → get_or l i 0 ≡ letter_at l i
unfolding letter_at
letter_in [] i h = absurd (omega arith)
letter_in (x ∷ l) zero h = refl
letter_in (x ∷ l) (suc i) h = letter_in l i (le_of_suc-le-suc h)

-- Behind the end there is a blank.
pub letter_out : (l : List ℕ) (i : ℕ) → length l ≤ i → 32 ≡ letter_at l i
unfolding letter_at
letter_out l i h = sym (get_or-eq_default l 32 h)

-- A word that is longer than the row is not in it.
pub row_long : (rows : List ℕ) (start width : ℕ) (word : List ℕ) → width < length word → false ≡ is_row rows start width word
unfolding is_row
row_long rows start width word h = rw (lt-leb (length word) width h)

-- Of a word that is no longer than the row the letters decide.
pub row_fits : (rows : List ℕ) (start width : ℕ) (word : List ℕ) → length word ≤ width
    → same_letters rows start width word ≡ is_row rows start width word
unfolding is_row
row_fits rows start width word h = rw (le-leb (length word) width h)

-- Two tests that agree below n pass together.
all_same : (n : ℕ) (f g : ℕ → Bool) → ((i : ℕ) → i < n → f i ≡ g i) → all n f ≡ all n g
unfolding all
all_same zero f g same = refl
all_same (suc n) f g same =
    ap₂ (λ (s t : Bool). elim s as (λ (x : Bool). Bool) [ true ↦ t | false ↦ false ]) (all_same n f g (λ i h. same i (omega arith))) (same n (omega arith))

-- Where the letters of two rows are the same, so is what the rows are.
pub rows_same : (l r : List ℕ) (start from width : ℕ) (word : List ℕ) → ((i : ℕ) → i < width → letter_at l (start + i) ≡ letter_at r (from + i))
    → is_row l start width word ≡ is_row r from width word
unfolding is_row same_letters
rows_same l r start from width word same =
    ap (λ (t : Bool). leb (length word) width && t) (all_same width _ _ (λ i h. ap (λ (x : ℕ). eqb x (letter_at word i)) (same i h)))

-- Every letter of blanks is a blank.
blanks_blank : (k i : ℕ) → ◌≡◌ {A = ℕ} (get_or (replicate k 32) i 32) 32
blanks_blank zero i = refl
blanks_blank (suc k) zero = refl
blanks_blank (suc k) (suc i) = blanks_blank k i

-- Blanks behind a word change no letter of it.
behind_blank : (word : List ℕ) (k i : ℕ) → get_or (word ++ replicate k 32) i 32 ≡ get_or word i 32
behind_blank [] k i = blanks_blank k i
behind_blank (x ∷ word) k zero = refl
behind_blank (x ∷ word) k (suc i) = behind_blank word k i

-- So a word and its row have the same letters.
pub letter_filled : (width : ℕ) (word : List ℕ) (i : ℕ) → letter_at (filled width word) i ≡ letter_at word i
unfolding letter_at filled
letter_filled width word i = behind_blank word (width - length word) i

-- A word that fits fills one row.
pub length_filled : (width : ℕ) (word : List ℕ) → length word ≤ width → length (filled width word) ≡ width
unfolding filled
length_filled width word h = length-append word _ ∙ ap (λ (n : ℕ). length word + n) (length-replicate _ 32) ∙ add-sub_of_le h
