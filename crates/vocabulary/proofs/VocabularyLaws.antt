-- What each range of rows names, and what is found and read in the rows.
use mathlib.Core.Path.{◌≡◌, refl, sym, ap, ◌∙◌}
use mathlib.Core.Bool.{Bool, true, ◌&&◌}
use mathlib.Core.List.{List, [], ◌∷◌, ◌++◌}
use Prim.Native.String.{String}
use lib.Dec.{leb}
use lib.ListN.{length, get_or-append}
use lib.Seq.{get_or-append-add}
use Rattle.sets.proofs.Logic.{and_out}
use Rattle.text.specs.Written.{written}
use Rattle.text.proofs.RowLaws.{letter_out, letter_filled, length_filled, rows_same}
use Prim.Native.Nat.{ℕ, zero, suc, ◌+◌, ◌*◌, ◌-◌, ◌≤◌, ◌<◌}
use native.Mathlib.Omega.{arith}
use borrow.Author.Tests.{lt-ltb, le-ltb, leb-true}
use Rattle.sets.specs.Search.{all, lowest_from}
use Rattle.text.specs.Rows.{letter_at, filled, same_letters, is_row, find_row}
use Rattle.vocabulary.specs.Vocabulary.{row_count, words, rows_of, row_for, nth_word, word_of, kind_of, found_from, EachInItsRow}

-- The first rows name no kind.
pub names_none : (row : ℕ) → row < 6 → 0 ≡ kind_of row
unfolding kind_of
names_none row h = rw (kind_of, lt-ltb row 6 h)

-- Then come kinds 4 to 7 ..
pub names_again : (row : ℕ) → 6 ≤ row → row < 10 → row - 2 ≡ kind_of row
unfolding kind_of
names_again row h l = rw (kind_of, le-ltb row 6 h, lt-ltb row 10 l)

-- .. and kind 3.
pub names_person : (row : ℕ) → row ≡ 10 → 3 ≡ kind_of row
unfolding kind_of
names_person row h = rw h

-- Then all kinds in their order.
pub names_own : (row : ℕ) → 11 ≤ row → row < row_count → row - 10 ≡ kind_of row
unfolding kind_of
names_own row h l = rw (kind_of, le-ltb row 6 (omega arith), le-ltb row 10 (omega arith), le-ltb row 11 h, lt-ltb row row_count l)

-- Behind them there is no row.
pub names_no_row : (row : ℕ) → row_count ≤ row → 0 ≡ kind_of row
unfolding kind_of
names_no_row row h = rw (kind_of, le-ltb row 6 (omega arith), le-ltb row 10 (omega arith), le-ltb row 11 (omega arith), le-ltb row row_count h)

-- Behind the last word of a list there is none.
past_last : (ws : List String) (n : ℕ) → length ws ≤ n → [] ≡ nth_word n ws
unfolding nth_word
past_last [] n h = refl
past_last (w ∷ ws) zero h = absurd (omega arith)
past_last (w ∷ ws) (suc n) h = past_last ws n (omega arith)

pub no_word : (row : ℕ) → row_count ≤ row → [] ≡ word_of row
unfolding words
no_word row h = past_last words row h

-- every word fits a row
abbrev fit : List String → Bool
fit [] = true
fit (w ∷ ws) = leb (length (written w)) 16 && fit ws

-- The words one by one have the letters that their rows have one behind the other.
letters_same : (ws : List String) → fit ws ≡ true → (row i : ℕ) → i < 16 → letter_at (nth_word row ws) (0 + i) ≡ letter_at (rows_of ws) (0 + row * 16 + i)
unfolding nth_word rows_of letter_at
letters_same [] e row i h = refl
letters_same (w ∷ ws) e zero i h =
    let long : length (filled 16 (written w)) ≡ 16 = length_filled 16 (written w) (leb-true _ _ (and_out _ _ e).0) in
    sym (letter_filled 16 (written w) (0 + i)) ∙ sym (get_or-append (filled 16 (written w)) (rows_of ws) 32 (0 + i) (omega arith))
letters_same (w ∷ ws) e (suc row) i h =
    let long : length (filled 16 (written w)) ≡ 16 = length_filled 16 (written w) (leb-true _ _ (and_out _ _ e).0) in
    let at : length (filled 16 (written w)) + (0 + row * 16 + i) ≡ 0 + suc row * 16 + i = omega arith in
    letters_same ws (and_out _ _ e).1 row i h
    ∙ sym (get_or-append-add (filled 16 (written w)) (rows_of ws) (0 + row * 16 + i) 32)
    ∙ ap (λ (k : ℕ). letter_at (filled 16 (written w) ++ rows_of ws) k) at

all_fit : fit words ≡ true
unfolding words
all_fit = refl

-- So a word is that of a row where the rows have it there.
pub known_row : (row : ℕ) (word : List ℕ) → is_row (word_of row) 0 16 word ≡ is_row (rows_of words) (0 + row * 16) 16 word
known_row row word = rows_same _ _ 0 (0 + row * 16) 16 word (letters_same words all_fit row)

-- For whoever reads the letters of a word: they are those of its row ..
pub letter_within : (row i : ℕ) → i < 16 → letter_at (rows_of words) (row * 16 + i) ≡ letter_at (word_of row) i
letter_within row i h =
    let at : row * 16 + i ≡ 0 + row * 16 + i = omega arith in
    let there : 0 + i ≡ i = omega arith in
    ap (λ (k : ℕ). letter_at (rows_of words) k) at
    ∙ sym (letters_same words all_fit row i h)
    ∙ ap (λ (k : ℕ). letter_at (word_of row) k) there

short : (ws : List String) → fit ws ≡ true → (row : ℕ) → length (nth_word row ws) ≤ 16
unfolding nth_word
short [] e row = omega arith
short (w ∷ ws) e zero = leb-true _ _ (and_out _ _ e).0
short (w ∷ ws) e (suc row) = short ws (and_out _ _ e).1 row

-- .. and no word has more than 16 ..
pub word_short : (row : ℕ) → length (word_of row) ≤ 16
word_short row = short words all_fit row

-- .. so that from 16 on there are blanks.
pub letter_behind : (row i : ℕ) → 16 ≤ i → 32 ≡ letter_at (word_of row) i
letter_behind row i h = letter_out (word_of row) i (omega (arith, word_short row))

-- Every word is found in its own row: computed.
pub each_in_its_row : EachInItsRow
unfolding words rows_of row_for found_from letter_at filled same_letters is_row find_row all lowest_from
each_in_its_row = refl
