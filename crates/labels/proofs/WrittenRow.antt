-- A table in which one row was written: that row is the word, and every other is what it was.
use mathlib.Core.Path.{◌≡◌, sym, ap, ap₂, ◌∙◌}
use mathlib.Core.Bool.{true}
use mathlib.Core.List.{List, ◌++◌}
use Prim.Native.Nat.{ℕ, ◌+◌, ◌-◌, ◌≤◌, ◌<◌}
use native.Mathlib.Omega.{arith}
use lib.ListN.{length, take, drop, get_or, length-append, get_or-append}
use lib.Seq.{length-take-le, get_or-append-add, get_or-take, get_or-drop, take-append_seam}
use Rattle.std.proofs.Common.{append_assoc}
use Rattle.std.proofs.lemmas.List.{drop_at}
use borrow.Author.Tests.{eq-eqb}
use Rattle.sets.proofs.SearchLaws.{all_in}
use Rattle.text.specs.Rows.{letter_at, filled, same_letters, is_row}
use Rattle.text.proofs.RowLaws.{letter_filled, length_filled, row_fits, rows_same}
use Rattle.labels.specs.Names.{with_row}

module _ (names : List ℕ) (at : ℕ) (word : List ℕ) (room : at + 24 ≤ length names) (fits : length word ≤ 24) where
  -- what stands before the row
  abbrev before : List ℕ
  before = take at names

  length_before : length before ≡ at
  length_before = length-take-le at names (omega arith)

  -- What stands before the row and the row itself end where the next row begins.
  length_front : length (before ++ filled 24 word) ≡ at + 24
  length_front = length-append before (filled 24 word) ∙ ap₂ (λ (a b : ℕ). a + b) length_before (length_filled 24 word fits)

  -- Letter i of the row is that of the word.
  pub letter_row : (i : ℕ) → i < 24 → letter_at (with_row names at word) (at + i) ≡ letter_at word i
  unfolding letter_at with_row
  letter_row i h =
      let f : length (before ++ filled 24 word) ≡ at + 24 = length_front in
      get_or-append (before ++ filled 24 word) (drop (at + 24) names) 32 (at + i) (omega arith)
      ∙ ap (λ (k : ℕ). get_or (before ++ filled 24 word) (k + i) 32) (sym length_before)
      ∙ get_or-append-add before (filled 24 word) i 32
      ∙ letter_filled 24 word i

  -- Before the row and behind it every byte is what it was.
  letter_before : (j : ℕ) → j < at → letter_at (with_row names at word) j ≡ letter_at names j
  unfolding letter_at with_row
  letter_before j h =
      let f : length (before ++ filled 24 word) ≡ at + 24 = length_front in
      let b : length before ≡ at = length_before in
      get_or-append (before ++ filled 24 word) (drop (at + 24) names) 32 j (omega arith)
      ∙ get_or-append before (filled 24 word) 32 j (omega arith)
      ∙ get_or-take at names j 32 h

  letter_behind : (k : ℕ) → letter_at (with_row names at word) (at + 24 + k) ≡ letter_at names (at + 24 + k)
  unfolding letter_at with_row
  letter_behind k =
      ap (λ (m : ℕ). get_or (before ++ filled 24 word ++ drop (at + 24) names) (m + k) 32) (sym length_front)
      ∙ get_or-append-add (before ++ filled 24 word) (drop (at + 24) names) k 32
      ∙ get_or-drop (at + 24) names k 32

  -- The row is the word.
  pub row_written : is_row (with_row names at word) at 24 word ≡ true
  unfolding same_letters
  row_written = sym (row_fits _ _ _ _ fits) ∙ all_in 24 _ (λ i h. eq-eqb _ _ (letter_row i h))

  -- What stands from the row's first byte on, as far as the word is long, is the word.
  pub word_read : take (length word) (drop at (with_row names at word)) ≡ word
  unfolding with_row filled
  word_read =
      let rest = drop (at + 24) names in
      ap (λ (l : List ℕ). take (length word) (drop at l)) (append_assoc before (filled 24 word) rest)
      ∙ ap (λ (l : List ℕ). take (length word) l) (drop_at before (filled 24 word ++ rest) at length_before ∙ append_assoc word _ rest)
      ∙ take-append_seam word _

module _ (names : List ℕ) (at : ℕ) (word : List ℕ) (room : at + 24 ≤ length names) (fits : length word ≤ 24) (start : ℕ) (other : List ℕ) where
  -- A row before it is what it was ..
  pub row_before : start + 24 ≤ at → is_row (with_row names at word) start 24 other ≡ is_row names start 24 other
  row_before h = rows_same _ _ start start 24 other (λ i l. letter_before names at word room fits (start + i) (omega arith))

  -- .. and so is a row behind it.
  pub row_behind : at + 24 ≤ start → is_row (with_row names at word) start 24 other ≡ is_row names start 24 other
  row_behind h = rows_same _ _ start start 24 other (λ i l. moved i)
    where
      moved : (i : ℕ) → letter_at (with_row names at word) (start + i) ≡ letter_at names (start + i)
      moved i =
          let e : at + 24 + (start + i - (at + 24)) ≡ start + i = omega arith in
          sym (ap (λ (j : ℕ). letter_at (with_row names at word) j) e)
          ∙ letter_behind names at word room fits (start + i - (at + 24))
          ∙ ap (λ (j : ℕ). letter_at names j) e
