-- The four statements of specs/Kept.antt.
use mathlib.Core.Path.{◌≡◌, refl, sym, ap, ◌∙◌}
use mathlib.Core.Bool.{Bool, true, false}
use mathlib.Core.List.{List}
use Prim.Native.Nat.{ℕ, ◌+◌, ◌*◌, ◌≤◌, ◌<◌}
use native.Mathlib.Decide.{dec_lt}
use native.Mathlib.Omega.{arith}
use lib.Dec.{eqb}
use lib.ListN.{length, take, drop}
use borrow.Author.Tests.{eq-eqb}
use Rattle.sets.proofs.Logic.{not_both}
use Rattle.sets.specs.Search.{lowest_from, lowest}
use Rattle.sets.proofs.SearchLaws.{lowest_passes, lowest_first, lowest_most, lowest_is}
use Rattle.text.specs.Rows.{letter_at, is_row, find_row}
use Rattle.text.proofs.RowLaws.{letter_out}
use Rattle.labels.specs.Names.{is_name, row_at, found, with_row, given, name_letter, name_length, name_bytes}
use Rattle.labels.specs.Kept.{Nameable, GivenFound, FoundAlone, OthersKept, ShownAsGiven}
use Rattle.labels.proofs.NameLaws.{name_fits, name_no_blank, found_row, given_row, letter_behind, letter_within, blank_at, length_begins}
use Rattle.labels.proofs.WrittenRow.{letter_row, row_written, word_read, row_before, row_behind}

-- thing k of the sort has the name
abbrev called : List ℕ → ℕ → List ℕ → ℕ → Bool
called names sort word k = is_row names (row_at sort 0 + k * 24) 24 word

-- What is found is the lowest that has the name.
found_lowest : (names : List ℕ) (sort : ℕ) (word : List ℕ) → sort < 4 → is_name word ≡ true → found names sort word ≡ lowest (called names sort word)
unfolding find_row
found_lowest names sort word h e = sym (found_row names sort word _ h e refl)

module _ (names : List ℕ) (sort n : ℕ) (word : List ℕ) (can : Nameable names sort n word) where
  -- the table once the name is given
  abbrev after : List ℕ
  after = with_row names (row_at sort n) word

  given_after : given names sort n word ≡ after
  given_after = sym (given_row names sort n word can.whole can.a_sort _ can.a_thing can.a_name refl)

  -- The row lies within the table, and the name fits the row.
  room : row_at sort n + 24 ≤ length names
  room = omega arith

  fits : length word ≤ 24
  fits = name_fits word can.a_name

  -- Thing n has the name now.
  now_called : called after sort word n ≡ true
  now_called =
      let e : row_at sort 0 + n * 24 ≡ row_at sort n = omega arith in
      ap (λ (k : ℕ). is_row after k 24 word) e ∙ row_written names (row_at sort n) word room fits

  found_after : found (given names sort n word) sort word ≡ lowest (called after sort word)
  found_after = ap (λ (l : List ℕ). found l sort word) given_after ∙ found_lowest after sort word can.a_sort can.a_name

  at_most : found (given names sort n word) sort word ≤ n
  at_most = go (dec_lt n (lowest (called after sort word)))
    where
      go : Dec (n < lowest (called after sort word)) → found (given names sort n word) sort word ≤ n
      go (yes h) = absurd (not_both _ now_called (lowest_first 64 0 (called after sort word) n (omega arith) h))
      go (no h) = omega (arith, found_after)

  -- A lower thing that did not have the name still does not have it.
  still_not : n ≤ found names sort word → (j : ℕ) → j < n → called after sort word j ≡ false
  still_not h j l =
      let e : found names sort word ≡ lowest (called names sort word) = found_lowest names sort word can.a_sort can.a_name in
      row_before names (row_at sort n) word room fits _ word (omega arith)
      ∙ lowest_first 64 0 (called names sort word) j (omega arith) (omega arith)

  alone : n ≤ found names sort word → found (given names sort n word) sort word ≡ n
  alone h =
      found_after ∙ lowest_is 64 0 (called after sort word) n (omega arith) (omega arith) now_called (λ j b l. still_not h j l)

  -- Each letter shown is that of the word.
  letter_shown : (i : ℕ) → name_letter (given names sort n word) sort n i ≡ letter_at word i
  letter_shown i = ap (λ (l : List ℕ). name_letter l sort n i) given_after ∙ go (dec_lt i 24)
    where
      go : Dec (i < 24) → name_letter after sort n i ≡ letter_at word i
      go (yes h) = sym (letter_within after sort n i can.a_sort _ can.a_thing h refl) ∙ letter_row names (row_at sort n) word room fits i h
      go (no h) = sym (letter_behind after sort n i can.a_sort can.a_thing (omega arith)) ∙ letter_out word i (omega (arith, fits))

  -- letter i of what is shown is a blank
  abbrev blank : ℕ → Bool
  blank = blank_at (given names sort n word) sort n

  -- A letter shown is a blank exactly where the word has ended.
  blank_shown : (i : ℕ) → blank i ≡ eqb (letter_at word i) 32
  blank_shown i = ap (λ (x : ℕ). eqb x 32) (letter_shown i)

  no_blank : (i : ℕ) → i < length word → blank i ≡ false
  no_blank i h = blank_shown i ∙ name_no_blank word can.a_name i h

  length_shown : name_length (given names sort n word) sort n ≡ length word
  length_shown = sym (length_begins _ sort n) ∙ go (dec_lt (length word) 24) (dec_lt (lowest_from 24 0 blank) 24)
    where
      go : Dec (length word < 24) → Dec (lowest_from 24 0 blank < 24) → lowest_from 24 0 blank ≡ length word
      go (yes h) d =
          lowest_is 24 0 blank (length word) (omega arith) (omega arith) (blank_shown _ ∙ eq-eqb _ _ (sym (letter_out word _ (omega arith))))
          (λ j b l. no_blank j l)
      go (no h) (yes d) = absurd (not_both _ (lowest_passes 24 0 blank (omega arith)) (no_blank _ (omega arith)))
      go (no h) (no d) = omega (arith, lowest_most 24 0 blank, fits)

  -- So the bytes shown are the word.
  bytes_shown : name_bytes (given names sort n word) sort n ≡ word
  unfolding name_bytes
  bytes_shown =
      ap (λ (k : ℕ). take k (drop (row_at sort n) (given names sort n word))) length_shown
      ∙ ap (λ (l : List ℕ). take (length word) (drop (row_at sort n) l)) given_after
      ∙ word_read names (row_at sort n) word room fits

  module _ (s m : ℕ) (thing : m < 64) (apart : s ≡ sort → m ≡ n → ⊥) (other : List ℕ) where
    abbrev Same : Type 0
    Same = is_row (given names sort n word) (row_at s m) 24 other ≡ is_row names (row_at s m) 24 other

    below : row_at s m + 24 ≤ row_at sort n → Same
    below h = ap (λ (l : List ℕ). is_row l (row_at s m) 24 other) given_after ∙ row_before names (row_at sort n) word room fits (row_at s m) other h

    above : row_at sort n + 24 ≤ row_at s m → Same
    above h = ap (λ (l : List ℕ). is_row l (row_at s m) 24 other) given_after ∙ row_behind names (row_at sort n) word room fits (row_at s m) other h

    -- Another thing's row lies below the row or above it.
    kept : Same
    kept = go (dec_lt s sort) (dec_lt sort s) (dec_lt m n) (dec_lt n m)
      where
        go : Dec (s < sort) → Dec (sort < s) → Dec (m < n) → Dec (n < m) → Same
        go (yes h) b c d = below (omega arith)
        go (no h) (yes b) c d = above (omega arith)
        go (no h) (no b) (yes c) d = below (omega arith)
        go (no h) (no b) (no c) (yes d) = above (omega arith)
        go (no h) (no b) (no c) (no d) = absurd (apart (omega arith) (omega arith))

pub given_found : GivenFound
given_found = at_most

pub found_alone : FoundAlone
found_alone = alone

pub others_kept : OthersKept
others_kept names sort n word can s m thing apart other = kept names sort n word can s m thing apart other

pub shown_as_given : ShownAsGiven
shown_as_given names sort n word can =
    (length_shown names sort n word can, letter_shown names sort n word can, bytes_shown names sort n word can)
