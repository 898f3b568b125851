-- The words of the panel, one to a row of 16 bytes, and the kinds of request that they name.
-- Every definition here computes.
use Rattle.std.specs.Prelude.{◌≡◌, Bool, true, false, ◌&&◌, List, [], ◌∷◌, ◌++◌, ℕ, zero, suc, ◌-◌, ltb, eqb}
use Prim.Native.String.{String}
use Rattle.text.specs.Rows.{filled, find_row}
use Rattle.text.specs.Written.{written}

-- the rows of the words that are no kind
abbrev pub show_row : ℕ
show_row = 0

abbrev pub audit_row : ℕ
audit_row = 1

abbrev pub help_row : ℕ
help_row = 2

abbrev pub quit_row : ℕ
quit_row = 3

abbrev pub name_row : ℕ
name_row = 4

abbrev pub try_row : ℕ
try_row = 5

-- how many words there are
abbrev pub row_count : ℕ
row_count = 32

-- the words: rows 0 to 5 are no kind; 6 to 9 name kinds 4 to 7 once more, and 10 kind 3; from row 11 on they name kinds 1, 2 and so on
unfoldable pub words : List String
words =
    "show"
    ∷ "audit"
    ∷ "help"
    ∷ "quit"
    ∷ "name"
    ∷ "try"
    ∷ "exclude-static"
    ∷ "exclude-dynamic"
    ∷ "bind-role"
    ∷ "bind-subject"
    ∷ "define-person"
    ∷ "define-task"
    ∷ "define-role"
    ∷ "define-subject"
    ∷ "sme"
    ∷ "dme"
    ∷ "rb"
    ∷ "sb"
    ∷ "assign-task"
    ∷ "junior"
    ∷ "assign-role"
    ∷ "activate"
    ∷ "open"
    ∷ "allocate"
    ∷ "close"
    ∷ "take-task"
    ∷ "take-junior"
    ∷ "take-role"
    ∷ "take-sme"
    ∷ "take-dme"
    ∷ "take-rb"
    ∷ "take-sb"
    ∷ []

-- the rows of the words, one behind the other
unfoldable pub rows_of : List String → List ℕ
rows_of [] = []
rows_of (w ∷ ws) = filled 16 (written w) ++ rows_of ws

-- the lowest row that is the word; row_count where none is
unfoldable pub row_for : List ℕ → ℕ
row_for word = find_row (rows_of words) 0 row_count 16 word

-- the bytes of word n of the list; none behind its end
unfoldable pub nth_word : ℕ → List String → List ℕ
nth_word n [] = []
nth_word zero (w ∷ ws) = written w
nth_word (suc n) (w ∷ ws) = nth_word n ws

-- the word of a row; none where there is no such row
abbrev pub word_of : ℕ → List ℕ
word_of row = nth_word row words

-- the kind that a row names; 0 where it names none
unfoldable pub kind_of : ℕ → ℕ
kind_of row =
    elim (ltb row 6) [
      | true ↦ 0
      | false ↦ elim (ltb row 10) [
        | true ↦ row - 2
        | false ↦ elim (ltb row 11) [ true ↦ 3 | false ↦ elim (ltb row row_count) [ true ↦ row - 10 | false ↦ 0 ] ]
      ]
    ]

-- the words from row n on are each found in their own row
unfoldable pub found_from : ℕ → List String → Bool
found_from n [] = true
found_from n (w ∷ ws) = eqb (row_for (written w)) n && found_from (suc n) ws

-- Every word is found in its own row: none stands twice. proofs/VocabularyLaws.antt computes it.
abbrev pub EachInItsRow : Type 0
EachInItsRow = found_from 0 words ≡ true
