-- Rows of fixed width that each hold one word, filled up with blanks (byte 32).
-- Every definition here computes.
use Rattle.std.specs.Prelude.{Bool, ◌&&◌, List, ◌++◌, ℕ, ◌+◌, ◌*◌, ◌-◌, leb, eqb, length, get_or, replicate}
use Rattle.sets.specs.Search.{lowest_from, all}

-- byte i; a blank behind the end
unfoldable pub letter_at : List ℕ → ℕ → ℕ
letter_at bytes i = get_or bytes i 32

-- the word filled up with blanks to a row
unfoldable pub filled : ℕ → List ℕ → List ℕ
filled width word = word ++ replicate (width - length word) 32

-- the row from start on begins with the letters of the word, and has blanks behind them
unfoldable pub same_letters : List ℕ → ℕ → ℕ → List ℕ → Bool
same_letters rows start width word = all width (λ i. eqb (letter_at rows (start + i)) (letter_at word i))

-- the row from start on is the word, which is no longer than the row
unfoldable pub is_row : List ℕ → ℕ → ℕ → List ℕ → Bool
is_row rows start width word = leb (length word) width && same_letters rows start width word

-- the lowest n below count whose row, which begins at first + n * width, is the word; count where none is
unfoldable pub find_row : List ℕ → ℕ → ℕ → ℕ → List ℕ → ℕ
find_row rows first count width word = lowest_from count 0 (λ n. is_row rows (first + n * width) width word)
