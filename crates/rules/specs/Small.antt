-- Small books, written as the list of their words that are not 0: for the examples and the trials that are computed.
use Rattle.std.specs.Prelude.{Bool, true, false, ◌&&◌, List, [], ◌∷◌, ℕ, ◌+◌, ◌*◌, ◌^◌, max, ltb, eqb}
use Rattle.rules.specs.Book.{table_at, cells_at}

-- a word of the book: its place and its value
abbrev pub Word : Type 0
Word = ℕ × ℕ

-- row r of table n, and the cell of order p and task t
abbrev pub row : ℕ → ℕ → ℕ → Word
row n r v = (table_at n + r, v)

abbrev pub cell : ℕ → ℕ → ℕ → Word
cell p t v = (cells_at + 64 * p + t, v)

-- the words at their places, and 0 elsewhere
abbrev pub words_of : List Word → ℕ → ℕ
words_of [] i = 0
words_of (x ∷ xs) i = elim (eqb i x.0) [ true ↦ x.1 | false ↦ words_of xs i ]

-- the place of the last of them
abbrev pub last_of : List Word → ℕ
last_of [] = 0
last_of (x ∷ xs) = max x.0 (last_of xs)

-- THE WORDS OF THE BOOK; past the last that is listed nothing is looked for
abbrev pub book_of : List Word → ℕ → ℕ
book_of xs = let last = last_of xs in λ i. elim (ltb last i) [ true ↦ 0 | false ↦ words_of xs i ]

-- every word that is listed has 64 bits
abbrev pub small : List Word → Bool
small [] = true
small (x ∷ xs) = ltb x.1 (2 ^ 64) && small xs
