-- Bad words by blocks of 64: the rows of a table, the cells of an order.
use Rattle.std.specs.Prelude.{◌≡◌, ◌<◌, Option, MatchOption, Bool, true, false, ◌&&◌, ℕ, ◌+◌, ◌-◌, ◌*◌, ◌^◌, eqb, ltb, leb}
use Rattle.sets.specs.Mask.{bit, joined}
use Rattle.rules.specs.Book.{Book, book_words, table_at, cells_at, active, role_in, bad_mask, bad_active, bad, first_bad}

-- the word of row r of table n is bad
abbrev pub row_bad : Book → ℕ → ℕ → Bool
row_bad d n r = bad d (table_at n + r)

-- the word of the cell of order p, task t is bad
abbrev pub cell_bad : Book → ℕ → ℕ → Bool
cell_bad d p t = bad d (cells_at + 64 * p + t)

-- What stands in row r of table n is not 0, and bad as a mask in a table of these owners, which may name these known things.
abbrev pub mask_bad : Book → ℕ → ℕ → ℕ → ℕ → Bool
mask_bad d n owners known r = elim (eqb (d.row n r) 0) [ true ↦ false | false ↦ bad_mask (bit owners r) known (d.row n r) ]

-- The active role of subject r is not 0, and bad where these subjects and roles are known.
abbrev pub active_bad : Book → ℕ → ℕ → ℕ → Bool
active_bad d subjects roles r = elim (eqb (d.row active r) 0) [ true ↦ false | false ↦ bad_active (bit subjects r) roles (d.row active r) ]

-- E of cell v is 1 to 64.
abbrev pub has_role : ℕ → Bool
has_role v = ltb 0 (role_in v) && leb (role_in v) 64

-- All cells of order p, joined.
abbrev pub joined_cells : Book → ℕ → ℕ
joined_cells d p = joined 64 (d.cell p) (2 ^ 64 - 1 - 0)

-- What is found is the lowest bad word of the book; or no word is bad, and nothing is found.
abbrev pub IsFirstBad : Book → Option ℕ → Type 0
IsFirstBad d found = MatchOption found (first_bad d ≡ book_words) (λ i. (i < book_words) × (first_bad d ≡ i))
