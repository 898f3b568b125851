-- The cells of the book, counted through.
use Rattle.std.specs.Prelude.{ℕ, ◌*◌}

-- There is one for each of the 64 tasks of each of the 64 orders; no table of the panel has more lines.
abbrev pub cell_count : ℕ
cell_count = 64 * 64
