-- What kind 13 hands out, on the book.
use Rattle.std.specs.Prelude.{ℕ}
use Rattle.rules.specs.Book.{Book}
use Rattle.rules.specs.Requests.{stamped}
use Rattle.book.specs.Slice.{with_cell}
use Rattle.cells.specs.Cells.{new_cell}
use Rattle.cells.specs.declared.Hand.{Hand}

-- all cells of the role hand stamped
abbrev pub handed_out : Hand → Book → Book
handed_out h d = stamped d h.order h.wide h.narrow h.role h.subject

-- the cell of task t, one of the role hand, stamped
abbrev pub handed_at : Hand → ℕ → Book → Book
handed_at h t d = with_cell h.order t (new_cell d h.order h.narrow h.role h.subject t) d
