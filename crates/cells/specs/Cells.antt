-- A book while a loop empties the cells of an order, and when it is done; the cell that kind 13 makes of a task's.
use Rattle.std.specs.Prelude.{true, false, ◌&&◌, ℕ, eqb, ltb}
use Rattle.sets.specs.Mask.{bit}
use Rattle.rules.specs.Book.{Book}
use Rattle.rules.specs.Requests.{stamped_cell}

-- the cells of order p for the tasks below i are 0
abbrev pub emptied_to : ℕ → Book → ℕ → Book
emptied_to i d p = record { head = d.head; row = d.row; cell = λ q t. elim (eqb q p && ltb t i) [ true ↦ 0 | false ↦ d.cell q t ] }

-- all cells of order p are
abbrev pub emptied : Book → ℕ → Book
emptied d p = record { head = d.head; row = d.row; cell = λ q t. elim (eqb q p) [ true ↦ 0 | false ↦ d.cell q t ] }

-- kind 13: the new cell of task t of the role hand in order p, by the subject hand; e is c's active role, plus 1
abbrev pub new_cell : Book → ℕ → ℕ → ℕ → ℕ → ℕ → ℕ
new_cell d p by_subject e c t = stamped_cell true (bit by_subject t) e c (d.cell p t)
