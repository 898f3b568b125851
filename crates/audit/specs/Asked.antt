-- What rules 1 to 8 are asked of: each goes through the numbers of one sort, and only defined numbers stand in the tables.
use Rattle.std.specs.Prelude.{true, false, ℕ, ltb}
use Rattle.rules.specs.Book.{Book, tasks, roles, subjects}

-- the defined tasks for rules 1 to 5, the roles for 6 and 7, the subjects for 8; what is none of them has no sort, and gets the tasks
unfoldable pub asked_by : Book → ℕ → ℕ
asked_by d n =
    elim (ltb n 6) [
      | true ↦ tasks d
      | false ↦ elim (ltb n 8) [ true ↦ roles d | false ↦ elim (ltb n 9) [ true ↦ subjects d | false ↦ tasks d ] ]
    ]
