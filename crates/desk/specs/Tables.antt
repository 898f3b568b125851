-- The table that gets or loses a bit, by the place of the kind among 8, 9, 10 and among 15, 16, 17.
use Rattle.std.specs.Prelude.{List, [], ◌∷◌, ℕ, get_or}
use Rattle.rules.specs.Book.{juniors, tasks_of, roles_of}

unfoldable pub staff_tables : List ℕ
staff_tables = tasks_of ∷ juniors ∷ roles_of ∷ []

unfoldable pub staff_table : ℕ → ℕ
staff_table place = get_or staff_tables place 0
