-- Rules 1 and 2 of one task, asked table by table.
use Rattle.std.specs.Prelude.{◌≡◌, Bool, ℕ}
use Rattle.rules.specs.Book.{Book}
use Rattle.book.specs.declared.Table.{Table}
use Rattle.book.specs.Tables.{number}

-- What is answered of a table is what the rule asks of task t in its rows.
abbrev pub Asks : (Table → Bool → Type 0) → Book → ((ℕ → ℕ) → ℕ → Bool) → ℕ → Type 0
Asks answers d rule t = (table : Table) (kept : Bool) → answers table kept → kept ≡ rule (d.row (number table)) t
