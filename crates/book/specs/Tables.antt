-- The number that document 01's list gives to a table of the code.
use Rattle.std.specs.Prelude.{ℕ}
use Rattle.rules.specs.Book.{SME, DME, RB, SB, juniors, tasks_of, roles_of, active, orders}
use Rattle.book.specs.declared.Table.{Table}
use Rattle.book.specs.declared.Table.TheVariants.{Sme, Dme, Rb, Sb, Juniors, TasksOf, RolesOf, Active, Orders}

abbrev pub number : Table → ℕ
number Sme = SME
number Dme = DME
number Rb = RB
number Sb = SB
number Juniors = juniors
number TasksOf = tasks_of
number RolesOf = roles_of
number Active = active
number Orders = orders
