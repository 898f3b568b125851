-- The code's table of arguments in the words of the rules, and the first argument at fault.
use Rattle.std.specs.Prelude.{Bool, true, false, ℕ}
use Rattle.rules.specs.Book.{Book}
use Rattle.rules.specs.Requests.{Needs, unused, in_range, a_task, a_role, a_subject, an_open_order, a_task_mask, Row as RuleRow, fits}
use Rattle.ask.specs.declared.Argument.{Argument}
use Rattle.ask.specs.declared.Argument.TheVariants.{Unused, InRange, Task, Role, Subject, OpenOrder, TaskMask}
use Rattle.ask.specs.declared.Row.{Row}

-- what the code's case asks
abbrev pub need_of : Argument → Needs
need_of Unused = unused
need_of InRange = in_range
need_of Task = a_task
need_of Role = a_role
need_of Subject = a_subject
need_of OpenOrder = an_open_order
need_of TaskMask = a_task_mask

-- the code's case that asks it
abbrev pub argument_of : Needs → Argument
argument_of unused = Unused
argument_of in_range = InRange
argument_of a_task = Task
argument_of a_role = Role
argument_of a_subject = Subject
argument_of an_open_order = OpenOrder
argument_of a_task_mask = TaskMask

-- a row of the rules as the code has it
abbrev pub asked : RuleRow → Row
asked row = record { 0 = argument_of row.a; 1 = argument_of row.b; 2 = argument_of row.c }

-- the place of the first test that fails, 1, 2 or 3; 0 where all three hold
abbrev pub first_failing : Bool → Bool → Bool → ℕ
first_failing true true true = 0
first_failing true true false = 3
first_failing true false r = 2
first_failing false q r = 1

-- the first argument that is not what it must be
unfoldable pub fault_of : Book → RuleRow → ℕ → ℕ → ℕ → ℕ
fault_of d row a b c = first_failing (fits d row.a a) (fits d row.b b) (fits d row.c c)
