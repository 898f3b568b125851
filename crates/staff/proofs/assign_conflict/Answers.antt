-- The arm taken says which table it is; a table that is none of the three is refused.
use Rattle.book.specs.declared.Table.TheVariants.{Juniors, TasksOf, RolesOf}
use Rattle.book.specs.Tables.{number}
use Rattle.book.specs.Slice.{tables}
use Rattle.rules.specs.Numbers.{by_table, assign_conflicts}
use Rattle.book.proofs.TableLaws.{number_one}
use Rattle.deeds.proofs.ConflictLaws.{unlisted_told}
use Rattle.staff.proofs.assign_conflict.Goals as goal

pub returns-in-TasksOf : goal.returns-in-TasksOf
unfolding assign_conflicts by_table
returns-in-TasksOf c = rw c.in-TasksOf.is c.task_conflict.ensures

pub returns-in-Juniors : goal.returns-in-Juniors
unfolding assign_conflicts by_table
returns-in-Juniors c = rw c.in-Juniors.is c.junior_conflict.ensures

pub returns-in-RolesOf : goal.returns-in-RolesOf
unfolding assign_conflicts by_table
returns-in-RolesOf c = rw c.in-RolesOf.is c.own_conflict.ensures

pub returns-in_default : goal.returns-in_default
unfolding assign_conflicts
returns-in_default c =
    let s = c.args in
    let other = c.in_default in
    let one = number_one s.table in
    unlisted_told _ (tables s.book.now) (number s.table) s.a s.b
    (λ e. other.not-TasksOf (one TasksOf e), (λ e. other.not-Juniors (one Juniors e), (λ e. other.not-RolesOf (one RolesOf e), tt)))
