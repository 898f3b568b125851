-- Table by table: its test is asked of each row.
use mathlib.Core.Path.{ap}
use Rattle.rules.specs.Book.{tasks, roles, subjects, row_tests}
use Rattle.book.specs.declared.Table.{Table}
use Rattle.book.specs.Tables.{number}
use Rattle.book.specs.Slice.{tables}
use Rattle.book.proofs.TableLaws.{number_lt}
use Rattle.scan.proofs.BlockLaws.{row_test, pair_test, mask_rows, order_rows, active_rows, found_same}
use Rattle.scan.proofs.bad_row_in.Goals as goal

pub returns-in-Sme : goal.returns-in-Sme
returns-in-Sme c =
    let s = c.args in
    let known = c.head-tasks.ensures in
    let same = mask_rows (tables s.book.now) (number s.table) (number_lt s.table) tasks tasks (pair_test s.table c.in-Sme.is) known known in
    found_same _ _ _ same c.bad_mask_in.ensures

pub returns-in-Juniors : goal.returns-in-Juniors
unfolding row_tests
returns-in-Juniors c =
    let s = c.args in
    let test = ap (λ (t : Table). row_test (number t)) c.in-Juniors.is in
    let same = mask_rows (tables s.book.now) (number s.table) (number_lt s.table) roles roles test c.head-roles.ensures c.head-roles.ensures in
    found_same _ _ _ same c.bad_mask_in-in-Juniors.ensures

pub returns-in-TasksOf : goal.returns-in-TasksOf
unfolding row_tests
returns-in-TasksOf c =
    let s = c.args in
    let test = ap (λ (t : Table). row_test (number t)) c.in-TasksOf.is in
    let same = mask_rows (tables s.book.now) (number s.table) (number_lt s.table) roles tasks test c.head-roles.ensures c.head-tasks.ensures in
    found_same _ _ _ same c.bad_mask_in-in-TasksOf.ensures

pub returns-in-RolesOf : goal.returns-in-RolesOf
unfolding row_tests
returns-in-RolesOf c =
    let s = c.args in
    let test = ap (λ (t : Table). row_test (number t)) c.in-RolesOf.is in
    let same = mask_rows (tables s.book.now) (number s.table) (number_lt s.table) subjects roles test c.head-subjects.ensures c.head-roles.ensures in
    found_same _ _ _ same c.bad_mask_in-in-RolesOf.ensures

pub returns-in-Active : goal.returns-in-Active
returns-in-Active c =
    let s = c.args in
    let same = active_rows (tables s.book.now) (number s.table) (number_lt s.table) (ap number c.in-Active.is) c.head-subjects.ensures c.head-roles.ensures in
    found_same _ _ _ same c.bad_active_in.ensures

pub returns-in-Orders : goal.returns-in-Orders
unfolding row_tests
returns-in-Orders c =
    let s = c.args in
    let test = ap (λ (t : Table). row_test (number t)) c.in-Orders.is in
    let same = order_rows (tables s.book.now) (number s.table) (number_lt s.table) test c.head-tasks.ensures in
    found_same _ _ _ same c.bad_mask_in-in-Orders.ensures
