-- Each answer from what has been read by then.
use mathlib.Core.Path.{ap, ◌∙◌}
use Rattle.rules.specs.Book.{role_in, subject_in}
use Rattle.book.specs.Slice.{tables}
use Rattle.orders.proofs.StageLaws.{is_other, no_other, has_subject, has_role_lem, task_unowned, all_owned}
use Rattle.orders.proofs.cell_refusal.Goals as goal

pub returns-then-subject-ne0 : goal.returns-then-subject-ne0
returns-then-subject-ne0 c =
    let s = c.args in
    has_subject (tables s.book.now) s.a s.b s.e
    (c.subject_in-subject.ensures ∙ ap subject_in c.cell-v.ensures) c.if-subject-ne0.true

pub returns-then-role-e : goal.returns-then-role-e
returns-then-role-e c =
    let s = c.args in
    has_role_lem (tables s.book.now) s.a s.b s.e
    (c.subject_in-subject.ensures ∙ ap subject_in c.cell-v.ensures)
    c.if-subject-ne0.false (c.role_in-role.ensures ∙ ap role_in c.cell-v.ensures)
    (is_other c.if-role-ne0.true c.if-role-e.true)

pub returns-in-Some : goal.returns-in-Some
returns-in-Some c =
    let s = c.args in
    task_unowned (tables s.book.now) s.a s.b s.e
    (c.subject_in-subject.ensures ∙ ap subject_in c.cell-v.ensures)
    c.if-subject-ne0.false
    (c.role_in-role.ensures ∙ ap role_in c.cell-v.ensures)
    (no_other c.else-role-ne0.either) c.in-Some.ensures

pub returns-in-None : goal.returns-in-None
returns-in-None c =
    let s = c.args in
    all_owned (tables s.book.now) s.a s.b s.e
    (c.subject_in-subject.ensures ∙ ap subject_in c.cell-v.ensures)
    c.if-subject-ne0.false
    (c.role_in-role.ensures ∙ ap role_in c.cell-v.ensures)
    (no_other c.else-role-ne0.either) c.in-None.ensures
