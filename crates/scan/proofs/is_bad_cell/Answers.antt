-- Outside the order's tasks it is bad, and without a role; else as its role and its subject are looked up.
use mathlib.Core.Path.{sym, ap, ◌∙◌}
use mathlib.Core.Bool.{not}
use native.Mathlib.Omega.{arith}
use Rattle.rules.specs.Book.{names}
use Rattle.scan.proofs.BadLaws.{names_low, outside_order_lem, without_role, role_unknown, role_known}
use borrow.Author.Rules.{rules}
use Rattle.scan.proofs.is_bad_cell.Goals as goal
use Rattle.scan.proofs.is_bad_cell.Goals.{then-not-in_order-via-then-not-in_order, then-not-in_order-via-else-not-in_order+then-not-has_role}

pub returns-then-not-in_order : goal.returns-then-not-in_order
returns-then-not-in_order c =
    let s = c.args in
    elim c.then-not-in_order.branch [
      | then-not-in_order-via-then-not-in_order w ↦ outside_order_lem s.roles s.subjects s.v w.if-not-in_order.true
      | then-not-in_order-via-else-not-in_order+then-not-has_role w ↦
          without_role s.roles s.subjects s.v w.if-not-in_order.false (sym w.has_role.ensures ∙ w.if-not-has_role.true)
    ]

pub returns-then-not-has : goal.returns-then-not-has
returns-then-not-has c =
    let s = c.args in
    let some = sym c.has_role.ensures ∙ c.if-not-has_role.false in
    role_unknown s.roles s.subjects s.v (search rules) c.if-not-in_order.false some
    (rw c.role_in.ensures at c.has.ensures) c.if-not-has.true

pub returns-then-subject-ge64 : goal.returns-then-subject-ge64
returns-then-subject-ge64 c =
    let s = c.args in
    let some = sym c.has_role.ensures
    ∙ c.if-not-has_role.false in
    ap not (rw c.subject_in-subject.ensures at c.is_in.ensures)
    ∙ role_known s.roles s.subjects s.v (search rules) c.if-not-in_order.false some
    (rw c.role_in.ensures at c.has.ensures)
    c.if-not-has.false

pub returns : goal.returns
returns c =
    let s = c.args in
    let some = sym c.has_role.ensures
    ∙ c.if-not-has_role.false in
    let subject = c.subject_in-subject in
    ap not (c.has-2.ensures ∙ names_low s.subjects subject.result (omega arith) ∙ ap (names s.subjects) subject.ensures)
    ∙ role_known s.roles s.subjects s.v (search rules) c.if-not-in_order.false some
    (rw c.role_in.ensures at c.has.ensures)
    c.if-not-has.false
