-- Each answer from what has been read by then.
use mathlib.Core.Path.{sym, ◌∙◌}
use Rattle.book.specs.Slice.{tables}
use Rattle.exclusions.proofs.ExclusionLaws.{member, sme_self, sme_dme, sme_subject_group, sme_role_group, sme_owners}
use Rattle.exclusions.proofs.sme_conflict.Goals as goal

pub returns-then-a-b : goal.returns-then-a-b
returns-then-a-b c =
    let s = c.args in
    sme_self (tables s.book.now) s.a s.b c.if-a-b.true

pub returns-then-is_in_row : goal.returns-then-is_in_row
returns-then-is_in_row c =
    let s = c.args in
    sme_dme (tables s.book.now) s.a s.b c.if-a-b.false (sym c.is_in_row.ensures ∙ c.if-is_in_row.true)

pub returns-then-has : goal.returns-then-has
returns-then-has c =
    let s = c.args in
    sme_subject_group (tables s.book.now) s.a s.b c.if-a-b.false
    (sym c.is_in_row.ensures ∙ c.if-is_in_row.false)
    (member s.b c.subject_group.ensures c.has.ensures ∙ c.if-has.true)

pub returns-then-has-2 : goal.returns-then-has-2
returns-then-has-2 c =
    let s = c.args in
    sme_role_group (tables s.book.now) s.a s.b c.if-a-b.false
    (sym c.is_in_row.ensures ∙ c.if-is_in_row.false)
    (member s.b c.subject_group.ensures c.has.ensures ∙ c.if-has.false)
    (member s.b c.role_group.ensures c.has-2.ensures ∙ c.if-has-2.true)

pub returns : goal.returns
returns c =
    let s = c.args in
    sme_owners (tables s.book.now) s.a s.b c.if-a-b.false
    (sym c.is_in_row.ensures ∙ c.if-is_in_row.false)
    (member s.b c.subject_group.ensures c.has.ensures ∙ c.if-has.false)
    (member s.b c.role_group.ensures c.has-2.ensures ∙ c.if-has-2.false) c.owned_together.ensures
