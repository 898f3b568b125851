-- Each answer from what has been read by then.
use mathlib.Core.Path.{sym, ◌∙◌}
use Rattle.book.specs.Slice.{tables}
use Rattle.exclusions.proofs.ExclusionLaws.{member, dme_self, dme_sme, dme_subject_group, dme_none}
use Rattle.exclusions.proofs.dme_conflict.Goals as goal

pub returns-then-a-b : goal.returns-then-a-b
returns-then-a-b c =
    let s = c.args in
    dme_self (tables s.book.now) s.a s.b c.if-a-b.true

pub returns-then-is_in_row : goal.returns-then-is_in_row
returns-then-is_in_row c =
    let s = c.args in
    dme_sme (tables s.book.now) s.a s.b c.if-a-b.false (sym c.is_in_row.ensures ∙ c.if-is_in_row.true)

pub returns-then-has : goal.returns-then-has
returns-then-has c =
    let s = c.args in
    dme_subject_group (tables s.book.now) s.a s.b c.if-a-b.false
    (sym c.is_in_row.ensures ∙ c.if-is_in_row.false)
    (member s.b c.subject_group.ensures c.has.ensures ∙ c.if-has.true)

pub returns-else-has : goal.returns-else-has
returns-else-has c =
    let s = c.args in
    dme_none (tables s.book.now) s.a s.b c.if-a-b.false
    (sym c.is_in_row.ensures ∙ c.if-is_in_row.false)
    (member s.b c.subject_group.ensures c.has.ensures ∙ c.if-has.false)
