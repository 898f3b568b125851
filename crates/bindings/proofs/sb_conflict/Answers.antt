-- Each answer from what has been read by then.
use mathlib.Core.Path.{sym, ◌∙◌}
use Rattle.book.specs.Slice.{tables}
use Rattle.bindings.proofs.BindingLaws.{sb_self, sb_dme, sb_sme, sb_groups}
use Rattle.bindings.proofs.sb_conflict.Goals as goal

pub returns-then-a-b : goal.returns-then-a-b
returns-then-a-b c =
    let s = c.args in
    sb_self (tables s.book.now) s.a s.b c.if-a-b.true

pub returns-then-is_in_row : goal.returns-then-is_in_row
returns-then-is_in_row c =
    let s = c.args in
    sb_dme (tables s.book.now) s.a s.b c.if-a-b.false (sym c.is_in_row.ensures ∙ c.if-is_in_row.true)

pub returns-then-is_in_row-2 : goal.returns-then-is_in_row-2
returns-then-is_in_row-2 c =
    let s = c.args in
    sb_sme (tables s.book.now) s.a s.b c.if-a-b.false
    (sym c.is_in_row.ensures ∙ c.if-is_in_row.false)
    (sym c.is_in_row-2.ensures ∙ c.if-is_in_row-2.true)

pub returns : goal.returns
returns c =
    let s = c.args in
    sb_groups (tables s.book.now) s.a s.b c.if-a-b.false
    (sym c.is_in_row.ensures ∙ c.if-is_in_row.false)
    (sym c.is_in_row-2.ensures ∙ c.if-is_in_row-2.false) c.groups_conflict.ensures
