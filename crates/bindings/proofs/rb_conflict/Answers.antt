-- Each answer from what has been read by then.
use mathlib.Core.Path.{refl, sym, ◌∙◌}
use mathlib.Core.List.{[]}
use Rattle.rules.specs.Numbers.{first_of}
use Rattle.book.specs.Slice.{tables}
use Rattle.bindings.proofs.BindingLaws.{between_told, between_none, sme_groups, rb_self, rb_sme, rb_groups}
use Rattle.bindings.proofs.rb_conflict.Goals as goal

pub returns-then-a-b : goal.returns-then-a-b
returns-then-a-b c =
    let s = c.args in
    rb_self (tables s.book.now) s.a s.b c.if-a-b.true

pub returns-then-is_in_row : goal.returns-then-is_in_row
returns-then-is_in_row c =
    let s = c.args in
    rb_sme (tables s.book.now) s.a s.b c.if-a-b.false (sym c.is_in_row.ensures ∙ c.if-is_in_row.true)

pub returns-in-Some : goal.returns-in-Some
returns-in-Some c =
    let s = c.args in
    let d = tables s.book.now in
    rb_groups d s.a s.b c.if-a-b.false
    (sym c.is_in_row.ensures ∙ c.if-is_in_row.false)
    (sme_groups d s.a s.b _ c.role_group-xs.ensures c.role_group-ys.ensures (between_told _ 27 _ _ _ c.first_pair.ensures c.in-Some.is))

pub returns-in-None : goal.returns-in-None
unfolding first_of
returns-in-None c =
    let s = c.args in
    let d = tables s.book.now in
    rb_groups d s.a s.b c.if-a-b.false
    (sym c.is_in_row.ensures ∙ c.if-is_in_row.false)
    (sme_groups d s.a s.b [] c.role_group-xs.ensures c.role_group-ys.ensures (between_none _ 27 _ _ _ c.first_pair.ensures c.in-None.is refl))
