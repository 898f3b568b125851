-- Each answer from what has been read by then.
use mathlib.Core.Path.{sym, ◌∙◌}
use Rattle.book.specs.Slice.{tables}
use Rattle.gains.proofs.GainAnswers.{junior_self, junior_cycle, junior_owners}
use Rattle.gains.proofs.junior_conflict.Goals as goal

pub returns-then-a-b : goal.returns-then-a-b
returns-then-a-b c =
    let s = c.args in
    junior_self (tables s.book.now) s.a s.b c.if-a-b.true

pub returns-then-reaches : goal.returns-then-reaches
returns-then-reaches c =
    let s = c.args in
    junior_cycle (tables s.book.now) s.a s.b c.if-a-b.false (sym c.reaches.ensures ∙ c.if-reaches.true)

pub returns : goal.returns
returns c =
    let s = c.args in
    junior_owners (tables s.book.now) s.a s.b c.if-a-b.false
    (sym c.reaches.ensures ∙ c.if-reaches.false) c.gained_role.ensures c.owners_conflict.ensures
