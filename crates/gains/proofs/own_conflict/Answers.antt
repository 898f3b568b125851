-- Subject b alone is asked, for all that clashes with the gain.
use native.Mathlib.Omega.{arith}
use Rattle.book.specs.Slice.{tables}
use Rattle.gains.proofs.GainAnswers.{own_told, own_none}
use Rattle.gains.proofs.own_conflict.Goals as goal

pub returns-then-tasks-ne0 : goal.returns-then-tasks-ne0
returns-then-tasks-ne0 c =
    let s = c.args in
    own_told (tables s.book.now) s.a s.b c.row.ensures
    c.owned_tasks-owned.ensures c.gained_role-gain.ensures c.meeting-tasks.ensures (omega arith) (omega arith)

pub returns : goal.returns
returns c =
    let s = c.args in
    own_none (tables s.book.now) s.a s.b c.row.ensures
    c.owned_tasks-owned.ensures c.gained_role-gain.ensures c.meeting-tasks.ensures c.if-tasks-ne0.false
