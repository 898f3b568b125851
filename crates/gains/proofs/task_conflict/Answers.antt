-- The task is what is gained.
use Rattle.book.specs.Slice.{tables}
use Rattle.gains.proofs.GainAnswers.{task_owners}
use Rattle.gains.proofs.task_conflict.Goals as goal

pub returns : goal.returns
returns c =
    let s = c.args in
    task_owners (tables s.book.now) s.a s.b c.alone.ensures c.owners_conflict.ensures
