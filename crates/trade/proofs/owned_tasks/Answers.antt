-- The tasks of all roles below the start, joined.
use mathlib.Core.Path.{ap₂, ◌∙◌}
use Rattle.sets.specs.Mask.{joined}
use Rattle.rules.specs.Book.{tasks_of}
use Rattle.rules.specs.Trade.{owned_tasks}
use Rattle.book.specs.Slice.{tables}
use Rattle.trade.proofs.MixedLaws.{mixed_self}
use Rattle.trade.proofs.owned_tasks.Goals as goal

pub returns : goal.returns
unfolding owned_tasks
returns c =
    let s = c.args in
    c.joined_rows.ensures ∙ ap₂ (joined 64) (mixed_self (tables s.book.now) tasks_of) c.below.ensures
