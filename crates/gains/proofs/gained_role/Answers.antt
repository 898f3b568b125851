-- The tasks of the role alone.
use mathlib.Core.Path.{ap, ◌∙◌}
use Rattle.rules.specs.Trade.{owned_tasks}
use Rattle.book.specs.Slice.{tables}
use Rattle.gains.proofs.gained_role.Goals as goal

pub returns : goal.returns
returns c = c.owned_tasks.ensures ∙ ap (owned_tasks (tables c.args.book.now)) c.alone.ensures
