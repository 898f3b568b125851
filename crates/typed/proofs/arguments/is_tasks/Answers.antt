-- The word is looked up in a row of its own.
use Rattle.typed.specs.Arguments.{is_tasks}
use Rattle.typed.proofs.arguments.is_tasks.Goals as goal

pub returns : goal.returns
unfolding is_tasks
returns c = c.is_row.ensures
