-- One call takes one word more; the remaining steps fall.
use Rattle.typed.proofs.arguments.Source.+tasks_from.Given as goal

abbrev pub decreases-tasks_from : goal.decreases-tasks_from
decreases-tasks_from l = l.steps
