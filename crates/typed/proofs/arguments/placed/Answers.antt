-- Each case of the value is the case of the definition.
use mathlib.Core.Path.{ap}
use Rattle.std.proofs.Common.{Err}
use Rattle.typed.specs.Arguments.{placed_at}
use Rattle.typed.proofs.arguments.placed.Goals as goal

pub returns-in-Ok : goal.returns-in-Ok
unfolding placed_at
returns-in-Ok c = rw c.in-Ok.is

pub returns-in-Err : goal.returns-in-Err
unfolding placed_at
returns-in-Err c = rw c.in-Err.is (ap Err c.at.ensures)
