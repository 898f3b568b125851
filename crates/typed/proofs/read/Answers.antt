-- A line that was read is said as it is, and a fault as one.
use Rattle.typed.specs.Grammar.{line_said}
use Rattle.typed.proofs.read.Goals as goal

pub returns-in-Ok : goal.returns-in-Ok
unfolding line_said
returns-in-Ok c =
    rw (c.in-Ok.is) at c.read_line.ensures

pub returns-in-Err : goal.returns-in-Err
unfolding line_said
returns-in-Err c =
    rw (c.in-Err.is) at c.read_line.ensures
