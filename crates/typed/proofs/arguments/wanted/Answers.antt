-- The code's table is the definition's, row by row.
use native.Mathlib.Omega.{arith}
use Rattle.typed.proofs.ArgumentLaws.{listed_want, other_want}
use Rattle.typed.proofs.arguments.wanted.Goals as goal

pub returns-then-i-lt-ROWS : goal.returns-then-i-lt-ROWS
returns-then-i-lt-ROWS c = listed_want c.args.kind _ (omega arith)

pub returns-else-i-lt-ROWS : goal.returns-else-i-lt-ROWS
returns-else-i-lt-ROWS c = other_want c.args.kind (omega arith)
