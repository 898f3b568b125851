-- Within the bytes it is the byte that stands there, behind them a blank.
use Rattle.std.proofs.Common.{arith}
use Rattle.std.proofs.lemmas.Grind.{common_steps}
use Rattle.std.proofs.lemmas.Option.{gets}
use Rattle.text.specs.Rows.{letter_at}
use Rattle.text.proofs.letter.Goals as goal

pub returns : goal.returns
unfolding letter_at
returns c = grind (arith, common_steps, gets)
