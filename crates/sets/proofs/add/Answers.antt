-- Joined with the set of i alone.
use mathlib.Core.Path.{ap}
use lib.Bits.{bit_or}
use Rattle.sets.specs.Mask.{with}
use Rattle.sets.proofs.add.Goals as goal

pub returns : goal.returns
unfolding with
returns c = ap (bit_or c.args.set) c.alone.ensures
