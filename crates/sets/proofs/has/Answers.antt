-- The digit that the shift brings down is the test of the definition.
use mathlib.Core.Path.{ap}
use Prim.Native.Nat.{ℕ}
use lib.Dec.{eqb}
use Rattle.sets.specs.Mask.{bit}
use Rattle.sets.proofs.MaskLaws.{shift_and}
use Rattle.sets.proofs.has.Goals as goal

pub returns : goal.returns
unfolding bit
returns c = ap (λ (x : ℕ). eqb x 1) (shift_and c.args.set c.args.i)
