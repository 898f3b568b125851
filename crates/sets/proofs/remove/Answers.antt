-- Cut to the complement of the set of i alone.
use mathlib.Core.Path.{ap}
use Prim.Native.Nat.{ℕ, ◌-◌, ◌^◌}
use lib.Bits.{bit_and}
use Rattle.sets.specs.Mask.{without}
use Rattle.sets.proofs.remove.Goals as goal

pub returns : goal.returns
unfolding without
returns c = ap (λ (x : ℕ). bit_and c.args.set (2 ^ 64 - 1 - x)) c.alone.ensures
