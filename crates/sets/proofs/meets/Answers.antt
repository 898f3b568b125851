-- The test is the definition's.
use mathlib.Core.Path.{refl}
use Rattle.sets.specs.Mask.{meet}
use Rattle.sets.proofs.meets.Goals as goal

pub returns : goal.returns
unfolding meet
returns c = refl
