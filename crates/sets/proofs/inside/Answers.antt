-- The test is the definition's.
use mathlib.Core.Path.{refl}
use Rattle.sets.specs.Mask.{within}
use Rattle.sets.proofs.inside.Goals as goal

pub returns : goal.returns
unfolding within
returns c = refl
