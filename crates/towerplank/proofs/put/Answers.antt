-- The four words are stored as one array.
use mathlib.Core.Path.{refl}
use Rattle.towerplank.proofs.put.Goals as goal

pub returns : goal.returns
returns c = refl
