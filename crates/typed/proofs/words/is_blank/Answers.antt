-- The test is the one that the definition has.
use mathlib.Core.Path.{refl}
use Rattle.typed.specs.Words.{is_blank}
use Rattle.typed.proofs.words.is_blank.Goals as goal

pub returns : goal.returns
unfolding is_blank
returns c = refl
