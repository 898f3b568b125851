-- What the search has found is told, or that it found none.
use mathlib.Core.Path.{refl}
use Rattle.deeds.proofs.CascadeLaws.{lowest_yes, lowest_no}
use Rattle.pairs.proofs.open_refusal.Goals as goal

pub returns-in-Some : goal.returns-in-Some
returns-in-Some c = lowest_yes _ _ _ c.in-Some.ensures

pub returns-in-None : goal.returns-in-None
returns-in-None c = lowest_no _ _ _ c.in-None.ensures refl
