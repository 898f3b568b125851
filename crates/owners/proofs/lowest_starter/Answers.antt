-- The members of both sets are those that start in both.
use mathlib.Core.Path.{ap₂, ◌∙◌}
use Prim.Native.Nat.{ℕ}
use lib.Bits.{bit_and}
use Rattle.sets.specs.Mask.{bit}
use Rattle.sets.specs.Search.{lowest}
use Rattle.sets.proofs.MaskLaws.{bit-and}
use Rattle.sets.proofs.SearchLaws.{lowest_same}
use Rattle.owners.proofs.lowest_starter.Goals as goal

pub returns : goal.returns
returns c =
    rw (ap₂ (λ (x y : ℕ). lowest (bit (bit_and x y))) c.starters.ensures c.starters-2.ensures ∙ lowest_same _ _ (λ o l. bit-and _ _ o)) at c.first.ensures
