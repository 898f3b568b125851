-- The bit of the set that was found.
use mathlib.Core.Path.{ap, ◌∙◌}
use Prim.Native.Nat.{ℕ}
use Rattle.sets.specs.Mask.{bit}
use Rattle.gains.proofs.reaches.Goals as goal

pub returns : goal.returns
returns c = c.has.ensures ∙ ap (λ (m : ℕ). bit m c.args.b) c.reach.ensures
