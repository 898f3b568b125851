-- The bit of the roles reached.
use mathlib.Core.Path.{ap, ◌∙◌}
use mathlib.Core.Bool.{not}
use Prim.Native.Nat.{ℕ}
use Rattle.sets.specs.Mask.{bit}
use Rattle.rules.specs.Audit.{not_own}
use Rattle.table_rules.proofs.is_acyclic.Goals as goal

pub returns : goal.returns
unfolding not_own
returns c = ap not (c.has.ensures ∙ ap (λ (m : ℕ). bit m c.args.r) c.reach.ensures)
