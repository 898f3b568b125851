-- The row read does not meet the others.
use mathlib.Core.Path.{ap, ◌∙◌}
use mathlib.Core.Bool.{not}
use Prim.Native.Nat.{ℕ}
use Rattle.sets.specs.Mask.{meet}
use Rattle.table_rules.proofs.is_apart.Goals as goal

pub returns : goal.returns
returns c =
    let s = c.args in
    ap not (c.meets.ensures ∙ ap (λ (row : ℕ). meet row s.others) c.row.ensures)
