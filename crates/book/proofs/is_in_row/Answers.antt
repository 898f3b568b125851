-- The bit of the row that was read.
use mathlib.Core.Path.{ap, ◌∙◌}
use Prim.Native.Nat.{ℕ}
use Rattle.sets.specs.Mask.{bit}
use Rattle.book.proofs.is_in_row.Goals as goal

pub returns : goal.returns
returns c = c.has.ensures ∙ ap (λ (m : ℕ). bit m c.args.i) c.row.ensures
