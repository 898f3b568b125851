-- The bit of the roles owned.
use mathlib.Core.Path.{ap, ◌∙◌}
use Prim.Native.Nat.{ℕ}
use Rattle.sets.specs.Mask.{bit}
use Rattle.rules.specs.Trade.{below}
use Rattle.book.specs.Slice.{tables}
use Rattle.trade.proofs.owns_role.Goals as goal

pub returns : goal.returns
returns c =
    let s = c.args in
    c.has.ensures ∙ ap (λ (m : ℕ). bit m s.r) (c.below.ensures ∙ ap (below (tables s.book.now)) c.row.ensures)
