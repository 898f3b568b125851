-- The closure over the juniors, mixed with themselves.
use mathlib.Core.Path.{ap, ◌∙◌}
use Prim.Native.Nat.{ℕ}
use Rattle.chains.specs.Closure as chains
use Rattle.rules.specs.Book.{juniors}
use Rattle.rules.specs.Trade.{below}
use Rattle.book.specs.Slice.{tables}
use Rattle.trade.proofs.MixedLaws.{mixed_self}
use Rattle.trade.proofs.below.Goals as goal

pub returns : goal.returns
unfolding below
returns c =
    let s = c.args in
    c.spread.ensures ∙ ap (λ (rows : ℕ → ℕ). chains.close 64 rows s.set) (mixed_self (tables s.book.now) juniors)
