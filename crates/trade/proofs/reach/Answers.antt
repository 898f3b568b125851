-- What lies below the direct juniors.
use mathlib.Core.Path.{ap, ◌∙◌}
use Rattle.rules.specs.Trade.{below, reach}
use Rattle.book.specs.Slice.{tables}
use Rattle.trade.proofs.reach.Goals as goal

pub returns : goal.returns
unfolding reach
returns c =
    let s = c.args in
    c.below.ensures ∙ ap (below (tables s.book.now)) c.row.ensures
