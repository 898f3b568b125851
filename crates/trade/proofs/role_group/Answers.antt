-- What is bound with t alone.
use mathlib.Core.Path.{ap, ◌∙◌}
use Rattle.chains.specs.Closure as chains
use Rattle.rules.specs.Book.{SB, RB}
use Rattle.rules.specs.Trade.{mixed, role_group}
use Rattle.book.specs.Slice.{tables}
use Rattle.trade.proofs.role_group.Goals as goal

pub returns : goal.returns
unfolding role_group chains.group
returns c =
    let s = c.args in
    c.bound_with.ensures ∙ ap (chains.close 64 (mixed (tables s.book.now) SB RB)) c.alone.ensures
