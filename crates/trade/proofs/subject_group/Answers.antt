-- The closure over SB, mixed with itself, from t alone.
use mathlib.Core.Path.{ap₂, ◌∙◌}
use Rattle.chains.specs.Closure as chains
use Rattle.rules.specs.Book.{SB}
use Rattle.rules.specs.Trade.{subject_group}
use Rattle.book.specs.Slice.{tables}
use Rattle.trade.proofs.MixedLaws.{mixed_self}
use Rattle.trade.proofs.subject_group.Goals as goal

pub returns : goal.returns
unfolding subject_group chains.group
returns c =
    let s = c.args in
    c.spread.ensures ∙ ap₂ (chains.close 64) (mixed_self (tables s.book.now) SB) c.alone.ensures
