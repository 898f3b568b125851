-- The lowest member of those of xs that are none of ys.
use Rattle.search.proofs.PairLaws.{outside_set}
use borrow.Author.Rules.{rules}
use Rattle.search.proofs.lowest_outside.Goals as goal

pub returns : goal.returns
returns c = let s = c.args in rw (outside_set s.xs s.ys (search rules)) at c.first.ensures
