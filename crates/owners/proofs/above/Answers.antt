use mathlib.Core.Path.{refl, sym, ◌∙◌}
use native.Mathlib.Omega.{arith}
use Rattle.sets.proofs.MaskLaws.{within_le}
use borrow.Author.Rules.{rules}
use Rattle.owners.proofs.above.Goals as goal

pub loop-more-init : goal.loop-more-init
loop-more-init c = (search rules, refl, c.raised-more.ensures)

pub loop-more-smaller : goal.loop-more-smaller
loop-more-smaller c = let l = c.loop-more in omega (arith, l.invariant.0, within_le l.all l.more l.invariant.2.0)

pub loop-more-preserved : goal.loop-more-preserved
loop-more-preserved c = let l = c.loop-more in (search rules, l.invariant.2.1 ∙ l.invariant.1, c.raised-more-in-loop-more.ensures)

pub returns : goal.returns
returns c = let l = c.loop-more in sym (l.invariant.2.2 c.loop-more-test.false) ∙ l.invariant.1
