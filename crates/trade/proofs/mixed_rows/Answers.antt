use native.Mathlib.Omega.{arith}
use lib.ListN.{length-set}
use Rattle.rules.specs.Trade.{mixed}
use Rattle.book.specs.Slice.{tables}
use Rattle.trade.proofs.MixedLaws.{placed}
use borrow.Author.Rules.{rules}
use Rattle.book.specs.Tables.{number}
use Rattle.trade.proofs.mixed_rows.Goals as goal

pub loop-r-init : goal.loop-r-init
loop-r-init c = (omega arith, search rules, λ k l. absurd (omega arith))

pub loop-r-preserved : goal.loop-r-preserved
loop-r-preserved c =
    let s = c.args in
    let l = c.loop-r in
    let rows = mixed (tables s.book.now) (number s.first) (number s.second) in
    (omega arith, simp length-set l.invariant.1, placed rows l.rows l.r _ (omega arith) c.mixed_row.ensures l.invariant.2)

pub returns : goal.returns
returns c k l = c.loop-r.invariant.2 k (omega arith)
