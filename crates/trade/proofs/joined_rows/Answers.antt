use Rattle.sets.proofs.MemberLaws.{joined_on, joined_done}
use Rattle.rules.specs.Trade.{mixed}
use Rattle.book.specs.Slice.{tables}
use Rattle.book.specs.Tables.{number}
use Rattle.trade.proofs.joined_rows.Goals as goal

pub loop-r-preserved : goal.loop-r-preserved
loop-r-preserved c =
    let s = c.args in
    let l = c.loop-r in
    let v = c.in-Some.ensures.steps in
    rw (c.mixed_row-out.ensures, v.at, v.rest) (joined_on (mixed (tables s.book.now) (number s.first) (number s.second)) l.out v.some v.fits l.invariant)

pub returns : goal.returns
returns c =
    let s = c.args in
    let l = c.loop-r in
    joined_done (mixed (tables s.book.now) (number s.first) (number s.second)) l.out (rw c.in-None.ensures.steps.0 at l.invariant)
