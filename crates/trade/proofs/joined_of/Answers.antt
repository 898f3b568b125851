use Rattle.sets.proofs.MemberLaws.{joined_on, joined_done}
use Rattle.book.specs.Slice.{words}
use Rattle.trade.proofs.joined_of.Goals as goal

pub loop-r-preserved : goal.loop-r-preserved
loop-r-preserved c =
    let l = c.loop-r in
    let v = c.in-Some.ensures.steps in
    rw (v.at, v.rest) (joined_on (words c.args.rows.now) l.out v.some v.fits l.invariant)

pub returns : goal.returns
returns c = joined_done (words c.args.rows.now) c.loop-r.out (rw c.in-None.ensures.steps.0 at c.loop-r.invariant)
