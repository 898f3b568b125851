use native.Mathlib.Omega.{arith}
use Rattle.cells.proofs.CellLaws.{stamped_on, stamped_done}
use Rattle.book.specs.Slice.{tables}
use Rattle.cells.proofs.Hand.stamp.Goals as goal

pub loop-task-init : goal.loop-task-init
loop-task-init c = (omega arith, rw (c.into_iter-task-iterator.ensures.into_iter_gives, c.each-task-items.ensures))

pub loop-task-preserved : goal.loop-task-preserved
loop-task-preserved c =
    let h = c.args.self.now in
    let l = c.loop-task in
    let v = c.in-Some.ensures.steps in
    let stored = c.stamp_task.ensures in
    (stored.0, rw (stored.1, v.at, v.rest) (stamped_on (tables l.book) h.order h.narrow h.role h.subject v.some v.fits l.invariant.1))

pub returns : goal.returns
returns c =
    let h = c.args.self.now in
    let l = c.loop-task in
    (l.invariant.0, stamped_done (tables l.book) h.order h.narrow h.role h.subject (rw c.in-None.ensures.steps.0 at l.invariant.1))
