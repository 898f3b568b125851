use Prim.Native.Nat.{ℕ}
use Rattle.sets.specs.Mask.{meet, alone_if}
use Rattle.sets.proofs.MemberLaws.{joined_on, joined_done}
use Rattle.book.specs.Slice.{tables}
use Rattle.book.specs.Tables.{number}
use Rattle.search.proofs.meeting.Goals as goal

pub loop-r-preserved : goal.loop-r-preserved
loop-r-preserved c =
    let s = c.args in
    let l = c.loop-r in
    let rows : ℕ → ℕ = alone_if (λ i. meet ((tables s.book.now).row (number s.table) i) s.set) in
    let v = c.in-Some.ensures.steps in
    rw (c.meeting_row-out.ensures, v.at, v.rest) (joined_on rows l.out v.some v.fits l.invariant)

pub returns : goal.returns
returns c =
    let s = c.args in
    let l = c.loop-r in
    let rows : ℕ → ℕ = alone_if (λ i. meet ((tables s.book.now).row (number s.table) i) s.set) in
    joined_done rows l.out (rw c.in-None.ensures.steps.0 at l.invariant)
