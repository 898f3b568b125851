use Rattle.rules.proofs.BookLaws.{read_sized}
use Rattle.book.specs.Slice.{words, tables}
use Rattle.owners.proofs.RaisedLaws.{raise_start, raise_on, raise_done}
use borrow.Author.Rules.{rules}
use Rattle.owners.proofs.raised.Goals as goal

pub loop-r-init : goal.loop-r-init
loop-r-init c =
    let s = c.args in
    let sized = read_sized (words s.book.now) (λ i h. c.fits-book i) in
    rw (c.into_iter-r-iterator.ensures.into_iter_gives, c.each-r-items.ensures) (raise_start (tables s.book.now) sized s.set (search rules) c.head.ensures)

pub loop-r-preserved : goal.loop-r-preserved
loop-r-preserved c =
    let s = c.args in
    let l = c.loop-r in
    let v = c.in-Some.ensures.steps in
    let sized = read_sized (words s.book.now) (λ i h. c.fits-book i) in
    rw v.rest (raise_on (tables s.book.now) sized s.set (search rules) l.all l.r-iterator.left v.some v.fits l.invariant
    (rw v.at at c.meeting_row-all.ensures))

pub returns : goal.returns
returns c =
    let s = c.args in
    let l = c.loop-r in
    let sized = read_sized (words s.book.now) (λ i h. c.fits-book i) in
    raise_done (tables s.book.now) sized s.set (search rules) l.all (rw c.in-None.ensures.steps.0 at l.invariant)
