-- The pair that the search of order b gives is the answer.
use native.Mathlib.Omega.{arith}
use Rattle.rules.proofs.BookLaws.{read_sized}
use Rattle.book.specs.Slice.{words, tables}
use Rattle.holdings.proofs.HoldLaws.{dme_told, dme_silent}
use Rattle.holdings.proofs.dme_held.Goals as goal

pub returns-in-Some : goal.returns-in-Some
returns-in-Some c =
    let s = c.args in
    let sized = read_sized (words s.book.now) (λ i h. c.fits-book i) in
    dme_told (tables s.book.now) sized s.c s.hand (omega arith) s.b
    c.held_among-held.ensures c.first_pair.ensures c.in-Some.is

pub returns-in-None : goal.returns-in-None
returns-in-None c =
    let s = c.args in
    let sized = read_sized (words s.book.now) (λ i h. c.fits-book i) in
    dme_silent (tables s.book.now) sized s.c s.hand (omega arith) s.b
    c.held_among-held.ensures c.first_pair.ensures c.in-None.is
