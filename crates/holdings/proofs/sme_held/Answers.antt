use mathlib.Core.Path.{refl}
use native.Mathlib.Omega.{arith}
use Rattle.sets.proofs.SearchLaws.{search_on, search_at, search_out}
use Rattle.rules.proofs.BookLaws.{read_sized}
use Rattle.book.specs.Slice.{words, tables}
use Rattle.holdings.proofs.HoldLaws.{excluded_in, none_excluded, sme_found, none_here, pair_here, sme_told, sme_silent}
use Rattle.holdings.proofs.sme_held.Goals as goal

pub returns-then-excluded-eq0 : goal.returns-then-excluded-eq0
returns-then-excluded-eq0 c =
    let s = c.args in
    let d = tables s.book.now in
    let sized = read_sized (words s.book.now) (λ i h. c.fits-book i) in
    none_excluded d sized s.c s.hand (omega arith) c.requires.0.1
    (rw c.head.ensures at c.meeting-excluded.ensures) (omega arith)

pub loop-order-init : goal.loop-order-init
loop-order-init c = (omega arith, refl)

pub returns-in-Some : goal.returns-in-Some
returns-in-Some c =
    let s = c.args in
    let d = tables s.book.now in
    let sized = read_sized (words s.book.now) (λ i h. c.fits-book i) in
    let l = c.loop-order in
    let found = sme_found d sized s.c s.hand (omega arith) c.requires.0.1
    (rw c.head.ensures at c.meeting-excluded.ensures) l.order c.held_among-held.ensures c.first_pair.ensures in
    let pair = c.in-Some.is in
    let at = search_at (excluded_in d s.c s.hand) (omega arith) l.invariant.1 (pair_here d sized s.c s.hand (omega arith) l.order found pair) in
    sme_told d sized s.c s.hand (omega arith) l.order found pair (omega arith) at

pub loop-order-preserved : goal.loop-order-preserved
loop-order-preserved c =
    let s = c.args in
    let d = tables s.book.now in
    let sized = read_sized (words s.book.now) (λ i h. c.fits-book i) in
    let l = c.loop-order in
    let found = sme_found d sized s.c s.hand (omega arith) c.requires.0.1
    (rw c.head.ensures at c.meeting-excluded.ensures) l.order c.held_among-held.ensures c.first_pair.ensures in (
      omega arith,
      search_on (excluded_in d s.c s.hand) (omega arith) l.invariant.1
          (none_here d sized s.c s.hand (omega arith) l.order found c.in_default.is),
    )

pub returns : goal.returns
returns c =
    let s = c.args in
    let d = tables s.book.now in
    sme_silent d s.c s.hand (search_out (excluded_in d s.c s.hand) (omega arith) (omega arith) c.loop-order.invariant.1)
