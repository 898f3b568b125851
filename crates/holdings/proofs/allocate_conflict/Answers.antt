-- What 33 says stands; where it is silent, 34 is asked.
use Rattle.deeds.proofs.OutcomeLaws.{passed_up}
use Rattle.book.specs.Slice.{tables}
use Rattle.holdings.proofs.HoldLaws.{sme_stands, dme_next}
use Rattle.holdings.proofs.allocate_conflict.Goals as goal

pub returns-in_err-sme_held : goal.returns-in_err-sme_held
returns-in_err-sme_held c =
    let s = c.args in
    rw (passed_up c.from_residual.result c.from_residual.ensures.1)
    (sme_stands (tables s.book.now) s.a s.b s.c c.subject_hand-hand.ensures _ c.in_err-sme_held.ensures)

pub returns : goal.returns
returns c =
    let s = c.args in
    dme_next (tables s.book.now) s.a s.b s.c c.subject_hand-hand.ensures c.in_ok-sme_held.ensures c.dme_held.ensures
