-- Each return meets the guarantee: a refusal by its number, a request carried out by what its deed settled.
use native.Mathlib.Omega.{arith}
use Rattle.rules.specs.Meaning.{Fits}
use Rattle.book.specs.Slice.{words, Full}
use Rattle.scan.proofs.FormedLaws.{scanned}
use Rattle.desk.specs.Guarantee.{ask}
use Rattle.desk.proofs.Exits.{left_alone, bad_word_lem, argument_fault_lem, carried, settled_answered}
use Rattle.desk.proofs.request_on.Goals as goal

pub returns-in-Some : goal.returns-in-Some
returns-in-Some c =
    let s = c.args in
    let q = ask s.kind s.a s.b s.c in
    let full : Full s.book.now = omega arith in
    left_alone s.book.now q (bad_word_lem s.book.now q full c.in-Some.ensures)

pub returns-in-Some-argument_fault : goal.returns-in-Some-argument_fault
returns-in-Some-argument_fault c =
    let s = c.args in
    let q = ask s.kind s.a s.b s.c in
    let full : Full s.book.now = omega arith in
    left_alone s.book.now q (argument_fault_lem s.book.now q full c.in_default.ensures c.in-Some-argument_fault.ensures)

pub carry_out-requires : goal.carry_out-requires
carry_out-requires c =
    let s = c.args in
    let fits : Fits (words s.book.now) = λ i h. c.fits-book i in
    (scanned s.book.now (omega arith) fits c.in_default.ensures, c.in_default-argument_fault.ensures)

pub returns : goal.returns
returns c =
    let s = c.args in
    let q = ask s.kind s.a s.b s.c in
    let full : Full s.book.now = omega arith in
    settled_answered q full
    (carried s.book.now q full c.in_default.ensures c.in_default-argument_fault.ensures)
    c.carry_out.ensures
