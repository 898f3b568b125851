-- A slice of another length is refused; and one of the right length is the array that is lent of it.
use Rattle.desk.specs.Guarantee.{ask}
use Rattle.desk.proofs.Exits.{left_alone, wrong_length}
use Rattle.desk.proofs.request.Goals as goal

pub returns-in-Some : goal.returns-in-Some
returns-in-Some c = rw c.in-Some.ensures.cases.same at c.request_on.ensures

pub returns-in-None : goal.returns-in-None
returns-in-None c =
    let s = c.args in
    let q = ask s.kind s.a s.b s.c in
    left_alone s.words.now q (wrong_length s.words.now q c.in-None.ensures.cases)
