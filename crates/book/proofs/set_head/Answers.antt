-- One word is stored, and only that place of the tables changes.
use native.Mathlib.Omega.{arith}
use lib.ListN.{length-set}
use Rattle.book.specs.Slice.{Full}
use Rattle.book.proofs.StoreLaws.{stored_head}
use Rattle.book.proofs.set_head.Goals as goal

pub returns : goal.returns
returns c =
    let s = c.args in
    let full : Full s.book.now = omega arith in
    (simp length-set full, stored_head s.book.now full s.v s.i (omega arith))
