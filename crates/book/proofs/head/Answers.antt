-- The word read is the one that the tables have there.
use mathlib.Core.Path.{sym}
use native.Mathlib.Omega.{arith}
use Rattle.book.specs.Slice.{words}
use Rattle.rules.proofs.BookLaws.{read_head}
use Rattle.book.proofs.head.Goals as goal

pub returns : goal.returns
returns c = let s = c.args in sym (read_head (words s.book.now) s.i (omega arith))
