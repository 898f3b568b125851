-- What has been added lies above the set; who is not left has been asked.
use Rattle.book.specs.Slice.{tables}
use Rattle.owners.proofs.RaisedLaws.{Raising}
use Rattle.owners.proofs.raised.Given as goal

abbrev pub invariant-loop-r : goal.invariant-loop-r
invariant-loop-r l = Raising (tables l.book) l.set l.all l.r-iterator.left
