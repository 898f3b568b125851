-- The one field that is read is all that the command asks.
use Rattle.std.proofs.Common.{sym, ◌∙◌}
use Rattle.stream.specs.Stream.{new_book, goes_on}
use Rattle.stream.proofs.StreamLaws.{complete}
use Rattle.stream.proofs.new_book.Goals as goal

pub returns-in_err-size : goal.returns-in_err-size
unfolding new_book goes_on
returns-in_err-size c = rw c.from_residual.ensures (sym (c.in_err-size.ensures _))

pub returns : goal.returns
unfolding new_book goes_on
returns c = rw (c.then_some.ensures, c.is_empty.ensures) (complete _ _ _ ∙ sym (c.in_ok-size.ensures _))
