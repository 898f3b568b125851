-- The two fields that are read are all that the command asks.
use Rattle.std.proofs.Common.{sym, ◌∙◌}
use Rattle.stream.specs.Stream.{set_word, goes_on}
use Rattle.stream.proofs.StreamLaws.{complete}
use Rattle.stream.proofs.set_word.Goals as goal

pub returns-in_err-place : goal.returns-in_err-place
unfolding set_word goes_on
returns-in_err-place c = rw c.from_residual.ensures (sym (c.in_err-place.ensures _))

pub returns-in_err-value : goal.returns-in_err-value
unfolding set_word goes_on
returns-in_err-value c = rw c.from_residual-in_err-value.ensures (sym (c.in_ok-place.ensures _ ∙ c.in_err-value.ensures _))

pub returns : goal.returns
unfolding set_word goes_on
returns c = rw (c.then_some.ensures, c.is_empty.ensures) (complete _ _ _ ∙ sym (c.in_ok-place.ensures _ ∙ c.in_ok-value.ensures _))
