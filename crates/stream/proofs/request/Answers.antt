-- The four fields that are read are all that the command asks.
use Rattle.std.proofs.Common.{sym, ◌∙◌}
use Rattle.stream.specs.Stream.{request, goes_on}
use Rattle.stream.proofs.StreamLaws.{complete_alone}
use Rattle.stream.proofs.request.Goals as goal

pub returns-in_err-kind : goal.returns-in_err-kind
unfolding request goes_on
returns-in_err-kind c = rw c.from_residual.ensures (sym (c.in_err-kind.ensures _))

pub returns-in_err-a : goal.returns-in_err-a
unfolding request goes_on
returns-in_err-a c = rw c.from_residual-in_err-a.ensures (sym (c.in_ok-kind.ensures _ ∙ c.in_err-a.ensures _))

pub returns-in_err-b : goal.returns-in_err-b
unfolding request goes_on
returns-in_err-b c = rw c.from_residual-in_err-b.ensures (sym (c.in_ok-kind.ensures _ ∙ c.in_ok-a.ensures _ ∙ c.in_err-b.ensures _))

pub returns-in_err-c : goal.returns-in_err-c
unfolding request goes_on
returns-in_err-c c = rw c.from_residual-in_err-c.ensures (sym (c.in_ok-kind.ensures _ ∙ c.in_ok-a.ensures _ ∙ c.in_ok-b.ensures _ ∙ c.in_err-c.ensures _))

pub returns : goal.returns
unfolding request goes_on
returns c =
    rw (c.then_some.ensures, c.is_empty.ensures)
    (complete_alone _ _ ∙ sym (c.in_ok-kind.ensures _ ∙ c.in_ok-a.ensures _ ∙ c.in_ok-b.ensures _ ∙ c.in_ok-c.ensures _))
