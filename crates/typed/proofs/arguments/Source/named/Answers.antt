-- The thing has a number below 64.
use mathlib.Core.Path.{◌∙◌}
use native.Mathlib.Omega.{arith}
use Rattle.typed.proofs.GrammarLaws.{raised, faulted, named_is, named_out, named_bad}
use Rattle.typed.proofs.arguments.Source.named.Goals as goal

pub returns-in_err-n : goal.returns-in_err-n
returns-in_err-n c =
    raised _ c.from_residual.ensures.1 ∙ named_bad _ _ _ _ _ _ c.in_err-n.ensures

pub returns-then-n-lt64 : goal.returns-then-n-lt64
returns-then-n-lt64 c =
    c.label.ensures ∙ named_is _ _ _ _ _ _ _ c.in_ok-n.ensures c.if-n-lt64.true

pub returns : goal.returns
returns c =
    faulted _ c.at.ensures ∙ named_out _ _ _ _ _ _ _ c.in_ok-n.ensures (omega arith) _ c.next.ensures.0
