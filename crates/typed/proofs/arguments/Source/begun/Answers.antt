-- The row says what the line is.
use mathlib.Core.Path.{◌∙◌}
use native.Mathlib.Omega.{arith}
use Rattle.typed.proofs.GrammarLaws.{begun_show, begun_audit, begun_help, begun_quit, begun_name, begun_try, begun_request}
use Rattle.typed.proofs.arguments.Source.begun.Goals as goal

pub returns-in-0 : goal.returns-in-0
returns-in-0 c = c.show.ensures ∙ begun_show _ _ _ _ _ (omega arith)

pub returns-in-1 : goal.returns-in-1
returns-in-1 c = c.ended.ensures ∙ begun_audit _ _ _ _ _ (omega arith)

pub returns-in-2 : goal.returns-in-2
returns-in-2 c = c.help.ensures ∙ begun_help _ _ _ _ _ (omega arith)

pub returns-in-3 : goal.returns-in-3
returns-in-3 c = c.ended-in-3.ensures ∙ begun_quit _ _ _ _ _ (omega arith)

pub returns-in-4 : goal.returns-in-4
returns-in-4 c = c.name.ensures ∙ begun_name _ _ _ _ _ (omega arith)

pub returns-in-5 : goal.returns-in-5
returns-in-5 c = c.read_request.ensures ∙ begun_try _ _ _ _ _ (omega arith)

pub returns-in_default : goal.returns-in_default
returns-in_default c =
    c.read_request-in_default.ensures
    ∙ begun_request _ _ _ _ _ (λ h. omega arith) (λ h. omega arith) (λ h. omega arith) (λ h. omega arith) (λ h. omega arith) (λ h. omega arith)
