-- The kind is a word of the panel, or a number.
use mathlib.Core.Path.{◌∙◌}
use Rattle.typed.specs.Grammar.{request_at}
use Rattle.typed.proofs.GrammarLaws.{raised, next_neither, next_there, kind_number, kind_known}
use Rattle.typed.proofs.arguments.Source.read_request.Goals as goal

pub returns-in_err-word : goal.returns-in_err-word
unfolding request_at
returns-in_err-word c =
    raised _ c.from_residual.ensures.1 ∙ next_neither _ _ _ _ c.in_err-word.ensures _

pub returns-in-Some : goal.returns-in-Some
unfolding request_at
returns-in-Some c =
    c.of_kind.ensures
    ∙ kind_known _ _ _ _ _ _ _ _ c.in-Some.ensures
    ∙ next_there _ _ _ _ c.in_ok-word.ensures _ _

pub returns-in-None : goal.returns-in-None
unfolding request_at
returns-in-None c =
    c.numbered.ensures
    ∙ kind_number _ _ _ _ _ _ _ c.in-None.ensures
    ∙ next_there _ _ _ _ c.in_ok-word.ensures _ _
