-- Each case of the number that was read is the case of the definition.
use mathlib.Core.Path.{sym, ap, ◌∙◌}
use Rattle.std.proofs.Common.{Err}
use Rattle.decimal.specs.declared.Unread.{Unread}
use Rattle.typed.specs.Grammar.{by_number}
use Rattle.typed.proofs.GrammarLaws.{faulted}
use Rattle.typed.proofs.arguments.Source.numbered.Goals as goal

pub returns-in-Ok : goal.returns-in-Ok
unfolding by_number
returns-in-Ok c =
    c.of_kind.ensures ∙ ap (by_number _ _ _ _ _ _) c.in-Ok.ensures

pub returns-in-Err-TooLarge : goal.returns-in-Err-TooLarge
unfolding by_number
returns-in-Err-TooLarge c =
    let a = c.args in
    let e = c.in-Err-TooLarge in
    let kind = by_number a.self.line.now a.self.whole a.self.names.now a.trial a.start a.end in
    faulted _ c.at.ensures ∙ ap (λ (u : Unread). kind (Err u)) (sym e.field-0-is) ∙ ap kind e.ensures

pub returns-in-Err-NotDecimal : goal.returns-in-Err-NotDecimal
unfolding by_number
returns-in-Err-NotDecimal c =
    let a = c.args in
    let e = c.in-Err-NotDecimal in
    let kind = by_number a.self.line.now a.self.whole a.self.names.now a.trial a.start a.end in
    faulted _ c.at-in-Err-NotDecimal.ensures ∙ ap (λ (u : Unread). kind (Err u)) (sym e.field-0-is) ∙ ap kind e.ensures
