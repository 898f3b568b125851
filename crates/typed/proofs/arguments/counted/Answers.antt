-- Each case of what was read is the case of the definition.
use mathlib.Core.Path.{sym, ap, ◌∙◌}
use Rattle.std.proofs.Common.{Err}
use Rattle.decimal.specs.declared.Unread.{Unread}
use Rattle.typed.specs.Arguments.{counted, counts}
use Rattle.typed.proofs.arguments.counted.Goals as goal

pub returns-in-Ok : goal.returns-in-Ok
unfolding counted counts
returns-in-Ok c = ap counted c.in-Ok.ensures

pub returns-in-Err-TooLarge : goal.returns-in-Err-TooLarge
unfolding counted counts
returns-in-Err-TooLarge c = let e = c.in-Err-TooLarge in ap (λ (u : Unread). counted (Err u)) (sym e.field-0-is) ∙ ap counted e.ensures

pub returns-in-Err-NotDecimal : goal.returns-in-Err-NotDecimal
unfolding counted counts
returns-in-Err-NotDecimal c = let e = c.in-Err-NotDecimal in ap (λ (u : Unread). counted (Err u)) (sym e.field-0-is) ∙ ap counted e.ensures
