-- Refused where the bit does not stand; else it leaves the row.
use mathlib.Core.Path.{refl, sym, ap, ◌∙◌}
use mathlib.Core.Bool.{not}
use native.Mathlib.Omega.{arith}
use Rattle.rules.specs.Requests.{take_back, change}
use Rattle.rules.specs.Numbers.{state_refusal, conflicts}
use Rattle.book.specs.Tables.{number}
use Rattle.book.specs.Slice.{tables, Full}
use Rattle.deeds.proofs.OutcomeLaws.{decide_unopposed, settled_changed, settled_kept}
use Rattle.deeds.proofs.CascadeLaws.{given_yes, given_no}
use Rattle.unopposed.proofs.take_back.Goals as goal

pub returns-then-not-is_in_row : goal.returns-then-not-is_in_row
unfolding state_refusal conflicts
returns-then-not-is_in_row c =
    let s = c.args in
    let full : Full s.book.now = omega arith in
    settled_kept
    (given_yes _ _ _ (ap not (sym c.is_in_row.ensures ∙ c.if-not-is_in_row.true))
    ∙ decide_unopposed (tables s.book.now) (take_back (number s.table)) s.a s.b 0 refl) full

pub returns : goal.returns
unfolding state_refusal conflicts change
returns c =
    let s = c.args in
    let stored = c.take_from_row.ensures in
    settled_changed
    (given_no _ _ _ (ap not (sym c.is_in_row.ensures ∙ c.if-not-is_in_row.false)) refl
    ∙ decide_unopposed (tables s.book.now) (take_back (number s.table)) s.a s.b 0 refl)
    stored.0 stored.1
