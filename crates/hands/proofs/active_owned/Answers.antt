-- The active word is 0, or is looked up among the roles owned, or names no role.
use mathlib.Core.Path.{sym, ◌∙◌}
use native.Mathlib.Omega.{arith}
use Rattle.rules.proofs.BookLaws.{read_sized}
use Rattle.book.specs.Slice.{words, tables}
use Rattle.hands.proofs.ActiveLaws.{none_active, no_such_role, looked_up}
use Rattle.hands.proofs.active_owned.Goals as goal

pub returns-in-0 : goal.returns-in-0
returns-in-0 c =
    let s = c.args in
    sym (none_active (tables s.book.now) s.subject (sym c.row-e.ensures ∙ c.in-0.is))

pub returns-in-1-to-64 : goal.returns-in-1-to-64
returns-in-1-to-64 c =
    let s = c.args in
    c.owns_role.ensures ∙ looked_up (tables s.book.now) s.subject c.row-e.ensures (λ z. omega arith)

pub returns-in_default : goal.returns-in_default
returns-in_default c =
    let s = c.args in
    let sized = read_sized (words s.book.now) (λ i h. c.fits-book i) in
    sym (no_such_role (tables s.book.now) s.subject sized (omega (arith, c.row-e.ensures)))
