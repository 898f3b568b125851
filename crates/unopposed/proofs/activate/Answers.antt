-- Refused where the role is not owned; else the active word is stored.
use mathlib.Core.Path.{refl, sym, ap, ◌∙◌}
use mathlib.Core.Bool.{not}
use Prim.Native.Nat.{ℕ}
use native.Mathlib.Omega.{arith}
use native.Mathlib.Numerals.{add-one}
use Rattle.rules.specs.Book.{active}
use Rattle.rules.specs.Requests.{activate, change}
use Rattle.rules.specs.Numbers.{state_refusal, conflicts}
use Rattle.book.specs.Slice.{tables, Full, with_row}
use Rattle.deeds.proofs.OutcomeLaws.{decide_unopposed, settled_changed, settled_kept}
use Rattle.deeds.proofs.CascadeLaws.{given_yes, given_no}
use Rattle.unopposed.proofs.activate.Goals as goal

pub returns-then-not-owns_role : goal.returns-then-not-owns_role
unfolding state_refusal conflicts
returns-then-not-owns_role c =
    let s = c.args in
    let full : Full s.book.now = omega arith in
    settled_kept
    (given_yes _ _ _ (ap not (sym c.owns_role.ensures ∙ c.if-not-owns_role.true))
    ∙ decide_unopposed (tables s.book.now) activate s.a s.b 0 refl) full

pub returns : goal.returns
unfolding state_refusal conflicts change
returns c =
    let s = c.args in
    let d = tables s.book.now in
    let stored = c.set_row.ensures in
    settled_changed
    (given_no _ _ _ (ap not (sym c.owns_role.ensures ∙ c.if-not-owns_role.false)) refl
    ∙ decide_unopposed (tables s.book.now) activate s.a s.b 0 refl)
    stored.0
    (stored.1 ∙ ap (λ (v : ℕ). with_row active s.b v d) (add-one s.a))
