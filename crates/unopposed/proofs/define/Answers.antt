-- Refused where the bit stands; else the mask is stored with it.
use mathlib.Core.Path.{refl, sym, ap, ◌∙◌}
use Prim.Native.Nat.{ℕ}
use native.Mathlib.Omega.{arith}
use Rattle.sets.specs.Mask.{bit, with}
use Rattle.rules.specs.Requests.{define, change}
use Rattle.rules.specs.Numbers.{state_refusal, conflicts}
use Rattle.book.specs.Slice.{tables, Full, with_head}
use Rattle.deeds.proofs.OutcomeLaws.{decide_unopposed, settled_changed, settled_kept}
use Rattle.deeds.proofs.CascadeLaws.{given_yes, given_no}
use Rattle.unopposed.proofs.define.Goals as goal

pub returns-then-has : goal.returns-then-has
unfolding state_refusal conflicts
returns-then-has c =
    let s = c.args in
    let full : Full s.book.now = omega arith in
    let stands = ap (λ (m : ℕ). bit m s.a) (sym c.head-defined.ensures) ∙ sym c.has.ensures ∙ c.if-has.true in
    settled_kept (given_yes _ _ _ stands ∙ decide_unopposed (tables s.book.now) (define s.word) s.a 0 0 refl) full

pub returns : goal.returns
unfolding state_refusal conflicts change
returns c =
    let s = c.args in
    let d = tables s.book.now in
    let mask = c.head-defined.ensures in
    let stands-not = ap (λ (m : ℕ). bit m s.a) (sym mask) ∙ sym
    c.has.ensures ∙ c.if-has.false in
    let stored = c.set_head.ensures in
    settled_changed (given_no _ _ _ stands-not refl ∙ decide_unopposed (tables s.book.now) (define s.word) s.a 0 0 refl) stored.0
    (stored.1 ∙ ap (λ (v : ℕ). with_head s.word v d) (c.add.ensures ∙ ap (λ (m : ℕ). with m s.a) mask))
