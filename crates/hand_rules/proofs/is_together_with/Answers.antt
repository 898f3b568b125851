use mathlib.Core.Path.{sym, ◌∙◌}
use mathlib.Core.Bool.{Bool}
use Prim.Native.Nat.{ℕ}
use Rattle.sets.proofs.MemberLaws.{seen_on, seen_fails, seen_all}
use Rattle.book.specs.Slice.{tables}
use Rattle.hand_rules.specs.Hands.{together_in}
use Rattle.hand_rules.proofs.OpenLaws.{not_open}
use Rattle.hand_rules.proofs.TogetherLaws.{together_nowhere}
use Rattle.hand_rules.proofs.is_together_with.Goals as goal

pub loop-order-init : goal.loop-order-init
loop-order-init c p l out =
    let s = c.args in
    let d = tables s.book.now in
    let none = rw (c.into_iter-order-iterator.ensures.into_iter_gives, c.each-order-items.ensures) at out in
    together_nowhere d s.subjects s.roles s.u p (not_open d s.opened c.requires.0 p l none)

pub returns-then-not-is_together_in : goal.returns-then-not-is_together_in
returns-then-not-is_together_in c =
    let s = c.args in
    let v = c.in-Some.ensures.steps in
    let e = sym c.is_together_in.ensures ∙ c.if-not-is_together_in.true in
    let f : ℕ → Bool = together_in (tables s.book.now) s.subjects s.roles s.u in
    sym (seen_fails f v.some v.fits (rw v.at at e))

pub loop-order-preserved : goal.loop-order-preserved
loop-order-preserved c =
    let s = c.args in
    let l = c.loop-order in
    let v = c.in-Some.ensures.steps in
    let e = sym c.is_together_in.ensures ∙ c.if-not-is_together_in.false in
    let f : ℕ → Bool = together_in (tables s.book.now) s.subjects s.roles s.u in
    rw v.rest (seen_on f v.some v.fits l.invariant (rw v.at at e))

pub returns : goal.returns
returns c =
    let s = c.args in
    sym (seen_all (together_in (tables s.book.now) s.subjects s.roles s.u) (rw c.in-None.ensures.steps.0 at c.loop-order.invariant))
