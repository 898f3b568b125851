use mathlib.Core.Path.{sym}
use Rattle.sets.proofs.MemberLaws.{seen_on, seen_fails, seen_all}
use Rattle.book.specs.Slice.{tables}
use Rattle.hand_rules.specs.Hands.{same_hand}
use Rattle.hand_rules.proofs.HandLaws.{alike_none}
use Rattle.hand_rules.proofs.is_together.Goals as goal

pub loop-v-init : goal.loop-v-init
loop-v-init c k h out =
    let s = c.args in
    let none = rw (c.into_iter-v-iterator.ensures.into_iter_gives, c.each-v-items.ensures) at out in
    alike_none s.subjects s.roles k s.own _ none

pub returns-then-not-is_alike : goal.returns-then-not-is_alike
returns-then-not-is_alike c =
    let s = c.args in
    let v = c.in-Some.ensures.steps in
    let e = c.if-not-is_alike.true in
    let told = rw (c.is_alike.ensures, c.cell.ensures, v.at) at e in
    sym (seen_fails (same_hand (tables s.book.now) s.order s.subjects s.roles s.own) v.some v.fits told)

pub loop-v-preserved : goal.loop-v-preserved
loop-v-preserved c =
    let s = c.args in
    let l = c.loop-v in
    let v = c.in-Some.ensures.steps in
    let e = c.if-not-is_alike.false in
    let told = rw (c.is_alike.ensures, c.cell.ensures, v.at) at e in
    rw v.rest (seen_on (same_hand (tables s.book.now) s.order s.subjects s.roles s.own) v.some v.fits l.invariant told)

pub returns : goal.returns
returns c =
    let s = c.args in
    sym (seen_all (same_hand (tables s.book.now) s.order s.subjects s.roles s.own) (rw c.in-None.ensures.steps.0 at c.loop-v.invariant))
