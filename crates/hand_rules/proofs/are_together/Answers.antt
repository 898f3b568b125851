use mathlib.Core.Path.{sym, ◌∙◌}
use native.Mathlib.Omega.{arith}
use Rattle.sets.proofs.MemberLaws.{seen_on, seen_fails, seen_all}
use Rattle.rules.proofs.BookLaws.{read_sized}
use Rattle.rules.proofs.AuditLaws.{broken_unless, tells_kept}
use Rattle.book.specs.Slice.{words, tables}
use Rattle.hand_rules.specs.Hands.{bound_together}
use Rattle.hand_rules.proofs.TogetherLaws.{undefined_bound, together_exactly}
use borrow.Author.Rules.{rules}
use Rattle.hand_rules.proofs.are_together.Goals as goal

pub loop-u-init : goal.loop-u-init
loop-u-init c k h out =
    let s = c.args in
    let sized = read_sized (words s.book.now) (λ i h. c.fits-book i) in
    let none = rw (c.into_iter-u-iterator.ensures.into_iter_gives, c.each-u-items.ensures, c.head.ensures) at out in
    undefined_bound (tables s.book.now) sized (search rules) k h none

pub returns-then-not-is_bound_together : goal.returns-then-not-is_bound_together
returns-then-not-is_bound_together c =
    let s = c.args in
    let v = c.in-Some.ensures.steps in
    let d = tables s.book.now in
    let sized = read_sized (words s.book.now) (λ i h. c.fits-book i) in
    let e = sym c.is_bound_together.ensures ∙ c.if-not-is_bound_together.true in
    sym (seen_fails (bound_together d) v.some v.fits (rw v.at at e))
    ∙ tells_kept d sized (search rules) 10 (omega arith)
    (together_exactly d sized ((broken_unless d sized (search rules) 2 (omega arith)).means (search rules)))

pub loop-u-preserved : goal.loop-u-preserved
loop-u-preserved c =
    let s = c.args in
    let l = c.loop-u in
    let v = c.in-Some.ensures.steps in
    let e = sym c.is_bound_together.ensures ∙ c.if-not-is_bound_together.false in
    rw v.rest (seen_on (bound_together (tables s.book.now)) v.some v.fits l.invariant (rw v.at at e))

pub returns : goal.returns
returns c =
    let s = c.args in
    let d = tables s.book.now in
    let sized = read_sized (words s.book.now) (λ i h. c.fits-book i) in
    sym (seen_all (bound_together d) (rw c.in-None.ensures.steps.0 at c.loop-u.invariant))
    ∙ tells_kept d sized (search rules) 10 (omega arith)
    (together_exactly d sized ((broken_unless d sized (search rules) 2 (omega arith)).means (search rules)))
