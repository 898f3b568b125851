use mathlib.Core.Path.{sym, ◌∙◌}
use native.Mathlib.Omega.{arith}
use Rattle.sets.proofs.MemberLaws.{seen_on, seen_fails, seen_all}
use Rattle.rules.specs.Audit.{kept_at}
use Rattle.rules.proofs.BookLaws.{read_sized}
use Rattle.rules.proofs.AuditLaws.{keeps_exactly, tells_kept}
use Rattle.book.specs.Slice.{words, tables}
use Rattle.audit.proofs.UndefinedLaws.{undefined_kept}
use borrow.Author.Rules.{rules}
use Rattle.audit.proofs.is_kept.Goals as goal

pub loop-x-init : goal.loop-x-init
loop-x-init c k h out =
    let s = c.args in
    let sized = read_sized (words s.book.now) (λ i h. c.fits-book i) in
    let none = rw (c.into_iter-x-iterator.ensures.into_iter_gives, c.each-x-items.ensures, c.asked.ensures) at out in
    undefined_kept (tables s.book.now) sized (search rules) s.rule (omega arith) k none

pub returns-then-not-is_kept_at : goal.returns-then-not-is_kept_at
returns-then-not-is_kept_at c =
    let s = c.args in
    let v = c.in-Some.ensures.steps in
    let d = tables s.book.now in
    let sized = read_sized (words s.book.now) (λ i h. c.fits-book i) in
    let told = rw (c.is_kept_at.ensures, v.at) at c.if-not-is_kept_at.true in
    sym (seen_fails (kept_at d s.rule) v.some v.fits told)
    ∙ tells_kept d sized (search rules) s.rule (omega arith) (keeps_exactly d sized (search rules) s.rule (omega arith))

pub loop-x-preserved : goal.loop-x-preserved
loop-x-preserved c =
    let s = c.args in
    let l = c.loop-x in
    let v = c.in-Some.ensures.steps in
    let e = c.if-not-is_kept_at.false in
    let told = rw (c.is_kept_at.ensures, v.at) at e in
    rw v.rest (seen_on (kept_at (tables s.book.now) s.rule) v.some v.fits l.invariant told)

pub returns : goal.returns
returns c =
    let s = c.args in
    let d = tables s.book.now in
    let sized = read_sized (words s.book.now) (λ i h. c.fits-book i) in
    sym (seen_all (kept_at d s.rule) (rw c.in-None.ensures.steps.0 at c.loop-x.invariant))
    ∙ tells_kept d sized (search rules) s.rule (omega arith) (keeps_exactly d sized (search rules) s.rule (omega arith))
