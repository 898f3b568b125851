use mathlib.Core.Path.{sym, ap, ◌∙◌}
use Rattle.sets.proofs.MemberLaws.{seen_on, seen_fails, seen_all}
use Rattle.rules.specs.Audit.{pair_free}
use Rattle.book.specs.Tables.{number}
use Rattle.book.specs.Slice.{tables}
use Rattle.hand_rules.proofs.ApartLaws.{free_none}
use Rattle.hand_rules.proofs.are_free.Invariants.{asked}
use Rattle.hand_rules.proofs.are_free.Goals as goal

pub loop-s-init : goal.loop-s-init
loop-s-init c k h out =
    let s = c.args in
    let rows = (tables s.book.now).row (number s.table) in
    let none = rw (c.into_iter-s-iterator.ensures.into_iter_gives, c.each-s-items.ensures, c.head.ensures) at out in
    ap (pair_free rows) (c.requires k h none) ∙ free_none rows

pub returns-then-not-is_pair_free : goal.returns-then-not-is_pair_free
returns-then-not-is_pair_free c =
    let s = c.args in
    let v = c.in-Some.ensures.steps in
    let e = sym c.is_pair_free.ensures ∙ c.if-not-is_pair_free.true in
    sym (seen_fails (asked ((tables s.book.now).row (number s.table)) s.held.now) v.some v.fits (rw v.at at e))

pub loop-s-preserved : goal.loop-s-preserved
loop-s-preserved c =
    let s = c.args in
    let l = c.loop-s in
    let v = c.in-Some.ensures.steps in
    let e = sym c.is_pair_free.ensures ∙ c.if-not-is_pair_free.false in
    rw v.rest (seen_on (asked ((tables s.book.now).row (number s.table)) s.held.now) v.some v.fits l.invariant (rw v.at at e))

pub returns : goal.returns
returns c =
    let s = c.args in
    sym (seen_all (asked ((tables s.book.now).row (number s.table)) s.held.now) (rw c.in-None.ensures.steps.0 at c.loop-s.invariant))
