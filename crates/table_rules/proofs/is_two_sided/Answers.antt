use mathlib.Core.Path.{sym, ap, ◌∙◌}
use Prim.Native.Nat.{ℕ}
use Rattle.sets.specs.Mask.{bit}
use Rattle.sets.specs.Search.{lowest}
use Rattle.sets.proofs.MaskLaws.{without_old}
use Rattle.sets.proofs.MemberLaws.{lowest_in, seen_on, seen_fails, seen_all}
use Rattle.rules.specs.Audit.{two_sided, symmetric}
use Rattle.book.specs.Tables.{number}
use Rattle.book.specs.Slice.{tables}
use Rattle.table_rules.proofs.RuleLaws.{not_asked, two_sided_seen}
use Rattle.table_rules.proofs.is_two_sided.Goals as goal

pub loop-v-init : goal.loop-v-init
loop-v-init c =
    let s = c.args in
    rw (c.into_iter-v-iterator.ensures.into_iter_gives, c.each-v-items.ensures, c.row.ensures)
    (λ k e. e, λ k h e. not_asked ((tables s.book.now).row (number s.table)) s.u k e)

pub returns-then-not-is_in_row : goal.returns-then-not-is_in_row
unfolding symmetric
returns-then-not-is_in_row c =
    let s = c.args in
    let l = c.loop-v in
    let v = c.in-Some.ensures.steps in
    let rows = (tables s.book.now).row (number s.table) in
    let there = l.invariant.0 _ (lowest_in l.v-iterator.left v.some v.fits) in
    let back = c.is_in_row.ensures ∙ ap (λ (x : ℕ). bit (rows x) s.u) v.at in
    sym (seen_fails (two_sided rows s.u) v.some v.fits
    (two_sided_seen rows s.u (lowest (bit l.v-iterator.left)) there back c.if-not-is_in_row.true))

pub loop-v-preserved : goal.loop-v-preserved
loop-v-preserved c =
    let s = c.args in
    let l = c.loop-v in
    let v = c.in-Some.ensures.steps in
    let rows = (tables s.book.now).row (number s.table) in
    let there = l.invariant.0 _ (lowest_in l.v-iterator.left v.some v.fits) in
    let back = c.is_in_row.ensures ∙ ap (λ (x : ℕ). bit (rows x) s.u) v.at in
    rw v.rest (
      λ k e. l.invariant.0 k (without_old l.v-iterator.left _ k e),
      seen_on (two_sided rows s.u) v.some v.fits l.invariant.1
          (two_sided_seen rows s.u (lowest (bit l.v-iterator.left)) there back c.if-not-is_in_row.false),
    )

pub returns : goal.returns
unfolding symmetric
returns c =
    let s = c.args in
    sym (seen_all (two_sided ((tables s.book.now).row (number s.table)) s.u) (rw c.in-None.ensures.steps.0 at c.loop-v.invariant.1))
