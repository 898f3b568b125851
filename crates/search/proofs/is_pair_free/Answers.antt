use mathlib.Core.Path.{sym, ap, ◌∙◌}
use mathlib.Core.Bool.{not}
use Prim.Native.Nat.{ℕ}
use Rattle.sets.specs.Mask.{bit, meet}
use Rattle.sets.specs.Search.{lowest}
use Rattle.sets.proofs.Logic.{and_in, and_fails_r}
use Rattle.sets.proofs.MaskLaws.{without_old}
use Rattle.sets.proofs.MemberLaws.{lowest_in, seen_on, seen_fails, seen_all}
use Rattle.rules.specs.Audit.{pair_free}
use Rattle.book.specs.Slice.{tables}
use Rattle.search.proofs.is_pair_free.Invariants.{free}
use Rattle.book.specs.Tables.{number}
use Rattle.search.proofs.is_pair_free.Goals as goal

pub returns-then-meets : goal.returns-then-meets
unfolding pair_free
returns-then-meets c =
    let s = c.args in
    let l = c.loop-x in
    let v = c.in-Some.ensures.steps in
    let rows : ℕ → ℕ = (tables s.book.now).row (number s.table) in
    let x = lowest (bit l.x-iterator.left) in
    let met = c.meets.ensures ∙ ap (λ (m : ℕ). meet m s.set) c.row.ensures ∙ ap (λ (k : ℕ). meet (rows k) s.set) v.at in
    sym (seen_fails (free rows s.set) v.some v.fits
    (ap not (and_in (l.invariant.1 x (lowest_in l.x-iterator.left v.some v.fits)) (sym met ∙ c.if-meets.true))))

pub loop-x-preserved : goal.loop-x-preserved
loop-x-preserved c =
    let s = c.args in
    let l = c.loop-x in
    let v = c.in-Some.ensures.steps in
    let rows : ℕ → ℕ = (tables s.book.now).row (number s.table) in
    let x = lowest (bit l.x-iterator.left) in
    let met = c.meets.ensures ∙ ap (λ (m : ℕ). meet m s.set) c.row.ensures ∙ ap (λ (k : ℕ). meet (rows k) s.set) v.at in
    rw v.rest (
      seen_on (free rows s.set) v.some v.fits l.invariant.0 (ap not (and_fails_r (bit s.set x) (meet (rows x) s.set) (sym met ∙ c.if-meets.false))),
      λ k e. l.invariant.1 k (without_old l.x-iterator.left x k e),
    )

pub returns : goal.returns
unfolding pair_free
returns c =
    let s = c.args in
    let l = c.loop-x in
    sym (seen_all (free ((tables s.book.now).row (number s.table)) s.set) (rw c.in-None.ensures.steps.0 at l.invariant.0))
