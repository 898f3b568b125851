use mathlib.Core.Path.{refl, sym, ap, ◌∙◌}
use Prim.Native.Nat.{ℕ}
use native.Mathlib.Omega.{arith}
use Rattle.sets.specs.Mask.{bit}
use Rattle.sets.specs.Search.{lowest, paired}
use Rattle.sets.proofs.MaskLaws.{without_old}
use Rattle.sets.proofs.MemberLaws.{seen_none}
use Rattle.rules.specs.Numbers.{between}
use Rattle.book.specs.Slice.{tables}
use Rattle.search.proofs.PairLaws.{nothing_at, none_outside, pair_at, pair_on, lowest_none}
use Rattle.book.specs.Tables.{number}
use Rattle.search.proofs.first_pair.Goals as goal

pub search-init : goal.search-init
search-init c =
    let s = c.args in
    rw (c.into_iter-x-iterator.ensures.into_iter_gives, c.each-x-items.ensures)
    (λ k e. e, λ k h e. none_outside ((tables s.book.now).row (number s.table)) s.xs s.ys k e, refl)

pub search-preserved : goal.search-preserved
search-preserved c =
    let s = c.args in
    let l = c.search in
    let v = c.in-Some.ensures.steps in
    let inner = c.loop-y in
    let none = sym inner.invariant.0 ∙ c.in-None-y.ensures.steps.0 in
    rw v.rest (
      λ k e. l.invariant.0 k (without_old l.x-iterator.left _ k e),
      pair_on ((tables s.book.now).row (number s.table)) s.xs s.ys v.some v.fits l.invariant.0 v.at refl (lowest_none none) (omega arith) l.invariant.1,
      inner.invariant.1,
    )

pub returns-in-None : goal.returns-in-None
returns-in-None c =
    let s = c.args in
    let l = c.search in
    let f = between ((tables s.book.now).row (number s.table)) s.xs s.ys in
    l.invariant.2 ∙ nothing_at f (seen_none (paired f) (rw c.in-None.ensures.steps.0 at l.invariant.1))

pub returns-in-Some-y : goal.returns-in-Some-y
returns-in-Some-y c =
    let s = c.args in
    let l = c.search in
    let v = c.in-Some.ensures.steps in
    let w = c.in-Some-y.ensures.steps in
    let first = w.at ∙ ap (λ (m : ℕ). lowest (bit m)) c.loop-y.invariant.0 in
    pair_at ((tables s.book.now).row (number s.table)) s.xs s.ys v.some v.fits l.invariant.0 v.at refl first w.below l.invariant.1
