-- 27 is told, or 28, or neither. The role groups come from the subject groups.
use mathlib.Core.Path.{refl}
use mathlib.Core.List.{[], ◌∷◌}
use native.Mathlib.Omega.{arith}
use Rattle.rules.proofs.BookLaws.{read_sized}
use Rattle.rules.specs.Numbers.{dme_between_groups, first_of}
use Rattle.book.specs.Slice.{words, tables}
use Rattle.bindings.proofs.BindingLaws.{between_told, between_none, sme_around, dme_groups}
use Rattle.bindings.proofs.groups_conflict.Goals as goal

pub returns-in-Some : goal.returns-in-Some
returns-in-Some c =
    let s = c.args in
    let d = tables s.book.now in
    let sized = read_sized (words s.book.now) (λ i h. c.fits-book i) in
    let of-a = c.subject_group-xs.ensures in
    let of-b = c.subject_group-ys.ensures in
    sme_around d s.a s.b _ sized (omega arith) (omega arith) of-a of-b c.bound_with-wide_xs.ensures c.bound_with-wide_ys.ensures
    (between_told _ 27 _ _ _ c.first_pair.ensures c.in-Some.is)

pub returns-in-Some-first_pair : goal.returns-in-Some-first_pair
returns-in-Some-first_pair c =
    let s = c.args in
    let d = tables s.book.now in
    let sized = read_sized (words s.book.now) (λ i h. c.fits-book i) in
    let of-a = c.subject_group-xs.ensures in
    let of-b = c.subject_group-ys.ensures in
    sme_around d s.a s.b _ sized (omega arith) (omega arith) of-a of-b c.bound_with-wide_xs.ensures c.bound_with-wide_ys.ensures
    (between_none _ 27 _ _ _ c.first_pair.ensures c.in_default.is
    (dme_groups d s.a s.b _ of-a of-b (between_told _ 28 _ _ _ c.first_pair-2.ensures c.in-Some-first_pair.is)))

pub returns : goal.returns
unfolding first_of
returns c =
    let s = c.args in
    let d = tables s.book.now in
    let sized = read_sized (words s.book.now) (λ i h. c.fits-book i) in
    let of-a = c.subject_group-xs.ensures in
    let of-b = c.subject_group-ys.ensures in
    sme_around d s.a s.b (dme_between_groups ∷ []) sized (omega arith) (omega arith) of-a of-b c.bound_with-wide_xs.ensures c.bound_with-wide_ys.ensures
    (between_none _ 27 _ _ _ c.first_pair.ensures c.in_default.is
    (dme_groups d s.a s.b [] of-a of-b (between_none _ 28 _ _ _ c.first_pair-2.ensures c.in_default-first_pair.is refl)))
