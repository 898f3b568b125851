use mathlib.Core.Path.{ap, ◌∙◌}
use Prim.Native.Nat.{ℕ}
use lib.Bits.{bit_and}
use Rattle.sets.specs.Mask.{alone_if, picked}
use Rattle.sets.proofs.MaskLaws.{picked_both}
use Rattle.sets.proofs.MemberLaws.{joined_on, joined_done}
use Rattle.rules.specs.Book.{orders}
use Rattle.rules.specs.Numbers.{in_hand, held_by}
use Rattle.book.specs.Slice.{tables}
use Rattle.hands.proofs.held_among.Goals as goal

pub loop-t-preserved : goal.loop-t-preserved
loop-t-preserved c =
    let s = c.args in
    let l = c.loop-t in
    let v = c.in-Some.ensures.steps in
    rw (c.held_row-held.ensures, v.at, v.rest)
    (joined_on (alone_if (in_hand (tables s.book.now) s.order s.subject)) l.held v.some v.fits l.invariant)

pub returns : goal.returns
unfolding held_by
returns c =
    let s = c.args in
    let l = c.loop-t in
    let d = tables s.book.now in
    let mine = in_hand d s.order s.subject in
    joined_done (alone_if mine) l.held (rw c.in-None.ensures.steps.0 at l.invariant)
    ∙ ap (λ (m : ℕ). picked mine (bit_and m s.those)) c.row.ensures
    ∙ picked_both mine (d.row orders s.order) s.those
