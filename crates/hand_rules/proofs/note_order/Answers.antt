use mathlib.Core.Path.{ap, ◌∙◌}
use Prim.Native.Nat.{ℕ}
use lib.Bits.{bit_or}
use Rattle.sets.specs.Mask.{alone_if, picked}
use Rattle.sets.proofs.MemberLaws.{joined_on, joined_done}
use Rattle.rules.specs.Book.{subject_in}
use Rattle.rules.specs.Numbers.{in_hand, held_by}
use Rattle.rules.proofs.BookLaws.{read_sized}
use Rattle.book.specs.Slice.{words, tables}
use Rattle.hand_rules.proofs.HandLaws.{noted_joins}
use Rattle.rules.proofs.HeldLaws.{hand_le}
use borrow.Author.Rules.{rules}
use Rattle.hand_rules.proofs.note_order.Goals as goal

pub loop-t-init : goal.loop-t-init
unfolding held_by
loop-t-init c k h =
    let s = c.args in
    let row = c.each-t-items.ensures ∙ c.row.ensures in
    rw c.into_iter-t-iterator.ensures.into_iter_gives
    (ap (λ (m : ℕ). bit_or (words s.held.now k) (picked (in_hand (tables s.book.now) s.order k) m)) row)

pub note-requires : goal.note-requires
note-requires c =
    let s = c.args in
    let sized = read_sized (words s.book.now) (λ i h. c.fits-book i) in (
      rw (c.subject_in.ensures, c.cell.ensures) (hand_le (tables s.book.now) sized (search rules) s.order c.in-Some.t),
      c.in-Some.ensures.steps.below,
    )

pub loop-t-preserved : goal.loop-t-preserved
loop-t-preserved c k h =
    let s = c.args in
    let l = c.loop-t in
    let v = c.in-Some.ensures.steps in
    let d = tables s.book.now in
    let hand = c.subject_in.ensures ∙ ap subject_in c.cell.ensures in
    ap (λ (m : ℕ). bit_or m (picked (in_hand d s.order k) c.next.new.self.left))
    (c.note.ensures k ∙ noted_joins _ _ k (words l.held k))
    ∙ rw (hand, v.at, v.rest) (joined_on (alone_if (in_hand d s.order k)) (words l.held k) v.some v.fits (l.invariant k h))

pub returns : goal.returns
returns c k h =
    let s = c.args in
    let l = c.loop-t in
    let done = rw c.in-None.ensures.steps.0 at l.invariant in
    joined_done (alone_if (in_hand (tables s.book.now) s.order k)) (words l.held k) (done k h)
