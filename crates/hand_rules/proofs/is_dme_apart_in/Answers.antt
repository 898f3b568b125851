-- What each subject is noted with, of nothing, is what it holds in the order, and that joins what is held anywhere. An order without tasks is
-- not open.
use mathlib.Core.Path.{◌≡◌, sym, ap, ◌∙◌}
use mathlib.Core.Bool.{Bool, true, false, not}
use Prim.Native.Nat.{ℕ, ◌<◌}
use lib.Dec.{eqb}
use lib.Bits.{bit_or, or_zero_l}
use lib.ListN.{replicate, get_or-replicate}
use borrow.Author.Tests.{eq-eqb, ne_eqb}
use Rattle.rules.specs.Book.{Book, DME}
use Rattle.rules.specs.Requests.{is_open}
use Rattle.rules.specs.Numbers.{held_by}
use Rattle.rules.specs.Audit.{implies}
use Rattle.rules.proofs.BookLaws.{read_sized}
use Rattle.book.specs.Slice.{words, tables}
use Rattle.hand_rules.proofs.ApartLaws.{all_alike, shut_noted, nothing_held}
use Rattle.hand_rules.proofs.is_dme_apart_in.Goals as goal

-- What is asked of an order, by whether it is open.
when-open : (t : Bool) {b : Bool} → b ≡ true → implies b t ≡ t
when-open t e = ap (λ (x : Bool). implies x t) e

when-shut : (t : Bool) {b : Bool} → b ≡ false → implies b t ≡ true
when-shut t e = ap (λ (x : Bool). implies x t) e

-- Of nothing, what subject k is noted with is what it holds in order p.
first-noted : (d : Book) (p k : ℕ) → k < 64 → {v : ℕ} → v ≡ bit_or (words (replicate 64 0) k) (held_by d p k) → v ≡ held_by d p k
first-noted d p k h e = e ∙ ap (λ (m : ℕ). bit_or m (held_by d p k)) (get_or-replicate 64 k 0 0 h) ∙ or_zero_l (held_by d p k)

pub returns-then-row-eq0 : goal.returns-then-row-eq0
unfolding is_open
returns-then-row-eq0 c =
    let s = c.args in
    let sized = read_sized (words s.book.now) (λ i h. c.fits-book i) in
    let shut = ap (λ (m : ℕ). not (eqb m 0)) (sym c.row.ensures) ∙ ap not (eq-eqb _ 0 c.if-row-eq0.true) in
    (sym (when-shut _ shut), λ k h. shut_noted (tables s.book.now) sized s.order k _ h shut)

pub are_free-requires : goal.are_free-requires
are_free-requires c =
    let s = c.args in
    let d = tables s.book.now in
    let sized = read_sized (words s.book.now)
    (λ i h. c.fits-book i) in
    let noted = c.note_order.ensures in
    λ k h out. first-noted d s.order k h (noted k h) ∙ nothing_held d sized c.requires.0.1 s.order k h out

pub returns : goal.returns
unfolding is_open
returns c =
    let s = c.args in
    let d = tables s.book.now in
    let noted = c.note_order.ensures in
    let gathered = c.gather.ensures in
    let opened = ap (λ (m : ℕ). not (eqb m 0)) (sym c.row.ensures)
    ∙ ap not (ne_eqb _ 0 c.if-row-eq0.false) in (
      c.are_free.ensures
          ∙ all_alike (d.row DME) _ (held_by d s.order) (λ k h. first-noted d s.order k h (noted k h))
          ∙ sym (when-open _ opened),
      λ k h. gathered k h ∙ ap (bit_or (words s.anywhere.now k)) (first-noted d s.order k h (noted k h)),
    )
