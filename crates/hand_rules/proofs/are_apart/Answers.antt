use mathlib.Core.Path.{◌≡◌, refl, sym, ap, ap₂, ◌∙◌}
use mathlib.Core.Bool.{Bool, true, false, ◌&&◌}
use Prim.Native.Nat.{ℕ, ◌≤◌}
use native.Mathlib.Omega.{arith}
use lib.Bits.{bit_or}
use lib.ListN.{get_or-replicate}
use Rattle.sets.specs.Mask.{joined}
use Rattle.sets.specs.Search.{all}
use Rattle.sets.proofs.Logic.{and_fails_r}
use Rattle.sets.proofs.SearchLaws.{all_on, all_fails, all_done}
use Rattle.rules.specs.Book.{Book, SME}
use Rattle.rules.specs.Audit.{held_anywhere}
use Rattle.rules.proofs.BookLaws.{read_sized}
use Rattle.rules.proofs.HeldLaws.{held_open}
use Rattle.book.specs.Slice.{words, tables}
use Rattle.hand_rules.specs.Hands.{sme_apart, dme_apart_in, dme_apart}
use Rattle.hand_rules.proofs.ApartLaws.{anywhere_on, all_alike, nothing_anywhere, apart_kept}
use borrow.Author.Rules.{rules}
use Rattle.hand_rules.proofs.are_apart.Invariants.{held_in, held_below}
use Rattle.hand_rules.proofs.are_apart.Goals as goal

-- Below 64 are all of them.
all-orders : (d : Book) (p k : ℕ) → 64 ≤ p → p ≤ 64 → {v : ℕ} → v ≡ held_below d p k → v ≡ held_anywhere d k
unfolding held_anywhere
all-orders d p k h l e = let end : p ≡ 64 = omega arith in e ∙ ap (λ (n : ℕ). held_below d n k) end

-- Where the second half holds, the first decides.
and_first : (s t : Bool) → t ≡ true → s ≡ (s && t)
and_first true t e = sym e
and_first false t e = refl

pub loop-order-init : goal.loop-order-init
unfolding joined all
loop-order-init c = (omega arith, refl, λ k h. get_or-replicate 64 k 0 0 h)

pub returns-then-not-is_dme_apart_in : goal.returns-then-not-is_dme_apart_in
unfolding dme_apart
returns-then-not-is_dme_apart_in c =
    let d = tables c.args.book.now in
    let l = c.loop-order in
    let fails = all_fails (dme_apart_in d) {i = l.order} 64 (omega arith) (sym c.is_dme_apart_in.ensures.0 ∙ c.if-not-is_dme_apart_in.true) in
    sym (and_fails_r (sme_apart d) _ fails) ∙ apart_kept d

pub loop-order-preserved : goal.loop-order-preserved
loop-order-preserved c =
    let s = c.args in
    let d = tables s.book.now in
    let sized = read_sized (words s.book.now) (λ i h. c.fits-book i) in
    let l = c.loop-order in
    let told = c.is_dme_apart_in.ensures in (
      omega arith,
      all_on (dme_apart_in d) l.invariant.1 (sym told.0 ∙ c.if-not-is_dme_apart_in.false),
      λ k h.
          told.1 k h ∙ ap₂ bit_or (l.invariant.2 k h) (sym (held_open d sized l.order k h)) ∙ anywhere_on (held_in d k) l.order (omega arith),
    )

pub are_free-requires : goal.are_free-requires
are_free-requires c =
    let s = c.args in
    let d = tables s.book.now in
    let sized = read_sized (words s.book.now) (λ i h. c.fits-book i) in
    let l = c.loop-order in
    λ k h out. all-orders d l.order k (omega arith) l.invariant.0 (l.invariant.2 k h) ∙ nothing_anywhere d sized (search rules) k h out

pub returns : goal.returns
unfolding sme_apart dme_apart
returns c =
    let d = tables c.args.book.now in
    let l = c.loop-order in
    c.are_free.ensures
    ∙ all_alike (d.row SME) _ (held_anywhere d) (λ k h. all-orders d l.order k (omega arith) l.invariant.0 (l.invariant.2 k h))
    ∙ and_first _ _ (all_done (dme_apart_in d) 64 (omega arith) (omega arith) l.invariant.1)
    ∙ apart_kept d
