-- Rule 9 by who holds what: it is kept exactly where no subject holds an SME pair in all orders together, nor in one order a DME pair.
use mathlib.Core.Path.{◌≡◌, sym, ap, ◌∙◌}
use mathlib.Core.Bool.{Bool, true, false, ◌&&◌, not}
use Prim.Native.Nat.{ℕ, suc, ◌+◌, ◌-◌, ◌^◌, ◌<◌}
use native.Mathlib.Omega.{arith}
use lib.Bits.{bit_or, or_zero_r}
use Rattle.sets.specs.Mask.{bit, only, joined}
use Rattle.sets.specs.Search.{all}
use Rattle.sets.proofs.Logic.{and_fails_l, not_both}
use Rattle.sets.proofs.MaskLaws.{bit_none, in_full, none_zero}
use Rattle.sets.proofs.SearchLaws.{all_in}
use Rattle.rules.specs.Book.{Book, subjects, SME, DME}
use Rattle.rules.specs.Requests.{is_open}
use Rattle.rules.specs.Numbers.{held_by}
use Rattle.rules.specs.Audit.{pair_free, held_anywhere, hands_apart, rules, kept_at, broken}
use Rattle.rules.specs.Meaning.{Sized, Formed}
use Rattle.rules.proofs.Exactly.{itself, exactly_same, exactly_as, exactly_and, exactly_implies, exactly_all}
use Rattle.rules.proofs.HeldLaws.{held_shows, held_open, anywhere_shows}
use Rattle.rules.proofs.AuditLaws.{not_not}
use Rattle.hand_rules.specs.Hands.{sme_apart, dme_apart}

-- The empty set holds no pair.
pub free_none : (rows : ℕ → ℕ) → pair_free rows 0 ≡ true
unfolding pair_free
free_none rows = all_in 64 _ (λ u l. ap not (and_fails_l (bit 0 u) _ (bit_none u)))

-- What is held in the orders below p, with what is held in p, is what is held in the orders up to p.
pub anywhere_on : (rows : ℕ → ℕ) (p : ℕ) → p < 64 → bit_or (joined p rows (2 ^ 64 - 1)) (rows p) ≡ joined (p + 1) rows (2 ^ 64 - 1)
unfolding joined
anywhere_on rows p h =
    let next : suc p ≡ p + 1 = omega arith in
    ap (λ (t : Bool). bit_or (joined p rows (2 ^ 64 - 1)) (only t (rows p))) (sym (in_full p h)) ∙ ap (λ (n : ℕ). joined n rows (2 ^ 64 - 1)) next

-- What is asked of what each of 64 holds is the same where it holds the same.
pub all_alike : (rows : ℕ → ℕ) (f g : ℕ → ℕ) → ((k : ℕ) → k < 64 → f k ≡ g k) → all 64 (λ k. pair_free rows (f k)) ≡ all 64 (λ k. pair_free rows (g k))
all_alike rows f g same =
    exactly_same
    (exactly_all 64 _ (λ k h. itself (pair_free rows (f k))))
    (exactly_as (λ q k h. ap (pair_free rows) (same k h) ∙ q k h) (λ q k h. sym (ap (pair_free rows) (same k h)) ∙ q k h)
    (exactly_all 64 _ (λ k h. itself (pair_free rows (g k)))))

module _ (d : Book) (s : Sized d) where
  -- In an order that is not open nothing is held, so what is noted stays as it is.
  pub shut_noted : (p k v : ℕ) → k < 64 → is_open d p ≡ false → v ≡ bit_or v (held_by d p k)
  shut_noted p k v h shut =
      sym (ap (bit_or v) (sym (held_open d s p k h) ∙ ap (λ (b : Bool). only b (held_by d p k)) shut) ∙ or_zero_r v)

  -- Who is undefined holds nothing, neither in one order ..
  pub nothing_held : Formed d → (p c : ℕ) → c < 64 → bit (subjects d) c ≡ false → held_by d p c ≡ 0
  nothing_held f p c h out =
      none_zero (held_by d p c) ((held_shows d s p).fits c h)
      (λ t i. not_both _ ((f.cells_formed p t).subject c (((held_shows d s p).says c t h).means i).1).0 out)

  -- .. nor in all together.
  pub nothing_anywhere : Formed d → (c : ℕ) → c < 64 → bit (subjects d) c ≡ false → held_anywhere d c ≡ 0
  nothing_anywhere f c h out = none_zero (held_anywhere d c) ((anywhere_shows d s).fits c h) (λ t i.
      let x = ((anywhere_shows d s).says c t h).means i in
      not_both _ ((f.cells_formed x.0 t).subject c x.1.1).0 out)

-- Both halves of the rule say what it says of each subject.
pub apart_kept : (d : Book) → (sme_apart d && dme_apart d) ≡ not (broken d 9)
unfolding sme_apart dme_apart broken kept_at rules hands_apart
apart_kept d =
    exactly_same
    (exactly_and (exactly_all 64 _ (λ c h. itself _))
    (exactly_all 64 _ (λ p hp. exactly_implies (itself (is_open d p)) (exactly_all 64 _ (λ c h. itself _)))))
    (exactly_as (λ (f : Each). (λ c h. (f c h).0, λ p hp q c h. (f c h).1 p hp q)) (λ f c h. (f.0 c h, λ p hp q. f.1 p hp q c h))
    (exactly_all 64 _ (λ c h. exactly_and (itself _) (exactly_all 64 _ (λ p hp. exactly_implies (itself (is_open d p)) (itself _))))))
    ∙ not_not (all 64 (kept_at d 9))
  where
    -- what the rule asks of each subject
    Each : Type 0
    Each =
        (c : ℕ) → c < 64 → (pair_free (d.row SME) (held_anywhere d c) ≡ true)
        × ((p : ℕ) → p < 64 → is_open d p ≡ true → pair_free (d.row DME) (held_by d p c) ≡ true)
