-- Laws of decimal reading: when a number fits 64 bits, and what one byte more does.
use mathlib.Core.Path.{◌≡◌, refl, sym, ap, ◌∙◌}
use mathlib.Core.Bool.{Bool, true, false}
use mathlib.Core.List.{List, ◌∷◌}
use Prim.Native.Nat.{ℕ, ◌+◌, ◌-◌, ◌^◌, ◌≤◌, ◌<◌}
use native.Mathlib.Omega.{arith}
use native.Mathlib.Numerals.{add-one}
use lib.Dec.{ltb}
use lib.ListN.{length, drop, get_or, drop_of_length-le}
use lib.Seq.{drop-cons}
use borrow.Author.Tests.{ltb-true, ltb-false, lt-ltb, le-ltb}
use Rattle.decimal.specs.Decimal.{is_digit, sized, shifted, number_from}
use Rattle.decimal.specs.declared.Unread.{Unread}
use Rattle.decimal.specs.declared.Unread.TheVariants.{TooLarge, NotDecimal}
use Rattle.std.proofs.Common.{Ok, Err, Option, Some, None}
use Rattle.std.specs.Option.{SomeIff, ok_or}
use Rattle.std.specs.Char.{is_ascii_digit}
use Rattle.std.proofs.lemmas.Bool.Decides.{nat_tests}

-- A number below 2 ^ 64 is given as it is.
pub fits : (n : ℕ) → n < 2 ^ 64 → sized n ≡ Ok n
unfolding sized
fits n h = rw (sized, lt-ltb n (2 ^ 64) h)

-- From 2 ^ 64 on it is too large.
pub over : (n : ℕ) → 2 ^ 64 ≤ n → sized n ≡ Err TooLarge
unfolding sized
over n h = rw (sized, le-ltb n (2 ^ 64) h)

-- What is given as a number is that number.
pub given_is : (n v : ℕ) → Ok v ≡ sized n → v ≡ n
given_is n v e = go (ltb n (2 ^ 64)) refl
  where
    go : (t : Bool) → ltb n (2 ^ 64) ≡ t → v ≡ n
    go true q = cc (fits n (ltb-true _ _ q))
    go false q = cc (over n (ltb-false _ _ q))

-- What is checked for 64 bits is given as `sized` gives it.
pub checked : (r : Option ℕ) (n : ℕ) → SomeIff r (n < 2 ^ 64) n → ok_or r TooLarge ≡ sized n
checked (Some v) n h = ap Ok h.1 ∙ sym (fits n h.0)
checked None n h =
    let o : 2 ^ 64 ≤ n = omega arith in
    sym (over n o)

-- Where a number is too large, so is a larger one.
pub larger : (u : Unread) (n m : ℕ) → Err u ≡ sized n → n ≤ m → Err u ≡ sized m
larger u n m f h = go (ltb n (2 ^ 64)) refl
  where
    go : (t : Bool) → ltb n (2 ^ 64) ≡ t → Err u ≡ sized m
    go true q = let z : ◌≡◌ {A = ℕ} 0 1 = cc (f, fits n (ltb-true _ _ q)) in absurd (omega arith)
    go false q =
        let o : 2 ^ 64 ≤ m = omega (arith, ltb-false _ _ q) in
        f ∙ over n (ltb-false _ _ q) ∙ sym (over m o)

-- The digits are those that std knows.
pub known_digit : (b : ℕ) → is_ascii_digit b ≡ is_digit b
unfolding is_digit
known_digit b = grind (arith, nat_tests)

-- A digit's byte lies from 48 to 57: for whoever takes 48 from it.
pub digit_range : (b : ℕ) → is_digit b ≡ true → (48 ≤ b) × (b < 58)
unfolding is_digit
digit_range b e = grind (arith, nat_tests)

module _ (l : List ℕ) (i : ℕ) (h : i < length l) where
  one_more : (n : ℕ) → number_from n (drop i l) ≡ number_from n (get_or l i 0 ∷ drop (i + 1) l)
  one_more n = rw (add-one, drop-cons l i 0)

  -- A digit that stands at i goes behind the number in front.
  pub past_digit : (n : ℕ) → is_digit (get_or l i 0) ≡ true → number_from n (drop i l) ≡ number_from (shifted n (get_or l i 0 - 48)) (drop (i + 1) l)
  unfolding number_from
  past_digit n d = one_more n ∙ rw (number_from, d)

  -- Any other byte that stands at i makes it no number.
  pub no_digit : (n : ℕ) → is_digit (get_or l i 0) ≡ false → number_from n (drop i l) ≡ Err NotDecimal
  unfolding number_from
  no_digit n d = one_more n ∙ rw (number_from, d)

-- Past the last byte the number in front is what is written.
pub at_end : (l : List ℕ) (i n : ℕ) → length l ≤ i → number_from n (drop i l) ≡ sized n
unfolding number_from
at_end l i n h = rw (drop_of_length-le l h)
