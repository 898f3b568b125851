-- What it means that no argument is at fault: the answer 4 is not given, and what names a number is below 64.
use mathlib.Core.Path.{◌≡◌, refl, sym, ap, ◌∙◌}
use mathlib.Core.Bool.{Bool, true, false, not}
use mathlib.Core.List.{List, [], ◌∷◌, map}
use Prim.Native.Nat.{ℕ, zero, suc, ◌<◌}
use native.Mathlib.Omega.{arith}
use lib.Dec.{eqb}
use lib.ListN.{get_or}
use borrow.Author.Tests.{eq-eqb, ne_eqb, not-true, not-false}
use Rattle.rules.specs.Book.{Book}
use Rattle.rules.specs.Requests.{Needs, unused, in_range, a_task, a_role, a_subject, an_open_order, a_task_mask, Row, row_of, fits}
use Rattle.rules.specs.Numbers.{Said, say_x, given, argument_fault}
use Rattle.rules.proofs.BookLaws.{chosen, unchosen}
use Rattle.rules.proofs.ChangeLaws.{asks_number, fits_lt}
use Rattle.ask.specs.declared.Argument.{Argument}
use Rattle.ask.specs.declared.Row.{Row as Read}
use Rattle.ask.specs.Arguments.{need_of, argument_of, asked, first_failing, fault_of}

-- What is read of a list's image is the image of what is read of the list.
pub get_d_map : {A B : Type 0} (f : A → B) (l : List A) (i : ℕ) (x : A) → get_or (map f l) i (f x) ≡ f (get_or l i x)
get_d_map f [] i x = refl
get_d_map f (y ∷ l) zero x = refl
get_d_map f (y ∷ l) (suc i) x = get_d_map f l i x

-- Each need is asked by a case of the code.
need_argument : (n : Needs) → need_of (argument_of n) ≡ n
need_argument unused = refl
need_argument in_range = refl
need_argument a_task = refl
need_argument a_role = refl
need_argument a_subject = refl
need_argument an_open_order = refl
need_argument a_task_mask = refl

-- What the code finds of an argument holds of the need that it stands for.
as_asked : (d : Book) (x : Argument) (n : Needs) (v : ℕ) (t : Bool) → x ≡ argument_of n → t ≡ fits d (need_of x) v → fits d n v ≡ t
as_asked d x n v t e f = sym (f ∙ ap (λ (y : Argument). fits d (need_of y) v) e ∙ ap (λ (m : Needs). fits d m v) (need_argument n))

-- The place of the first that fails of three tests, as 4 is given with it.
first_of : (p q r : Bool) (rest : Said)
    → given (not p) (say_x 4 1) (given (not q) (say_x 4 2) (given (not r) (say_x 4 3) rest))
    ≡ given (not (eqb (first_failing p q r) 0)) (say_x 4 (first_failing p q r)) rest
unfolding given
first_of true true true rest = refl
first_of true true false rest = refl
first_of true false r rest = refl
first_of false q r rest = refl

-- Where none fails, all three hold.
all_three : (p q r : Bool) → first_failing p q r ≡ 0 → (p ≡ true) × (q ≡ true) × (r ≡ true)
all_three true true true e = (refl, refl, refl)
all_three true true false e = absurd (omega arith)
all_three true false r e = absurd (omega arith)
all_three false q r e = absurd (omega arith)

module _ (d : Book) (row : Row) (a b c : ℕ) where
  -- 4 is given where an argument is at fault, and x is its place.
  fault_told : (rest : Said) → argument_fault d row a b c rest ≡ given (not (eqb (fault_of d row a b c) 0)) (say_x 4 (fault_of d row a b c)) rest
  unfolding argument_fault fault_of
  fault_told rest = first_of (fits d row.a a) (fits d row.b b) (fits d row.c c) rest

  -- Where none is at fault, the rest answers.
  pub no_fault : (rest : Said) → fault_of d row a b c ≡ 0 → argument_fault d row a b c rest ≡ rest
  unfolding given
  no_fault rest e = fault_told rest ∙ unchosen _ _ (not (eqb (fault_of d row a b c) 0)) (ap not (eq-eqb _ 0 e))

  -- Where one is, it is told.
  pub at_fault : (rest : Said) → (fault_of d row a b c ≡ 0 → ⊥) → argument_fault d row a b c rest ≡ say_x 4 (fault_of d row a b c)
  unfolding given
  at_fault rest n = fault_told rest ∙ chosen _ _ (not (eqb (fault_of d row a b c) 0)) (ap not (ne_eqb _ 0 n))

  -- Where none is at fault, each is what it must be.
  all_fit : fault_of d row a b c ≡ 0 → (fits d row.a a ≡ true) × (fits d row.b b ≡ true) × (fits d row.c c ≡ true)
  unfolding fault_of
  all_fit e = all_three (fits d row.a a) (fits d row.b b) (fits d row.c c) e

-- What the code has read of the row and of the arguments, in the order a, b, c, says which is the first at fault.
module _ (d : Book) (k a b c : ℕ) {row : Read} (is_row : row ≡ asked (row_of k)) {p : Bool} (first : p ≡ fits d (need_of row.0) a) where
  fits_first : (t : Bool) → p ≡ t → fits d (row_of k).a a ≡ t
  fits_first t e = as_asked d _ _ a p (ap (λ (r : Read). r.0) is_row) first ∙ e

  pub first_at_fault : not p ≡ true → fault_of d (row_of k) a b c ≡ 1
  unfolding fault_of
  first_at_fault e = rw (fits_first false (not-true p e))

  module _ (fine : not p ≡ false) {q : Bool} (second : q ≡ fits d (need_of row.1) b) where
    fits_second : (t : Bool) → q ≡ t → fits d (row_of k).b b ≡ t
    fits_second t e = as_asked d _ _ b q (ap (λ (r : Read). r.1) is_row) second ∙ e

    pub second_at_fault : not q ≡ true → fault_of d (row_of k) a b c ≡ 2
    unfolding fault_of
    second_at_fault e = rw (fits_first true (not-false p fine), fits_second false (not-true q e))

    module _ (fine' : not q ≡ false) {r : Bool} (third : r ≡ fits d (need_of row.2) c) where
      fits_third : (t : Bool) → r ≡ t → fits d (row_of k).c c ≡ t
      fits_third t e = as_asked d _ _ c r (ap (λ (r : Read). r.2) is_row) third ∙ e

      pub third_at_fault : not r ≡ true → fault_of d (row_of k) a b c ≡ 3
      unfolding fault_of
      third_at_fault e = rw (fits_first true (not-false p fine), fits_second true (not-false q fine'), fits_third false (not-true r e))

      pub none_at_fault : not r ≡ false → fault_of d (row_of k) a b c ≡ 0
      unfolding fault_of
      none_at_fault e = rw (fits_first true (not-false p fine), fits_second true (not-false q fine'), fits_third true (not-false r e))

-- Where none is at fault, what a row asks to be a number is below 64.
module _ (d : Book) (k a b c : ℕ) (e : fault_of d (row_of k) a b c ≡ 0) where
  pub a_below : asks_number (row_of k).a ≡ true → a < 64
  a_below n = fits_lt d (row_of k).a a n (all_fit d (row_of k) a b c e).0

  pub b_below : asks_number (row_of k).b ≡ true → b < 64
  b_below n = fits_lt d (row_of k).b b n (all_fit d (row_of k) a b c e).1

  pub c_below : asks_number (row_of k).c ≡ true → c < 64
  c_below n = fits_lt d (row_of k).c c n (all_fit d (row_of k) a b c e).2
