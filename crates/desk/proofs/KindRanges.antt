-- What each kind of the one table does: a deed that was settled is the deed of its kind, whatever the unused arguments are.
use mathlib.Core.Path.{◌≡◌, refl, sym, ap, subst}
use mathlib.Core.Bool.{true}
use mathlib.Core.List.{List}
use Prim.Native.Nat.{ℕ, ◌+◌, ◌-◌, ◌≤◌, ◌<◌}
use native.Mathlib.Omega.{arith}
use Rattle.sets.specs.Search.{all}
use Rattle.rules.specs.Book.{Book}
use Rattle.rules.specs.Requests.{Deed, nothing, define, relate, assign, activate, open_order, close_order, take_back, unrelate, Row, table, row_of, change}
use Rattle.rules.specs.Numbers.{or_else, state_refusal, conflicts, first_of}
use Rattle.rules.proofs.ChangeLaws.{asks_number}
use Rattle.rules.proofs.TableLaws.{kinds_from, deeds_from, no_kind_past}
use Rattle.book.specs.Slice.{Full}
use Rattle.std.specs.Prelude.{Err}
use Rattle.answers.specs.declared.Refusal.TheVariants.{UnknownKind}
use Rattle.answers.specs.Answers.{Answer}
use Rattle.deeds.specs.Outcome.{decide, Settled}
use Rattle.deeds.proofs.OutcomeLaws.{settled_for, settled_kept}
use Rattle.ask.specs.Arguments.{fault_of}
use Rattle.ask.proofs.ArgumentLaws.{a_below, b_below, c_below}
use Rattle.desk.specs.Tables.{staff_tables, staff_table}

-- Arguments that fit are below 64 where n kinds from i on, k among them, all ask for a number: one test of their rows says so.
module _ (d : Book) (k a b c : ℕ) (fit : fault_of d (row_of k) a b c ≡ 0) (i n : ℕ) (l : i ≤ k) (h : k < i + n) where
  pub a_lt : all n (λ j. asks_number (row_of (i + j)).a) ≡ true → a < 64
  a_lt e = a_below d k a b c fit (kinds_from i n (λ k. asks_number (row_of k).a) e k l h)

  pub b_lt : all n (λ j. asks_number (row_of (i + j)).b) ≡ true → b < 64
  b_lt e = b_below d k a b c fit (kinds_from i n (λ k. asks_number (row_of k).b) e k l h)

  pub c_lt : all n (λ j. asks_number (row_of (i + j)).c) ≡ true → c < 64
  c_lt e = c_below d k a b c fit (kinds_from i n (λ k. asks_number (row_of k).c) e k l h)

-- The request of kind k with the arguments a, b, c was settled.
abbrev OfKind : List ℕ → List ℕ → ℕ → ℕ → ℕ → Answer → ℕ → Type 0
OfKind before after a b c r k = Settled before after (row_of k).deed a b c r

module _ {before after : List ℕ} {a b c : ℕ} {r : Answer} where
  -- The deed of kind k was settled.
  of_kind : (k : ℕ) {deed : Deed} → (row_of k).deed ≡ deed → Settled before after deed a b c r → OfKind before after a b c r k
  of_kind k e s = subst (λ (x : Deed). Settled before after x a b c r) (sym e) s

  -- Kinds 1 to 3.
  pub from_define : (k : ℕ) → 1 ≤ k → k < 4 → Settled before after (define (k - 1)) a 0 0 r → OfKind before after a b c r k
  unfolding all row_of table decide state_refusal conflicts first_of change
  from_define k l h s = of_kind k (deeds_from 1 3 define refl k l h) (settled_for refl refl s)

  -- Kinds 4 to 7.
  pub from_relate : (k : ℕ) → 4 ≤ k → k < 8 → Settled before after (relate (k - 4)) a b 0 r → OfKind before after a b c r k
  unfolding all row_of table decide state_refusal conflicts change
  from_relate k l h s = of_kind k (deeds_from 4 4 relate refl k l h) (settled_for refl refl s)

  -- Kinds 8 to 10.
  pub from_assign : (k : ℕ) → 8 ≤ k → k < 11 → Settled before after (assign (staff_table (k - 8))) a b 0 r → OfKind before after a b c r k
  unfolding all row_of table staff_tables staff_table decide state_refusal conflicts change
  from_assign k l h s = of_kind k (deeds_from 8 3 (λ i. assign (staff_table i)) refl k l h) (settled_for refl refl s)

  -- Kind 11.
  pub from_activate : Settled before after activate a b 0 r → OfKind before after a b c r 11
  unfolding row_of table decide state_refusal conflicts change
  from_activate = settled_for refl refl

  -- Kind 12.
  pub from_open : Settled before after open_order a 0 c r → OfKind before after a b c r 12
  unfolding row_of table decide state_refusal conflicts first_of change
  from_open = settled_for refl refl

  -- Kind 14.
  pub from_close : Settled before after close_order a 0 0 r → OfKind before after a b c r 14
  unfolding row_of table decide state_refusal conflicts first_of change
  from_close = settled_for refl refl

  -- Kinds 15 to 17.
  pub from_take_back : (k : ℕ) → 15 ≤ k → k < 18 → Settled before after (take_back (staff_table (k - 15))) a b 0 r → OfKind before after a b c r k
  unfolding all row_of table staff_tables staff_table decide state_refusal conflicts first_of change
  from_take_back k l h s = of_kind k (deeds_from 15 3 (λ i. take_back (staff_table i)) refl k l h) (settled_for refl refl s)

  -- Kinds 18 to 21.
  pub from_unrelate : (k : ℕ) → 18 ≤ k → k < 22 → Settled before after (unrelate (k - 18)) a b 0 r → OfKind before after a b c r k
  unfolding all row_of table decide state_refusal conflicts first_of change
  from_unrelate k l h s = of_kind k (deeds_from 18 4 unrelate refl k l h) (settled_for refl refl s)

-- No kind: 3, and the book is as it was.
module _ {before : List ℕ} (a b c : ℕ) (full : Full before) where
  none_settled : Settled before before nothing a b c (Err UnknownKind)
  unfolding decide or_else state_refusal
  none_settled = settled_kept refl full

  -- Below 1 ..
  pub from_none_below : (k : ℕ) → k < 1 → OfKind before before a b c (Err UnknownKind) k
  unfolding row_of table
  from_none_below k h = let z : 0 ≡ k = omega arith in subst (OfKind before before a b c (Err UnknownKind)) z none_settled

  -- .. and past the last.
  pub from_none_past : (k : ℕ) → 22 ≤ k → OfKind before before a b c (Err UnknownKind) k
  unfolding table
  from_none_past k h = of_kind k (ap (λ (x : Row). x.deed) (no_kind_past k h)) none_settled
