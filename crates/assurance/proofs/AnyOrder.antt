-- M-102 of slices, from M-102 of words: a slice that is served has the words that demand 3 keeps, so what is accepted and where it ends is
-- what crates/clicks says. Both doors, the entries and the C functions, go by the same laws.
use mathlib.Core.Path.{◌≡◌, refl, sym, ap, ◌∙◌, subst}
use mathlib.Core.Bool.{not}
use mathlib.Core.List.{List}
use Prim.Native.Nat.{ℕ}
use lib.Dec.{eqb}
use lib.ListN.{length}
use borrow.Author.Tests.{eqb-true, not-false}
use Rattle.std.specs.Prelude.{Ok}
use Rattle.rules.specs.Book.{book_words}
use Rattle.rules.specs.Requests.{Request}
use Rattle.rules.specs.Numbers.{accepted, answer}
use Rattle.rules.specs.Audit.{audited}
use Rattle.rules.proofs.NumberLaws.{given_out}
use Rattle.demands.specs.Demand3 as demand
use Rattle.clicks.specs.Clicks.{AllAccepted, final}
use Rattle.clicks.proofs.Clicks.{order_free, restored, back_accepted}
use Rattle.book.specs.Slice.{words, Full}
use Rattle.answers.proofs.AnswerLaws.{said_injective}
use Rattle.desk.specs.Guarantee.{Stored, Answered}
use Rattle.audit.specs.Guarantee.{Finds}
use Rattle.towerplank.specs.Told.{four_words, Told, ToldAudit}
use Rattle.assurance.specs.Served.{Serving, Entry, InC}
use Rattle.assurance.specs.AnyOrder.{Run, none, first, EntryAccepts, zeros, AcceptsInC, OrderFreeBy, RestoredBy}
use Rattle.assurance.specs.AnyOrder.{OrderFreeServed, RestoredServed, OrderFreeInC, RestoredInC}
use Rattle.assurance.proofs.Agree.{Holds, holds_answer, holds_after, holds_one}
use Rattle.assurance.proofs.Zero.{told_accepted, told_passes}

-- A slice that passes the audit is full.
audited_full : (n : ℕ) (w : ℕ → ℕ) → audited n w ≡ accepted → n ≡ book_words
unfolding audited
audited_full n w e = eqb-true n book_words (not-false _ (given_out (not (eqb n book_words)) 1 _ _ e).0)

-- What is used of a door: what passes its audit, what it stores, and that it accepts just where the answer is 0.
record Door (Passed : List ℕ → Type 0) (Serves Accepts : Serving) : Type 0 where
  passes : (l : List ℕ) → Passed l → audited (length l) (words l) ≡ accepted
  stores : {q : Request} {before after : List ℕ} → Serves q before after → Stored before after q
  keeps : {q : Request} {before after : List ℕ} → Accepts q before after → Stored before after q
  told : {q : Request} {before after : List ℕ} → Accepts q before after → answer (length before) (words before) q ≡ accepted
  accepts : {q : Request} {before after : List ℕ} → Serves q before after → answer (length before) (words before) q ≡ accepted → Accepts q before after

module _ {Passed : List ℕ → Type 0} {Serves Accepts : Serving} (door : Door Passed Serves Accepts) where
  -- A run in which all are accepted is one of w ..
  run_accepted : {qs : List Request} {l m : List ℕ} {w : ℕ → ℕ} → Holds l w → Run Accepts qs l m → AllAccepted w qs × Holds m (final w qs)
  run_accepted h none = (tt, h)
  run_accepted h (first {q = q} o run) =
      let rest = run_accepted (holds_after h (door.keeps o)) run in
      ((sym (holds_answer h q) ∙ door.told o, rest.0), rest.1)

  -- .. and where all of w are accepted, those of the slice are.
  run_served : {qs : List Request} {l m : List ℕ} {w : ℕ → ℕ} → Holds l w → AllAccepted w qs → Run Serves qs l m → Run Accepts qs l m × Holds m (final w qs)
  run_served h all none = (none, h)
  run_served h all (first {q = q} o run) =
      let rest = run_served (holds_after h (door.stores o)) all.1 run in
      (first (door.accepts o (holds_answer h q ∙ all.0)) rest.0, rest.1)

  -- The slice that passed holds its own words, and they pass.
  passed_full : {l : List ℕ} → Passed l → Full l
  passed_full {l} p = audited_full (length l) (words l) (door.passes l p)

  itself : {l : List ℕ} → Passed l → Holds l (words l)
  itself p = record { full = passed_full p; same = λ i h. refl }

  passing : {l : List ℕ} → Passed l → demand.Passes (words l)
  passing {l} p = ap (λ (n : ℕ). audited n (words l)) (sym (passed_full p)) ∙ door.passes l p

  -- The order of clicking does not matter at this door,
  by_order : OrderFreeBy Passed Serves Accepts
  by_order one two one' two' qs ps same fit passed adding r run run' =
      let w = words one in
      let x = run_accepted (itself passed) run in
      let free = order_free w fit (passing passed) qs ps adding x.0 r in
      let y = run_served (subst (λ (l : List ℕ). Holds l w) same (itself passed)) free.0 run' in
      (y.0, holds_one y.1 x.1 (λ i h. free.1 i))

  -- and what is taken back at once leaves no trace.
  by_restored : RestoredBy Passed Serves Accepts
  by_restored before between after q p fit passed adds takes o o' =
      let w = words before in
      let held = itself passed in
      let e = sym (holds_answer held q) ∙ door.told o in
      let gained = holds_after held (door.keeps o) in
      let back = back_accepted w fit (passing passed) q p adds takes e in (
        door.accepts o' (holds_answer gained p ∙ back),
        holds_one (holds_after gained (door.stores o')) held (restored w fit (passing passed) q p adds takes e back),
      )

-- The entries: an answer is known by what it says.
entry : Door (λ l. Finds l (Ok tt)) Entry EntryAccepts
entry = record {
  passes = λ l e. sym e;
  stores = λ (r, o). o.stored;
  keeps = λ o. o.stored;
  told = λ o. sym o.told;
  accepts = λ {q} {before} {after} (r, o) e. subst (Answered before after q) (said_injective r (Ok tt) (o.told ∙ e)) o;
}

-- The C functions: the number 0 is told by no other answer.
in_c : Door (λ l. ToldAudit l zeros) InC AcceptsInC
in_c = record {
  passes = λ l e. told_passes l e refl;
  stores = λ (four, o). o.stored;
  keeps = λ o. o.stored;
  told = λ o. told_accepted o refl;
  accepts = λ {q} {before} {after} (four, o) e. subst (Told before after q) (o.told ∙ ap four_words e) o;
}

-- STATEMENTS 1 and 2: the entries.
pub order_free_served : OrderFreeServed
order_free_served = by_order entry

pub restored_served : RestoredServed
restored_served = by_restored entry

-- STATEMENTS 3 and 4: the C functions.
pub order_free_in_c : OrderFreeInC
order_free_in_c = by_order in_c

pub restored_in_c : RestoredInC
restored_in_c = by_restored in_c
