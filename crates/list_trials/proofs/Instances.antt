-- A trial of a list is nothing but M-102 at one book: where its statements hold, every such trial does.
-- So rules of which a trial fails do not meet M-102.
use mathlib.Core.Path.{◌≡◌, refl}
use mathlib.Core.Logic.{inl}
use mathlib.Core.Bool.{Bool, true, false}
use mathlib.Core.List.Perm
use mathlib.Core.List.{List, [], ◌∷◌, reverse, reverse_perm}
use Prim.Native.Nat.{ℕ, ◌<◌}
use lib.Dec.{T, ltb, eqb}
use borrow.Author.Tests.{ltb-true, eq-eqb}
use Rattle.sets.proofs.Logic.{and_out, and_in}
use Rattle.rules.specs.Book.{book_words}
use Rattle.rules.specs.Requests.{Request}
use Rattle.rules.specs.Numbers.{is_accepted, answer}
use Rattle.rules.specs.Audit.{implies, audited}
use Rattle.rules.specs.Small.{book_of, small}
use Rattle.rules.specs.Meaning.{Fits}
use Rattle.rules.proofs.SaidLaws.{accepted_out}
use Rattle.rules.proofs.SmallLaws.{small_fits}
use Rattle.demands.specs.Demand3.{Passes}
use Rattle.clicks.specs.Clicks.{AllAdding, OrderFree, Restored}
use Rattle.clicks.specs.Tests.{all_adding, all_accepted, taking_back}
use Rattle.clicks.proofs.TestLaws.{adding_out, accepts_in, accepts_out}
use Rattle.list_trials.specs.ListTrial.{ListTrial, same_at, ready, list_fair, orderly, both_accepted, restores, traceless}

-- An implication holds where its second part does whenever the first does.
implies_in : (s t : Bool) → (s ≡ true → t ≡ true) → implies s t ≡ true
implies_in true t f = f refl
implies_in false t f = refl

-- What is true holds.
shows : {t : Bool} → t ≡ true → T t
shows e = rw e tt

-- Words that agree have the same words at all places of the book.
same_at_lem : (v w : ℕ → ℕ) → ((i : ℕ) → i < book_words → v i ≡ w i) → (is : List ℕ) → same_at v w is ≡ true
same_at_lem v w e [] = refl
same_at_lem v w e (i ∷ is) =
    and_in (implies_in (ltb i book_words) (eqb (v i) (w i)) (λ h. eq-eqb (v i) (w i) (e i (ltb-true i book_words h)))) (same_at_lem v w e is)

-- What is asked of the book and the list.
record Ready (t : ListTrial) : Type 0 where
  fits : Fits (book_of t.words)
  passes : Passes (book_of t.words)
  adding : AllAdding t.list

ready_out : (t : ListTrial) → ready t ≡ true → Ready t
ready_out t e =
    let x = and_out (small t.words) _ e in
    let y = and_out (is_accepted (audited book_words (book_of t.words))) (all_adding t.list) x.1 in
    record { fits = small_fits t.words x.0; passes = accepted_out _ y.0; adding = adding_out t.list y.1 }

-- THE FIRST STATEMENT AT A TRIAL.
pub order_free_tried : OrderFree → (t : ListTrial) → T (orderly t)
unfolding orderly list_fair
order_free_tried free t = shows (implies_in (list_fair t) _ (λ e.
    let w = book_of t.words in
    let x = and_out (ready t) (all_accepted w t.list) e in
    let r = ready_out t x.0 in
    let y = free w r.fits r.passes t.list (reverse t.list) r.adding (accepts_out w t.list x.1) (Perm.symm (reverse_perm t.list)) in
    and_in (accepts_in w (reverse t.list) y.0) (same_at_lem _ _ (λ i h. y.1 i) t.places)))

-- THE SECOND STATEMENT AT A TRIAL.
pub restored_tried : Restored → (t : ListTrial) → T (traceless t)
unfolding traceless
restored_tried back t = shows (implies_in (ready t) _ (λ e. let r = ready_out t e in each r.fits r.passes t.list r.adding))
  where
    w : ℕ → ℕ
    w = book_of t.words

    each : Fits w → Passes w → (qs : List Request) → AllAdding qs → restores w t.places qs ≡ true
    each fits passes [] adding = refl
    each fits passes (q ∷ qs) (h, adding) =
        and_in
        (implies_in (both_accepted w q) _ (λ e.
        let x = and_out (is_accepted (answer book_words w q)) _ e in
        same_at_lem _ _ (back w fits passes q (taking_back q) h (refl, inl (refl, refl)) (accepted_out _ x.0) (accepted_out _ x.1)) t.places))
        (each fits passes qs adding)
