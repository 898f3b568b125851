-- Where the entry returns, the guarantee holds: one law for each refusal that leaves the book alone, and one for a request carried out.
use mathlib.Core.Path.{◌≡◌, refl, sym, ap, ◌∙◌}
use mathlib.Core.Bool.{false, not, true≢false}
use mathlib.Core.List.{List}
use Prim.Native.Nat.{ℕ, ◌<◌}
use native.Mathlib.Omega.{arith}
use lib.Dec.{ltb}
use lib.ListN.{length}
use borrow.Author.Tests.{eq-eqb, ne_eqb, lt-ltb}
use Rattle.rules.specs.Book.{Book, book_words, read, write, first_bad}
use Rattle.rules.specs.Requests.{Request, row_of}
use Rattle.rules.specs.Numbers.{Said, accepted, says, say, say_x, or_else, conflict, refusal, judge, blind, answer, words_after, is_accepted}
use Rattle.rules.proofs.BookLaws.{write_read}
use Rattle.book.specs.Slice.{words, tables, Full}
use Rattle.std.specs.Prelude.{Err}
use Rattle.answers.specs.declared.Refusal.{Refusal}
use Rattle.answers.specs.Answers.{Answer, refused}
use Rattle.answers.proofs.AnswerLaws.{refusal_not_accepted}
use Rattle.deeds.specs.Outcome.{decide, settle, Settled}
use Rattle.deeds.proofs.CascadeLaws.{given_yes, given_no}
use Rattle.ask.specs.Arguments.{fault_of}
use Rattle.ask.proofs.ArgumentLaws.{no_fault, at_fault}
use Rattle.desk.specs.Guarantee.{Answered}

-- An answer other than 0 leaves every word.
kept_word : (s : Said) (w : ℕ → ℕ) (q : Request) (i : ℕ) → is_accepted s ≡ false → w i ≡ words_after s w q i
unfolding words_after
kept_word accepted w q i e = absurd (true≢false e)
kept_word (says n r) w q i e = refl

-- So a refusal leaves the book alone.
pub left_alone : (l : List ℕ) (q : Request) {r : Refusal} → refused r ≡ answer (length l) (words l) q → Answered l l q (Err r)
left_alone l q {r} told = record {
  told = told;
  stored = record {
    as_long = refl;
    each_word = λ i h. kept_word (answer (length l) (words l) q) (words l) q i (ap is_accepted (sym told) ∙ refusal_not_accepted r);
  };
}

module _ (l : List ℕ) (q : Request) where
  d : Book
  d = tables l

  -- 1: not 4,676 words.
  pub wrong_length : (Full l → ⊥) → say 1 ≡ answer (length l) (words l) q
  unfolding answer
  wrong_length n = given_yes _ _ _ (ap not (ne_eqb (length l) book_words n))

  module _ (full : Full l) where
    right_length : {s : Said} → s ≡ judge d q → s ≡ answer (length l) (words l) q
    unfolding answer d
    right_length e = given_no _ _ _ (ap not (eq-eqb (length l) book_words full)) e

    -- 2: the lowest bad word.
    pub bad_word_lem : {i : ℕ} → (i < book_words) × (first_bad (tables l) ≡ i) → say_x 2 i ≡ answer (length l) (words l) q
    unfolding judge d
    bad_word_lem {i} e =
        right_length (ap (say_x 2) (sym e.1) ∙ given_yes _ _ _ (ap (λ (k : ℕ). ltb k book_words) e.1 ∙ lt-ltb i book_words e.0))

    module _ (none : first_bad (tables l) ≡ book_words) where
      no_bad_word : {s : Said} → s ≡ or_else (refusal d q) (conflict d q) → s ≡ answer (length l) (words l) q
      unfolding judge d
      no_bad_word e = right_length (given_no _ _ _ (ap (λ (k : ℕ). ltb k book_words) none) e)

      -- 4: the first argument at fault.
      pub argument_fault_lem : {f : ℕ} → (0 < f) × (fault_of (tables l) (row_of q.kind) q.a q.b q.c ≡ f) → say_x 4 f ≡ answer (length l) (words l) q
      unfolding refusal or_else d
      argument_fault_lem {f} e =
          no_bad_word (ap (λ (s : Said). or_else s (conflict d q))
          (ap (say_x 4) (sym e.1) ∙ sym (at_fault (tables l) (row_of q.kind) q.a q.b q.c _ (λ z. omega arith))))

      -- Nothing of 1, 2 and 4: the deed of the kind decides.
      pub carried : fault_of (tables l) (row_of q.kind) q.a q.b q.c ≡ 0
          → decide (tables l) (row_of q.kind).deed q.a q.b q.c ≡ answer (length l) (words l) q
      unfolding refusal conflict decide d
      carried e = no_bad_word (ap (λ (s : Said). or_else s (conflict d q)) (sym (no_fault (tables l) (row_of q.kind) q.a q.b q.c _ e)))

-- The words of a book that was settled.
settled_word : (s : Said) (w v : ℕ → ℕ) (q : Request) → read v ≡ settle s (blind (read w) q) (read w)
    → (i : ℕ) → i < book_words → v i ≡ words_after s w q i
unfolding settle words_after
settled_word accepted w v q e i h = sym (write_read v i h) ∙ ap (λ (b : Book). write b i) e
settled_word (says n r) w v q e i h = sym (write_read v i h) ∙ ap (λ (b : Book). write b i) e ∙ write_read w i h

-- A deed that was settled is a request that was answered.
pub settled_answered : {before after : List ℕ} (q : Request) {r : Answer} → Full before
    → decide (tables before) (row_of q.kind).deed q.a q.b q.c ≡ answer (length before) (words before) q
    → Settled before after (row_of q.kind).deed q.a q.b q.c r → Answered before after q r
unfolding blind
settled_answered {before} {after} q full e s = record {
  told = s.answer ∙ e;
  stored = record {
    as_long = s.full ∙ sym full;
    each_word = λ i h. settled_word (answer (length before) (words before) q) (words before) (words after) q
        (s.book ∙ ap (λ (t : Said). settle t (blind (tables before) q) (tables before)) e) i (omega arith);
  };
}
