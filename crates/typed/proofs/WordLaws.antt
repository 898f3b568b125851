-- Laws of the words of a line: going past bytes one by one.
use mathlib.Core.Path.{◌≡◌, refl, sym, ap, ◌∙◌}
use mathlib.Core.Logic.{◌⊎◌, inl, inr}
use mathlib.Core.Bool.{Bool, true, false}
use mathlib.Core.List.{List, ◌∷◌}
use Prim.Native.Nat.{ℕ, ◌+◌, ◌≤◌, ◌<◌}
use native.Mathlib.Omega.{arith}
use native.Mathlib.Numerals.{add-one}
use lib.ListN.{length, drop, get_or, drop_of_length-le}
use lib.Seq.{drop-cons}
use borrow.Author.Tests.{eq-eqb, ne_eqb}
use Rattle.typed.specs.Words.{belongs, run, past, start_from, end_from, is_cut, span_from, part, word_at, by_word}
use Rattle.std.proofs.Common.{Result, Ok, Err}
use Rattle.std.specs.Result.{IsErrAnd}
use Rattle.typed.specs.Arguments.{fault_at, WordRead, IsCut, IsOver}
use Rattle.typed.specs.declared.arguments.Fault.{Fault}
use Rattle.typed.specs.declared.arguments.Reason.TheVariants.{TooFew, TooLong}
use Rattle.typed.specs.declared.words.Span.{Span}

module _ (line : List ℕ) (i b : ℕ) (h : i < length line) (at_i : b ≡ get_or line i 0) (in_word : Bool) where
  here : run in_word (drop i line) ≡ run in_word (b ∷ drop (i + 1) line)
  here = rw (at_i, add-one, drop-cons line i 0)

  -- A byte at i that belongs is passed.
  pub past_on : belongs in_word b ≡ true → past line i in_word ≡ past line (i + 1) in_word
  unfolding past run
  past_on e = let one : run in_word (drop i line) ≡ 1 + run in_word (drop (i + 1) line) = here ∙ rw (run, e) in omega arith

  -- One that does not is where they end.
  pub past_stops : belongs in_word b ≡ false → past line i in_word ≡ i
  unfolding past run
  past_stops e = let none : run in_word (drop i line) ≡ 0 = here ∙ rw (run, e) in omega arith

-- Behind the last byte nothing is passed.
pub past_out : (line : List ℕ) (i : ℕ) (in_word : Bool) → length line ≤ i → past line i in_word ≡ i
unfolding past run
past_out line i in_word h = let none : run in_word (drop i line) ≡ 0 = rw (drop_of_length-le line h) in omega arith

-- A word w that was read begins and ends where the definition says.
module _ (line : List ℕ) (whole : Bool) (at : ℕ) (w : Span) (e : w ≡ span_from line at whole) where
  pub starts : w.start ≡ start_from line at
  starts = ap (λ (s : Span). s.start) e

  pub ends : w.end ≡ end_from line at
  ends = ap (λ (s : Span). s.end) e

  -- the bytes of w
  abbrev pub bytes_of : List ℕ
  bytes_of = part w.start w.end line

  -- What is said of w and its bytes is said of the word.
  pub said_of : {A : Type 0} (f : ℕ → ℕ → List ℕ → A) → f w.start w.end bytes_of ≡ f (start_from line at) (end_from line at) (word_at line at)
  said_of f = rw (starts, ends)

  cuts : is_cut line whole at ≡ w.cut
  cuts = sym (ap (λ (s : Span). s.cut) e)

  -- What follows from it: it is cut, it is missing, or it is there.
  module _ {A : Type 0} (cut missing there : A) where
    pub word_cut : w.cut ≡ true → cut ≡ by_word line whole at cut missing there
    unfolding by_word
    word_cut t = rw (by_word, cuts ∙ t)

    pub word_missing : w.cut ≡ false → w.start ≡ w.end → missing ≡ by_word line whole at cut missing there
    unfolding by_word
    word_missing t o = rw (by_word, cuts ∙ t, eq-eqb _ _ (sym starts ∙ o ∙ ends))

    pub word_there : w.cut ≡ false → (w.start ≡ w.end → ⊥) → there ≡ by_word line whole at cut missing there
    unfolding by_word
    word_there t o = rw (by_word, cuts ∙ t, ne_eqb _ _ (λ same. o (starts ∙ same ∙ sym ends)))

-- What a `?` passes up is the fault that it met.
pub passed_up : {T : Type 0} (r : Result T Fault) {fault : Fault} → IsErrAnd r (λ e. e ≡ fault) → r ≡ Err fault
passed_up (Ok x) e = absurd e
passed_up (Err f) e = ap Err e

-- What was told of the word from `at` on is what follows from it.
module _ (line : List ℕ) (whole : Bool) (at : ℕ) {A : Type 0} where
  -- The line is cut there, and a fault is said ..
  pub said_cut : (say : Fault → A) (fault : Fault) → IsCut line whole at fault → (missing there : A)
      → say fault ≡ by_word line whole at (say (fault_at TooLong (start_from line at))) missing there
  said_cut say fault h missing there = ap say h.1 ∙ word_cut line whole at (span_from line at whole) refl _ _ _ h.0

  -- .. or it is over ..
  pub said_over : IsOver line whole at → (cut missing there : A) → missing ≡ by_word line whole at cut missing there
  said_over h cut missing there = word_missing line whole at (span_from line at whole) refl _ _ _ h.0 h.1

  -- .. which is a fault where a word must be there ..
  pub said_neither : (say : Fault → A) (fault : Fault) → IsCut line whole at fault ⊎ (IsOver line whole at × (fault ≡ fault_at TooFew (start_from line at)))
      → (there : A) → say fault ≡ by_word line whole at (say (fault_at TooLong (start_from line at))) (say (fault_at TooFew (start_from line at))) there
  said_neither say fault (inl h) there = said_cut say fault h _ there
  said_neither say fault (inr h) there = ap say h.1 ∙ said_over h.0 _ _ there

  -- .. or word w was read.
  pub said_there : (w : Span) → WordRead line whole at w → (f : ℕ → ℕ → List ℕ → A) → (cut missing : A)
      → f w.start w.end (part w.start w.end line) ≡ by_word line whole at cut missing (f (start_from line at) (end_from line at) (word_at line at))
  said_there w h f cut missing =
      said_of line whole at w h.from_at f ∙ word_there line whole at w h.from_at _ _ _ h.not_cut (λ e. omega (arith, h.not_empty, e))
