-- The rules look at the words of a book and at nothing past them: words that agree there have the same tables,
-- so the same answer, the same audit, and words afterwards that agree again.
use mathlib.Core.Path.{◌≡◌, sym, ap, ◌∙◌}
use mathlib.Core.Bool.{true, false, ◌&&◌}
use mathlib.Core.List.{List}
use Prim.Native.Nat.{ℕ, ◌+◌, ◌*◌, ◌≤◌, ◌<◌}
use native.Mathlib.Omega.{arith}
use lib.Dec.{ltb}
use lib.ListN.{length}
use lib.Seq.{ext_get_or}
use borrow.Author.Tests.{ltb-true}
use Rattle.sets.proofs.Logic.{and_out}
use Rattle.rules.specs.Book.{Book, book_words, head_words, table_count, cells_at, read, write}
use Rattle.rules.specs.Requests.{Request}
use Rattle.rules.specs.Numbers.{Said, accepted, says, say, judge, given, blind, answer, words_after}
use Rattle.rules.specs.Audit.{audit, audited}
use Rattle.rules.proofs.BookLaws.{book_ext}
use Rattle.book.specs.Slice.{words, Full}
use Rattle.book.proofs.StoreLaws.{only_same}
use Rattle.desk.specs.Guarantee.{Stored}
use Rattle.demands.specs.Demand3.{kept}

-- the two agree on the words of a book
abbrev pub Agree : (ℕ → ℕ) → (ℕ → ℕ) → Type 0
Agree v w = (i : ℕ) → i < book_words → v i ≡ w i

module _ {v w : ℕ → ℕ} (same : Agree v w) where
  pub agree_read : read v ≡ read w
  unfolding read
  agree_read = book_ext _ _
      (λ i. only_same (ltb i head_words) _ _ (λ e. let h = ltb-true i head_words e in same i (omega arith)))
      (λ n r. only_same (ltb n table_count && ltb r 64) _ _ (λ e. place head_words table_count n r e (omega arith)))
      (λ p t. only_same (ltb p 64 && ltb t 64) _ _ (λ e. place cells_at 64 p t e (omega arith)))
    where
      place : (from rows n r : ℕ) → (ltb n rows && ltb r 64) ≡ true → from + 64 * rows ≤ book_words → v (from + 64 * n + r) ≡ w (from + 64 * n + r)
      place from rows n r e fits =
          let s = and_out (ltb n rows) (ltb r 64) e in
          let h = ltb-true n rows s.0 in
          let l = ltb-true r 64 s.1 in
          same (from + 64 * n + r) (omega arith)

  pub agree_answer : (q : Request) → answer book_words v q ≡ answer book_words w q
  unfolding answer
  agree_answer q = ap (λ (d : Book). given false (say 1) (judge d q)) agree_read

  pub agree_audited : audited book_words v ≡ audited book_words w
  unfolding audited
  agree_audited = ap (λ (d : Book). given false (say 1) (audit d)) agree_read

  pub agree_after : (s : Said) (q : Request) → Agree (words_after s v q) (words_after s w q)
  unfolding words_after
  agree_after accepted q i h = ap (λ (d : Book). write (blind d q) i) agree_read
  agree_after (says n r) q i h = same i h

-- The slice is full, and its words are those of the book w.
pub record Holds (l : List ℕ) (w : ℕ → ℕ) : Type 0 where
  pub full : Full l
  pub same : Agree (words l) w

-- Then it is answered as w is,
pub holds_answer : {l : List ℕ} {w : ℕ → ℕ} → Holds l w → (q : Request) → answer (length l) (words l) q ≡ answer book_words w q
holds_answer {l} b q = ap (λ (n : ℕ). answer n (words l) q) b.full ∙ agree_answer b.same q

-- what is stored are the words that demand 3 keeps,
pub holds_after : {before after : List ℕ} {w : ℕ → ℕ} {q : Request} → Holds before w → Stored before after q → Holds after (kept w q)
holds_after {before} {after} {w} {q} b o = record {
  full = o.as_long ∙ b.full;
  same = λ i h.
      o.each_word i (omega (arith, b.full))
      ∙ ap (λ (s : Said). words_after s (words before) q i) (holds_answer b q)
      ∙ agree_after b.same (answer book_words w q) q i h;
}

-- and two slices that hold words which agree are one.
pub holds_one : {l m : List ℕ} {v w : ℕ → ℕ} → Holds l v → Holds m w → Agree v w → l ≡ m
holds_one {l} {m} x y same =
    ext_get_or 0 l m (x.full ∙ sym y.full)
    (λ i h. let k = x.full in x.same i (omega arith) ∙ same i (omega arith) ∙ sym (y.same i (omega arith)))
