-- The examples are computed over tables; the guarantees speak of words. One step is the same in both, so a whole run is.
use mathlib.Core.Path.{◌≡◌, refl, sym, ap₂, ◌∙◌, subst}
use mathlib.Core.Bool.{Bool, true, false, ◌&&◌, true≢false}
use mathlib.Core.List.{List, [], ◌∷◌}
use Prim.Native.Nat.{ℕ, ◌<◌}
use lib.Dec.{T, eqb, ltb}
use borrow.Author.Tests.{eqb-true, ltb-true}
use Rattle.sets.proofs.Logic.{and_out}
use Rattle.rules.specs.Book.{Book, book_words, read, write}
use Rattle.rules.specs.Requests.{Request}
use Rattle.rules.specs.Numbers.{Said, accepted, says, given, judge, kept, answer, words_after}
use Rattle.rules.specs.Meaning.{Sized}
use Rattle.rules.proofs.NumberLaws.{judge_out}
use Rattle.rules.proofs.BookLaws.{read_sized, write_read}
use Rattle.rules.proofs.ChangeLaws.{blind_sized, changed_book}
use Rattle.rules.specs.Small.{Word, book_of, small}
use Rattle.rules.proofs.SmallLaws.{small_fits}
use Rattle.examples.specs.Examples.{Step, Run, same, stand, goes, all_go, examples}
use Rattle.examples.specs.SeveralOrders.{several_orders}
use Rattle.examples.specs.WholeClash.{whole_clash}
use Rattle.examples.specs.Hold.{examples_hold, several_orders_hold, whole_clash_holds}
use Rattle.examples.specs.OnWords.{Stand, Goes, AllGo, ExamplesOnWords, SeveralOnWords, ClashOnWords}

-- What a test that passed leaves.
passed : (t : Bool) → T t → t ≡ true
passed true e = refl
passed false e = absurd e

-- Two answers that the table finds the same are equal ..
same_out : (s t : Said) → same s t ≡ true → s ≡ t
same_out accepted accepted e = refl
same_out accepted (says n r) e = absurd (true≢false (sym e))
same_out (says m q) accepted e = absurd (true≢false (sym e))
same_out (says m q) (says n r) e =
    let p = and_out (eqb m n) _ e in
    let x = and_out (eqb q.x r.x) _ p.1 in
    let y = and_out (eqb q.y r.y) (eqb q.z r.z) x.1 in
    ap₂ says (eqb-true m n p.0) (named (eqb-true _ _ x.0) (eqb-true _ _ y.0) (eqb-true _ _ y.1))
  where
    named : q.x ≡ r.x → q.y ≡ r.y → q.z ≡ r.z → q ≡ r
    named e f g = λ i. record { x = e i; y = f i; z = g i }

-- .. and words that it finds standing in a book stand in any words that write that book.
stand_out : (d : Book) (w : ℕ → ℕ) (ws : List Word) → ((i : ℕ) → i < book_words → write d i ≡ w i) → stand d ws ≡ true → Stand w ws
stand_out d w [] same e = tt
stand_out d w (x ∷ xs) same e =
    let p = and_out (ltb x.0 book_words && eqb (write d x.0) x.1) (stand d xs) e in
    let q = and_out (ltb x.0 book_words) _ p.0 in
    (sym (same x.0 (ltb-true _ _ q.0)) ∙ eqb-true _ _ q.1, stand_out d w xs same p.1)

-- One step over words is the step over tables: the tables that it leaves are those of the words afterwards, and are written so.
record Step-on-words (w : ℕ → ℕ) (q : Request) (s : Said) : Type 0 where
  sized : Sized (read (words_after s w q))
  book : read (words_after s w q) ≡ kept s (read w) q
  written : (i : ℕ) → i < book_words → write (kept s (read w) q) i ≡ words_after s w q i

step_on_words : (w : ℕ → ℕ) → Sized (read w) → (q : Request) (s : Said) → judge (read w) q ≡ s → Step-on-words w q s
unfolding words_after kept
step_on_words w sized q accepted e =
    let u = (judge_out (read w) q e).1 in
    let same = changed_book w q sized u in
    record { sized = subst Sized (sym same) (blind_sized q sized u); book = same; written = λ i h. refl }
step_on_words w sized q (says n r) e = record { sized = sized; book = refl; written = write_read w }

-- What goes on only where a test passes: both passed.
went_on : (t u : Bool) → ◌≡◌ {A = Bool} (elim t [ true ↦ u | false ↦ false ]) true → (t ≡ true) × (u ≡ true)
went_on true u e = (refl, e)
went_on false u e = absurd (true≢false (sym e))

-- So a run over words goes as the run over tables does.
run_on_words : (w : ℕ → ℕ) → Sized (read w) → (ss : List Step) → goes (read w) ss ≡ true → Goes w ss
unfolding answer given
run_on_words w sized [] e = tt
run_on_words w sized (s ∷ ss) e =
    let told = judge (read w) s.request in
    let after = kept told (read w) s.request in
    let step = step_on_words w sized s.request told refl in
    let p = went_on (same told s.answer && stand after s.words) (goes after ss) e in
    let q = and_out (same told s.answer) (stand after s.words) p.0 in (
      same_out told s.answer q.0,
      stand_out after _ s.words step.written q.1,
      run_on_words (words_after told w s.request) step.sized ss (subst (λ (d : Book). goes d ss ≡ true) (sym step.book) p.1),
    )

all_on_words : (rs : List Run) → all_go rs ≡ true → AllGo rs
all_on_words [] e = tt
all_on_words (r ∷ rs) e =
    let p = went_on (small r.start && goes (read (book_of r.start)) r.steps) (all_go rs) e in
    let q = and_out (small r.start) _ p.0 in
    (run_on_words (book_of r.start) (read_sized _ (small_fits r.start q.0)) r.steps q.1, all_on_words rs p.1)

-- P1 to P14 hold of the words.
pub examples_on_words : ExamplesOnWords
examples_on_words = all_on_words examples (passed (all_go examples) examples_hold)

-- So do the runs of M-104 ..
pub several_on_words : SeveralOnWords
several_on_words = all_on_words several_orders (passed (all_go several_orders) several_orders_hold)

-- .. and those of M-105.
pub clash_on_words : ClashOnWords
clash_on_words = all_on_words whole_clash (passed (all_go whole_clash) whole_clash_holds)
