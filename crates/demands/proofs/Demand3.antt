-- Demand 3, proved. On tables the way is short: a book that passes the audit is sound, every kind is exact on a sound
-- book, and the audit passes exactly on sound books. Words and tables are the same thing by reading and writing.
use mathlib.Core.Path.{◌≡◌, refl, sym, ap, ◌∙◌, subst}
use mathlib.Core.Logic.{◌↔◌}
use Prim.Native.Nat.{ℕ}
use lib.Pow.{pow_pos}
use Rattle.rules.specs.Book.{Book, book_words, read}
use Rattle.rules.specs.Requests.{Request}
use Rattle.rules.specs.Numbers.{Said, accepted, says, given, refusal, conflict, judge, blind, answer, words_after}
use Rattle.rules.specs.Audit.{audit}
use Rattle.rules.specs.Meaning.{Sized}
use Rattle.rules.proofs.NumberLaws.{refusal_out, judge_out, judge_in}
use Rattle.rules.proofs.BookLaws.{read_sized}
use Rattle.rules.proofs.ChangeLaws.{known_row, blind_sized, changed_book}
use Rattle.rules.proofs.WordLaws.{well_formed}
use Rattle.rules.proofs.AuditLaws.{sound_formed, audit_sound, sound_audit}
use Rattle.rules.proofs.AuditedLaws.{whole_audit}
use Rattle.demands.specs.Demand3 as demand
use Rattle.demands.proofs.BlankBook.{blank_sound}
use Rattle.demands.proofs.EveryKind.{deed_exact}

-- Of a book of 4,676 words the answer is that of its tables.
pub whole_answer : (w : ℕ → ℕ) (q : Request) → answer book_words w q ≡ judge (read w) q
unfolding answer given
whole_answer w q = refl

-- Statement 1, of the tables.
pub book_exact : (d : Book) → Sized d → audit d ≡ accepted → (q : Request) → refusal d q ≡ accepted → (audit (blind d q) ≡ accepted) ↔ (judge d q ≡ accepted)
unfolding blind conflict
book_exact d sized passes q e =
    let sound = audit_sound d sized passes in
    let u = refusal_out d q e in
    let x = deed_exact d sized sound q.a q.b q.c (known_row q.kind) u.fitting u.state in
    let sized' = blind_sized q sized e in (
      λ p. judge_in d q ((well_formed d sized).fails (sound_formed d sound)) e (x.1 (audit_sound (blind d q) sized' p)),
      λ p. sound_audit (blind d q) sized' (x.0 (judge_out d q p).2),
    )

-- Statement 1, of words whose tables have their size.
words_exact : (w : ℕ → ℕ) → Sized (read w) → demand.Passes w → (q : Request) → demand.Unrefused w q → demand.Passes (demand.changed w q) ↔ demand.Accepted w q
words_exact w sized passes q e =
    let same = whole_audit (demand.changed w q) ∙ ap audit (changed_book w q sized e) in
    let x = book_exact (read w) sized (sym (whole_audit w) ∙ passes) q e in
    (λ p. whole_answer w q ∙ x.0 (sym same ∙ p), λ p. same ∙ x.1 (sym (whole_answer w q) ∙ p))

-- STATEMENT 1: the checks are exact.
pub checks_exact : demand.ChecksExact
checks_exact w fit = words_exact w (read_sized w fit)

-- STATEMENT 2: the kept book is the changed one where the request is accepted, and else untouched.
pub book_kept : demand.BookKept
unfolding words_after
book_kept w q = (λ e i. ap (λ (s : Said). words_after s w q i) e, λ f i. untouched (answer book_words w q) f i)
  where
    untouched : (s : Said) → (s ≡ accepted → ⊥) → (i : ℕ) → words_after s w q i ≡ w i
    untouched accepted f i = absurd (f refl)
    untouched (says n r) f i = refl

-- A step from a book that passes leads to one that passes: an accepted request changes it soundly, any other leaves it.
pub step_passes : (w : ℕ → ℕ) (q : Request) → Sized (read w) → demand.Passes w → Sized (read (demand.kept w q)) × demand.Passes (demand.kept w q)
unfolding words_after
step_passes w q sized passes = go (answer book_words w q) refl
  where
    go : (s : Said) → answer book_words w q ≡ s → Sized (read (words_after s w q)) × demand.Passes (words_after s w q)
    go accepted e =
        let u = (judge_out (read w) q (sym (whole_answer w q) ∙ e)).1 in
        (subst (λ (d : Book). Sized d) (sym (changed_book w q sized u)) (blind_sized q sized u), (words_exact w sized passes q u).1 e)
    go (says n r) e = (sized, passes)

-- So every run of requests does.
run_passes : (w : ℕ → ℕ) → demand.Reached w → Sized (read w) × demand.Passes w
run_passes w demand.blank =
    let sized = read_sized (λ i. 0) (λ i h. pow_pos 64) in
    (sized, whole_audit (λ i. 0) ∙ sound_audit (read (λ i. 0)) sized blank_sound)
run_passes w (demand.then {w = v} q r) = let p = run_passes v r in step_passes v q p.0 p.1

-- STATEMENT 3: every book reached from the blank one passes the audit.
pub reached_passes : demand.ReachedPasses
reached_passes w r = (run_passes w r).1
