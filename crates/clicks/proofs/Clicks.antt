-- M-102, proved: what Swap.antt and Undone.antt say of tables, said of words, and of runs of any length.
use mathlib.Core.Path.{◌≡◌, refl, sym, ap, ◌∙◌, subst}
use mathlib.Core.HLevel.{Π_prop, ×_prop}
use mathlib.Core.Logic.{∥∥₁_elim}
use mathlib.Core.Bool.{true, Bool-set}
use mathlib.Core.List.{List, ◌∷◌, Permᴰ}
use Prim.Native.Nat.{ℕ, ◌<◌}
use native.Mathlib.Nat.{ℕ_set}
use Rattle.rules.specs.Book.{Book, book_words, read, write}
use Rattle.rules.specs.Requests.{Request}
use Rattle.rules.specs.Numbers.{Said, accepted, judge, blind, words_after}
use Rattle.rules.specs.Meaning.{Sized, Sound}
use Rattle.rules.proofs.NumberLaws.{judge_out}
use Rattle.rules.proofs.BookLaws.{read_sized, write_read}
use Rattle.rules.proofs.ChangeLaws.{changed_book}
use Rattle.rules.proofs.AuditLaws.{audit_sound}
use Rattle.rules.proofs.AuditedLaws.{whole_audit}
use Rattle.demands.specs.Demand3.{Passes, Accepted, kept}
use Rattle.demands.proofs.Demand3.{whole_answer, step_passes}
use Rattle.clicks.specs.Clicks as click
use Rattle.clicks.specs.Tests.{all_accepted}
use Rattle.clicks.proofs.TestLaws.{accepts_in, accepts_out}
use Rattle.clicks.proofs.Swap.{Swapped, swapped}
use Rattle.clicks.proofs.Undone.{undone_accepted, undone_book}

-- Words whose tables have their size, and that pass the audit.
record Good (w : ℕ → ℕ) : Type 0 where
  sized : Sized (read w)
  passes : Passes w

-- Their tables are sound,
good_sound : {w : ℕ → ℕ} → Good w → Sound (read w)
good_sound {w} g = audit_sound (read w) g.sized (sym (whole_audit w) ∙ g.passes)

-- and after any request the kept words are such words again.
good_on : {w : ℕ → ℕ} (q : Request) → Good w → Good (kept w q)
good_on {w} q g = let s = step_passes w q g.sized g.passes in record { sized = s.0; passes = s.1 }

-- Of an accepted request:
module _ (w : ℕ → ℕ) (q : Request) (e : Accepted w q) where
  told : judge (read w) q ≡ accepted
  told = sym (whole_answer w q) ∙ e

  -- the kept words are those of the changed book,
  pub kept_words : kept w q ≡ write (blind (read w) q)
  unfolding words_after
  kept_words = ap (λ (s : Said). words_after s w q) e

  -- and its tables are those of the changed book.
  kept_book : Sized (read w) → read (kept w q) ≡ blind (read w) q
  kept_book sized = ap read kept_words ∙ changed_book w q sized (judge_out (read w) q told).1

-- What is accepted of the tables is accepted of the words.
accepted_in : (w : ℕ → ℕ) (d : Book) (q : Request) → read w ≡ d → judge d q ≡ accepted → Accepted w q
accepted_in w d q s e = whole_answer w q ∙ ap (λ (x : Book). judge x q) s ∙ e

-- Two requests change places, on words.
module _ (w : ℕ → ℕ) (good : Good w) (q p : Request) (adds_q : click.Adding q) (adds_p : click.Adding p) (e : Accepted w q) (f : Accepted (kept w q) p) where
  turned : Swapped (read w) q p
  turned =
      swapped (read w) good.sized (good_sound good) q p adds_q adds_p (told w q e)
      (ap (λ (x : Book). judge x p) (sym (kept_book w q e good.sized)) ∙ told (kept w q) p f)

  -- p and then q are accepted,
  swap_first : Accepted w p
  swap_first = accepted_in w (read w) p refl turned.first

  swap_then : Accepted (kept w p) q
  swap_then = accepted_in (kept w p) (blind (read w) p) q (kept_book w p swap_first good.sized) turned.then

  -- and lead to the same words: those of the book changed twice.
  swap_same : kept (kept w p) q ≡ kept (kept w q) p
  swap_same =
      kept_words (kept w p) q swap_then ∙ ap (λ (x : Book). write (blind x q)) (kept_book w p swap_first good.sized)
      ∙ ap write turned.same
      ∙ sym (kept_words (kept w q) p f ∙ ap (λ (x : Book). write (blind x p)) (kept_book w q e good.sized))

-- What a rearrangement ps of qs has, from the words w.
record Likewise (w : ℕ → ℕ) (qs ps : List Request) : Type 0 where
  adding : click.AllAdding ps
  accepts : click.AllAccepted w ps
  same : click.final w ps ≡ click.final w qs

-- Every rearrangement has it, by the way in which it was made: a first request stays and the rest is rearranged, the first two change
-- places and the run goes on from the same words, or two rearrangements follow each other.
likewise : {qs ps : List Request} → Permᴰ qs ps → (w : ℕ → ℕ) → Good w → click.AllAdding qs → click.AllAccepted w qs → Likewise w qs ps
likewise Permᴰ.nil w good adding run = record { adding = tt; accepts = tt; same = refl }
likewise (Permᴰ.cons {a = q} {b = p} {l₁ = qs} {l₂ = ps} e r) w good (h, adding) (x, run) =
    let rest = likewise r (kept w q) (good_on q good) adding run in
    subst (λ (z : Request). Likewise w (q ∷ qs) (z ∷ ps)) e
    (record { adding = (h, rest.adding); accepts = (x, rest.accepts); same = rest.same })
likewise (Permᴰ.swap {a = q} {b = p} {b' = q'} {l = qs} one two) w good (h, (l, adding)) (e, (f, run)) =
    let words = swap_same w good q p h l e f in
    subst (λ (z : Request). Likewise w (q ∷ p ∷ qs) (z ∷ q' ∷ qs)) two
    (subst (λ (z : Request). Likewise w (q ∷ p ∷ qs) (p ∷ z ∷ qs)) one
    (record {
      adding = (l, (h, adding));
      accepts =
          (swap_first w good q p h l e f, (swap_then w good q p h l e f, subst (λ (v : ℕ → ℕ). click.AllAccepted v qs) (sym words) run));
      same = ap (λ (v : ℕ → ℕ). click.final v qs) words;
    }))
likewise (Permᴰ.trans r s) w good adding run =
    let x = likewise r w good adding run in
    let y = likewise s w good x.adding x.accepts in
    record { adding = y.adding; accepts = y.accepts; same = y.same ∙ x.same }

-- STATEMENT 1: the order of clicking does not matter. `Perm` says that there is a way in which the list was rearranged and not which one, so
-- what is taken from it has to be a matter of yes or no: the test of `AllAccepted`, and numbers that are equal.
pub order_free : click.OrderFree
order_free w fit passes qs ps adding run r =
    let good : Good w = record { sized = read_sized w fit; passes = passes } in
    let x = ∥∥₁_elim r (×_prop (Bool-set (all_accepted w ps) true) (Π_prop (λ (i : ℕ). ℕ_set (click.final w ps i) (click.final w qs i)))) (λ d.
    let l = likewise d w good adding run in
    (accepts_in w ps l.accepts, λ i. ap (λ (v : ℕ → ℕ). v i) l.same)) in
    (accepts_out w ps x.0, x.1)

-- What is added and at once taken back, on words.
module _ (w : ℕ → ℕ) (good : Good w) (q p : Request) (adds : click.Adding q) (takes : click.TakesBack q p) (e : Accepted w q) where
  back_accepts : Accepted (kept w q) p
  back_accepts =
      accepted_in (kept w q) (blind (read w) q) p (kept_book w q e good.sized)
      (undone_accepted (read w) good.sized (good_sound good) q p adds takes (told w q e))

  back_words : Accepted (kept w q) p → (i : ℕ) → i < book_words → kept (kept w q) p i ≡ w i
  back_words f i l =
      ap (λ (v : ℕ → ℕ). v i)
      (kept_words (kept w q) p f
      ∙ ap (λ (x : Book). write (blind x p)) (kept_book w q e good.sized)
      ∙ ap write (undone_book (read w) good.sized (good_sound good) q p adds takes (told w q e)))
      ∙ write_read w i l

-- STATEMENT 2: taken back at once, it leaves every word as it was.
pub restored : click.Restored
restored w fit passes = back_words w (record { sized = read_sized w fit; passes = passes })

-- STATEMENT 3: taking it back at once is accepted.
pub back_accepted : click.BackAccepted
back_accepted w fit passes = back_accepts w (record { sized = read_sized w fit; passes = passes })
