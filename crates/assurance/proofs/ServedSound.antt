-- Every slice that was served from zeros is found sound, by the entries and by the C functions over them.
-- The idea: such a slice agrees, word by word, with a book that demand 3 calls reached; the audit looks at no other words.
use mathlib.Core.Path.{◌≡◌, ap, ◌∙◌}
use mathlib.Core.List.{List}
use Prim.Native.Nat.{ℕ}
use lib.ListN.{length}
use Rattle.std.specs.Prelude.{Ok}
use Rattle.rules.specs.Requests.{Request}
use Rattle.rules.specs.Numbers.{accepted}
use Rattle.rules.specs.Audit.{audited}
use Rattle.book.specs.Slice.{words}
use Rattle.desk.specs.Guarantee.{Stored}
use Rattle.audit.proofs.OneFinding.{found_injective}
use Rattle.towerplank.specs.Told.{four_words}
use Rattle.demands.specs.Demand3.{Reached, kept}
use Rattle.demands.proofs.Demand3.{reached_passes}
use Rattle.assurance.specs.Served.{Served, blank, then, ByEntry, ByC, ServedSound, ServedSoundC}
use Rattle.assurance.proofs.Agree.{agree_audited, Holds, holds_after}

-- the slice has the words of a book that requests have reached
record Like (l : List ℕ) : Type 0 where
  book : ℕ → ℕ
  reached : Reached book
  held : Holds l book

like_after : {before after : List ℕ} {q : Request} → Like before → Stored before after q → Like after
like_after {q = q} b o = record { book = kept b.book q; reached = Reached.then q b.reached; held = holds_after b.held o }

-- Whoever serves and stores so leaves such a slice.
served_like : {Serves : List ℕ → List ℕ → Type 0} → ((before after : List ℕ) → Serves before after → (q : Request) × Stored before after q)
    → {l : List ℕ} → Served Serves l → Like l
served_like stores (blank full zeros) = record { book = λ i. 0; reached = Reached.blank; held = record { full = full; same = zeros } }
served_like stores (then {before = b} {after = a} s o) = like_after (served_like stores s) (stores b a o).1

-- Of such a slice the audit answers 0.
like_audited : {l : List ℕ} → Like l → audited (length l) (words l) ≡ accepted
like_audited {l} b =
    ap (λ (n : ℕ). audited n (words l)) b.held.full ∙ agree_audited b.held.same ∙ reached_passes b.book b.reached

-- STATEMENT 1: the entries.
pub served_sound : ServedSound
served_sound l s f e = found_injective f (Ok tt) (e ∙ like_audited (served_like stores s))
  where
    stores : (before after : List ℕ) → ByEntry before after → (q : Request) × Stored before after q
    stores before after (q, (r, o)) = (q, o.stored)

-- STATEMENT 2: the C functions.
pub served_sound_c : ServedSoundC
served_sound_c l s four e = e ∙ ap four_words (like_audited (served_like stores s))
  where
    stores : (before after : List ℕ) → ByC before after → (q : Request) × Stored before after q
    stores before after (q, (four, o)) = (q, o.stored)
