-- M-102 carried to the guarantees of the code, as Served.antt carries demand 3: of the slices that the entries really get. Two foremen lend
-- slices that are equal in every word, and put one list to them, each in an order of their own.
-- proofs/AnyOrder.antt shows the statements from those of crates/clicks/specs/Clicks.antt.
use Rattle.std.specs.Prelude.{◌≡◌, ℕ, Ok}
use mathlib.Core.List.{List, [], ◌∷◌, Perm}
use Rattle.rules.specs.Requests.{Request}
use Rattle.rules.specs.Meaning.{Fits}
use Rattle.clicks.specs.Clicks.{Adding, AllAdding, TakesBack}
use Rattle.book.specs.Slice.{words}
use Rattle.desk.specs.Guarantee.{Answered}
use Rattle.audit.specs.Guarantee.{Finds}
use Rattle.towerplank.specs.Told.{Told, ToldAudit}
use Rattle.assurance.specs.Served.{Serving, Entry, InC}

-- The requests of a list, served one after the other.
pub data Run (Serves : Serving) : List Request → List ℕ → List ℕ → Type 0 where
  none : {l : List ℕ} → Run Serves [] l l
  first : {q : Request} {qs : List Request} {before between after : List ℕ}
      → Serves q before between → Run Serves qs between after → Run Serves (q ∷ qs) before after

-- The request entry accepts,
abbrev pub EntryAccepts : Serving
EntryAccepts q before after = Answered before after q (Ok tt)

-- and the C function accepts: it tells four zeros.
abbrev pub zeros : List ℕ
zeros = 0 ∷ 0 ∷ 0 ∷ 0 ∷ []

abbrev pub AcceptsInC : Serving
AcceptsInC q before after = Told before after q zeros

-- Two slices equal in every word, which the audit has passed, are served with one list in two orders. If all of the first are accepted, all
-- of the second are, and the slices end equal in every word. (That its words are below 2^64 holds of every slice of u64. That it was accepted,
-- and not answered otherwise, is what OneOutcome and OneTold say: one answer alone meets the guarantee.)
abbrev pub OrderFreeBy : (List ℕ → Type 0) → Serving → Serving → Type 0
OrderFreeBy Passed Serves Accepts =
    (one two one' two' : List ℕ) (qs ps : List Request) → one ≡ two → Fits (words one) → Passed one → AllAdding qs → Perm qs ps
    → Run Accepts qs one one' → Run Serves ps two two' → Run Accepts ps two two' × (two' ≡ one')

-- A request of kinds 4 to 10 is accepted on such a slice, and at once one is put that takes it back: that is accepted too, and the slice is
-- what it was.
abbrev pub RestoredBy : (List ℕ → Type 0) → Serving → Serving → Type 0
RestoredBy Passed Serves Accepts =
    (before between after : List ℕ) (q p : Request) → Fits (words before) → Passed before → Adding q → TakesBack q p
    → Accepts q before between → Serves p between after → Accepts p between after × (after ≡ before)

-- 1. and 2. Of the entries; the audit entry has found the slice sound.
abbrev pub OrderFreeServed : Type 0
OrderFreeServed = OrderFreeBy (λ l. Finds l (Ok tt)) Entry EntryAccepts

abbrev pub RestoredServed : Type 0
RestoredServed = RestoredBy (λ l. Finds l (Ok tt)) Entry EntryAccepts

-- 3. and 4. Of the C functions; the audit has told four zeros.
abbrev pub OrderFreeInC : Type 0
OrderFreeInC = OrderFreeBy (λ l. ToldAudit l zeros) InC AcceptsInC

abbrev pub RestoredInC : Type 0
RestoredInC = RestoredBy (λ l. ToldAudit l zeros) InC AcceptsInC
