-- What a user may rely on, of the slices that the entries really get: demand 3 carried to the guarantees of the code.
-- proofs/ServedSound.antt shows both statements from the third statement of demand 3.
use Rattle.std.specs.Prelude.{◌≡◌, List, [], ◌∷◌, ℕ, ◌<◌, Ok}
use Rattle.rules.specs.Book.{book_words}
use Rattle.rules.specs.Requests.{Request}
use Rattle.book.specs.Slice.{words, Full}
use Rattle.answers.specs.Answers.{Answer}
use Rattle.answers.specs.Findings.{Finding}
use Rattle.desk.specs.Guarantee.{Answered}
use Rattle.audit.specs.Guarantee.{Finds}
use Rattle.towerplank.specs.Told.{Told, ToldAudit}

-- a full slice of zeros, served any number of times
pub data Served (Serves : List ℕ → List ℕ → Type 0) : List ℕ → Type 0 where
  blank : {l : List ℕ} → Full l → ((i : ℕ) → i < book_words → words l i ≡ 0) → Served Serves l
  then : {before after : List ℕ} → Served Serves before → Serves before after → Served Serves after

-- A request served: the slice was the one and is the other.
abbrev pub Serving : Type 1
Serving = Request → List ℕ → List ℕ → Type 0

-- By the request entry, whatever it answers ..
abbrev pub Entry : Serving
Entry q before after = (r : Answer) × Answered before after q r

-- .. or by the C function.
abbrev pub InC : Serving
InC q before after = (four : List ℕ) × Told before after q four

-- The request entry served it, whatever was asked and answered ..
abbrev pub ByEntry : List ℕ → List ℕ → Type 0
ByEntry before after = (q : Request) × Entry q before after

-- .. or the C function did.
abbrev pub ByC : List ℕ → List ℕ → Type 0
ByC before after = (q : Request) × InC q before after

-- 1. The audit entry finds every slice that the request entry has served sound: no other finding meets its guarantee.
abbrev pub ServedSound : Type 0
ServedSound = (l : List ℕ) → Served ByEntry l → (f : Finding) → Finds l f → f ≡ Ok tt

-- 2. The same of the two C functions: the audit tells four zeros.
abbrev pub ServedSoundC : Type 0
ServedSoundC = (l : List ℕ) → Served ByC l → (four : List ℕ) → ToldAudit l four → four ≡ 0 ∷ 0 ∷ 0 ∷ 0 ∷ []
