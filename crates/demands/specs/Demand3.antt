-- DEMAND 3, the third of the demands made of the book: the checks are exact. Three statements, each proved under its own name in
-- proofs/Demand3.antt.
-- They speak of a lent slice of 4,676 words w, of the answer, the blind change and the audit as crate rules defines them.
use Rattle.std.specs.Prelude.{◌≡◌, ◌↔◌, ℕ}
use Rattle.rules.specs.Book.{book_words, read, write}
use Rattle.rules.specs.Requests.{Request}
use Rattle.rules.specs.Numbers.{accepted, refusal, blind, answer, words_after}
use Rattle.rules.specs.Audit.{audited}
use Rattle.rules.specs.Meaning.{Fits}

-- the audit answers 0
abbrev pub Passes : (ℕ → ℕ) → Type 0
Passes w = audited book_words w ≡ accepted

-- None of the refusals meets the request: 3 to 11 are asked here, and where the audit passes there is no place for 1 and 2.
abbrev pub Unrefused : (ℕ → ℕ) → Request → Type 0
Unrefused w q = refusal (read w) q ≡ accepted

-- the request is accepted: the answer is 0
abbrev pub Accepted : (ℕ → ℕ) → Request → Type 0
Accepted w q = answer book_words w q ≡ accepted

-- the words of the blindly changed book
abbrev pub changed : (ℕ → ℕ) → Request → ℕ → ℕ
changed w q = write (blind (read w) q)

-- the words that are kept after the answer
abbrev pub kept : (ℕ → ℕ) → Request → ℕ → ℕ
kept w q = words_after (answer book_words w q) w q

-- 1. For every book that passes the audit, and every request that none of refusals 1 to 11 meets:
-- the audit of the blindly changed book passes exactly when the request is accepted.
-- So no check is too weak, for an accepted change never breaks a rule, and none is too strong, for a refused one always would.
abbrev pub ChecksExact : Type 0
ChecksExact = (w : ℕ → ℕ) → Fits w → Passes w → (q : Request) → Unrefused w q → Passes (changed w q) ↔ Accepted w q

-- 2. Where a request is accepted the kept book is the blindly changed one, word by word; where it is not, the book is untouched.
abbrev pub BookKept : Type 0
BookKept =
    (w : ℕ → ℕ) (q : Request) → (Accepted w q → (i : ℕ) → kept w q i ≡ changed w q i) × ((Accepted w q → ⊥) → (i : ℕ) → kept w q i ≡ w i)

-- 3. Every book reached from the blank one by any run of requests, accepted or refused, passes the audit.
pub data Reached : (ℕ → ℕ) → Type 0 where
  blank : Reached (λ i. 0)
  then : {w : ℕ → ℕ} (q : Request) → Reached w → Reached (kept w q)

abbrev pub ReachedPasses : Type 0
ReachedPasses = (w : ℕ → ℕ) → Reached w → Passes w
