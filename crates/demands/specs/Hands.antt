-- M-104 beside demand 3: who can break rule 9. Two statements, each proved under its own name in proofs/Hands.antt. The words are those of
-- demand 3, specs/Demand3.antt.
use Rattle.std.specs.Prelude.{◌≡◌, ◌↔◌, ◌⊎◌, ℕ}
use Rattle.rules.specs.Book.{book_words, read}
use Rattle.rules.specs.Requests.{Request}
use Rattle.rules.specs.Numbers.{number_of, blind, answer}
use Rattle.rules.specs.Meaning.{Fits, Keeps}
use Rattle.demands.specs.Demand3.{Passes, Unrefused}

-- the blindly changed book keeps rule 9
abbrev pub HandsKept : (ℕ → ℕ) → Request → Type 0
HandsKept w q = Keeps (blind (read w) q) 9

-- the number that the request is answered
abbrev pub number_told : (ℕ → ℕ) → Request → ℕ
number_told w q = number_of (answer book_words w q)

-- 1. For every book that passes the audit, and every allocation that none of refusals 1 to 11 meets:
-- it would break rule 9 exactly if 33 or 34 is given.
abbrev pub AllocationBreaks : Type 0
AllocationBreaks =
    (w : ℕ → ℕ) → Fits w → Passes w → (q : Request) → q.kind ≡ 13 → Unrefused w q
    → (HandsKept w q → ⊥) ↔ ((number_told w q ≡ 33) ⊎ (number_told w q ≡ 34))

-- 2. A request of any other kind would keep it, whatever other rule it would break.
abbrev pub OthersKeep : Type 0
OthersKeep = (w : ℕ → ℕ) → Fits w → Passes w → (q : Request) → (q.kind ≡ 13 → ⊥) → Unrefused w q → HandsKept w q
