-- WHAT THE AUDIT'S ANSWER MEANS: three statements on a lent slice of 4,676 words w, down to the sentences of Meaning.antt.
-- Each is proved under its own name in proofs/AuditedLaws.antt.
use Rattle.std.specs.Prelude.{◌≡◌, ◌↔◌, true, false, ℕ, ◌+◌, ◌≤◌, ◌<◌}
use Rattle.rules.specs.Book.{book_words, read, bad}
use Rattle.rules.specs.Numbers.{accepted, say, say_x}
use Rattle.rules.specs.Audit.{rule_count, audited}
use Rattle.rules.specs.Meaning.{Fits, Formed, Keeps}

-- 1. It answers 0 exactly of the well-formed books that keep all ten rules.
abbrev pub AnswersSound : Type 0
AnswersSound =
    (w : ℕ → ℕ) → Fits w
    → (audited book_words w ≡ accepted) ↔ (Formed (read w) × ((n : ℕ) → 1 ≤ n → n ≤ rule_count → Keeps (read w) n))

-- 2. It answers 40 + n exactly of the well-formed books that break rule n and keep every lower one.
abbrev pub AnswersLowest : Type 0
AnswersLowest =
    (w : ℕ → ℕ) → Fits w → (n : ℕ) → 1 ≤ n → n ≤ rule_count
    → (audited book_words w ≡ say (40 + n)) ↔ (Formed (read w) × (Keeps (read w) n → ⊥) × ((k : ℕ) → 1 ≤ k → k < n → Keeps (read w) k))

-- 3. It answers 2 with x = i exactly where word i is bad and no word before it is; and a book with no bad word is well-formed.
abbrev pub AnswersBad : Type 0
AnswersBad =
    (w : ℕ → ℕ) → Fits w
    → ((i : ℕ) → (audited book_words w ≡ say_x 2 i) ↔ ((i < book_words) × (bad (read w) i ≡ true) × ((k : ℕ) → k < i → bad (read w) k ≡ false)))
    × (((i : ℕ) → i < book_words → bad (read w) i ≡ false) ↔ Formed (read w))
