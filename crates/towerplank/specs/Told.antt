-- THE GUARANTEE of the library's two entries, for any slice, any words, any kind and any numbers.
-- It fixes the four words of the answer and every word of the book afterwards; that two outcomes that satisfy it coincide is proved in
-- proofs/OneTold.antt.
use Rattle.std.specs.Prelude.{◌≡◌, List, [], ◌∷◌, ℕ, length}
use Rattle.rules.specs.Requests.{Request}
use Rattle.rules.specs.Numbers.{Said, answer}
use Rattle.rules.specs.Audit.{audited}
use Rattle.book.specs.Slice.{words}
use Rattle.answers.specs.declared.Reply.{Reply}
use Rattle.answers.specs.Replies.{reply_of}
use Rattle.desk.specs.Guarantee.{Stored}

-- the four words that a controller reads: number, x, y and z
abbrev pub listed : Reply → List ℕ
listed r = r.number ∷ r.x ∷ r.y ∷ r.z ∷ []

abbrev pub four_words : Said → List ℕ
four_words s = listed (reply_of s)

-- the book was `before` and is `after`; `four` was told to q
pub record Told (before after : List ℕ) (q : Request) (four : List ℕ) : Type 0 where
  -- the number, x, y and z are those of the documents
  pub told : four ≡ four_words (answer (length before) (words before) q)
  pub stored : Stored before after q

-- The audit of the book l, which is lent for reading, told `four`.
abbrev pub ToldAudit : List ℕ → List ℕ → Type 0
ToldAudit l four = four ≡ four_words (audited (length l) (words l))

-- Two outcomes of one request that satisfy it coincide: the same four words, and the same book, word for word ..
abbrev pub OneTold : Type 0
OneTold =
    (before after after' : List ℕ) (q : Request) (four four' : List ℕ)
    → Told before after q four → Told before after' q four' → (four ≡ four') × (after ≡ after')

-- .. and so do two audits of one book.
abbrev pub OneToldAudit : Type 0
OneToldAudit = (l four four' : List ℕ) → ToldAudit l four → ToldAudit l four' → four ≡ four'
