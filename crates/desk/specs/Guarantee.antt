-- THE GUARANTEE of the request entry, for any slice, any words, any kind and any numbers.
-- It fixes the answer and every word of the book afterwards; that two outcomes that satisfy it coincide is proved in proofs/OneOutcome.antt.
use Rattle.std.specs.Prelude.{◌≡◌, List, ℕ, ◌<◌, length}
use Rattle.rules.specs.Requests.{Request}
use Rattle.rules.specs.Numbers.{answer, words_after}
use Rattle.book.specs.Slice.{words}
use Rattle.answers.specs.Answers.{Answer, said}

abbrev pub ask : ℕ → ℕ → ℕ → ℕ → Request
ask kind a b c = record { kind = kind; a = a; b = b; c = c }

-- the slice was `before` and is `after` q
pub record Stored (before after : List ℕ) (q : Request) : Type 0 where
  -- it has as many words as it had
  pub as_long : length after ≡ length before
  -- each word is the changed book's where the answer is 0, else the one that stood there
  pub each_word : (i : ℕ) → i < length before → words after i ≡ words_after (answer (length before) (words before) q) (words before) q i

-- the slice was `before` and is `after`; r was answered to q
pub record Answered (before after : List ℕ) (q : Request) (r : Answer) : Type 0 where
  -- the number, x, y and z are those of the documents
  pub told : said r ≡ answer (length before) (words before) q
  pub stored : Stored before after q

-- Two outcomes of one request that satisfy it coincide: the same answer, with its number, x, y and z, and the same slice, word for word.
abbrev pub OneOutcome : Type 0
OneOutcome =
    (before after after' : List ℕ) (q : Request) (r r' : Answer) → Answered before after q r → Answered before after' q r' → (r ≡ r') × (after ≡ after')
