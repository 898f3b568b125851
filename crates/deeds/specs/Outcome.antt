-- What a deed does on a lent slice, once its arguments fit: its answer and the book afterwards.
-- Every function that carries out a kind promises `Settled`; the desk chooses the kind.
use Rattle.std.specs.Prelude.{◌≡◌, List, ℕ}
use Rattle.rules.specs.Book.{Book}
use Rattle.rules.specs.Requests.{Deed, change}
use Rattle.rules.specs.Numbers.{Said, accepted, says, or_else, state_refusal, conflicts, first_of}
use Rattle.book.specs.Slice.{tables, Full}
use Rattle.answers.specs.Answers.{Answer, said}

-- the refusals of the deed first (3, 5 to 11; in kind 13 also 4), then the conflicts
unfoldable pub decide : Book → Deed → ℕ → ℕ → ℕ → Said
decide d k a b c = or_else (state_refusal d k a b c) (first_of (conflicts k c) d a b)

-- the new book where the answer is 0, else the old one
unfoldable pub settle : Said → Book → Book → Book
settle accepted new old = new
settle (says n r) new old = old

-- a full slice was `before`, is `after`, and r was answered
pub record Settled (before after : List ℕ) (k : Deed) (a b c : ℕ) (r : Answer) : Type 0 where
  pub answer : said r ≡ decide (tables before) k a b c
  pub full : Full after
  pub book : tables after ≡ settle (decide (tables before) k a b c) (change (tables before) k a b c) (tables before)
