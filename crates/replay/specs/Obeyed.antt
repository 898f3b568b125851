-- What a line of a stream does to the words, and what comes of it. The book is the first n of the words, or all of them.
use Rattle.std.specs.Prelude.{◌≡◌, List, ℕ, ◌≤◌, length, take, drop, set, replicate}
use Rattle.rules.specs.Requests.{Request}
use Rattle.rules.specs.Numbers.{answer}
use Rattle.rules.specs.Audit.{audited}
use Rattle.book.specs.Slice.{words}
use Rattle.answers.specs.declared.Reply.{Reply}
use Rattle.answers.specs.Replies.{reply_of}
use Rattle.desk.specs.Guarantee.{ask, Stored}
use Rattle.stream.specs.declared.Command.{Command}
use Rattle.stream.specs.declared.Command.TheVariants.{New, Word, Request as Asks, Audit, Other}
use Rattle.replay.specs.declared.doing.Outcome.{Outcome}
use Rattle.replay.specs.declared.doing.Outcome.TheVariants.{Cleared, Put, Answered, Audited, Nothing}

-- r is n, or m where that is less
pub record Front (n m r : ℕ) : Type 0 where
  pub within : r ≤ m
  pub as_asked : n ≤ m → r ≡ n
  pub all : m ≤ n → r ≡ m

-- the reply of document 01 to the request q on the first n words
abbrev pub reply_to : List ℕ → ℕ → Request → Reply
reply_to l n q = reply_of (answer (length (take n l)) (words (take n l)) q)

-- the reply of document 01 to the audit of the first n words
abbrev pub audit_of : List ℕ → ℕ → Reply
audit_of l n = reply_of (audited (length (take n l)) (words (take n l)))

-- the words were `before` and are `after` the request q on the first n of them
pub record Changed (before after : List ℕ) (n : ℕ) (q : Request) : Type 0 where
  pub stored : Stored (take n before) (take n after) q
  pub beyond : drop n after ≡ drop n before

-- the words were `before` and are `after` the command, and r came of it
abbrev pub Obeyed : List ℕ → List ℕ → ℕ → Command → Outcome → Type 0
Obeyed before after n (New size) r = (r ≡ Cleared size) × (after ≡ replicate (length before) 0)
Obeyed before after n (Word i v) r = (r ≡ Put i v) × (after ≡ set before i v)
Obeyed before after n (Asks k a b c) r = (r ≡ Answered (reply_to before n (ask k a b c))) × Changed before after n (ask k a b c)
Obeyed before after n Audit r = (r ≡ Audited (audit_of before n)) × (after ≡ before)
Obeyed before after n Other r = (r ≡ Nothing) × (after ≡ before)

-- how many words the book has after what came of a line
abbrev pub length_after : ℕ → Outcome → ℕ
length_after n (Cleared size) = size
length_after n (Put i v) = n
length_after n (Answered reply) = n
length_after n (Audited reply) = n
length_after n Nothing = n

-- the words were `before` and are `after` the command, and the book had n words and has m
abbrev pub Carried : List ℕ → List ℕ → ℕ → Command → ℕ → Type 0
Carried before after n c m = (r : Outcome) × Obeyed before after n c r × (m ≡ length_after n r)
