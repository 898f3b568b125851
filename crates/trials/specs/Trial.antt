-- A trial of demand 3: its first statement (crates/demands/specs/Demand3.antt) at one small book, so that it computes.
-- proofs/Instances.antt shows that a trial is nothing but that statement: where demand 3 holds, every trial does. So a rule that is
-- written wrongly, in the checks or in the audit, is found by a trial that fails of it, and one that is written another way is not.
use Rattle.std.specs.Prelude.{Bool, true, false, ◌&&◌, List, [], ◌∷◌, ℕ}
use Rattle.rules.specs.Book.{book_words, read, write}
use Rattle.rules.specs.Requests.{Request}
use Rattle.rules.specs.Numbers.{is_accepted, refusal, blind, answer}
use Rattle.rules.specs.Audit.{implies, audited}
use Rattle.rules.specs.Small.{Word, book_of, small}

-- a book, by its words that are not 0, and a request
pub record Trial : Type 0 where
  pub words : List Word
  pub request : Request

abbrev pub on : List Word → ℕ → ℕ → ℕ → ℕ → Trial
on ws k a b c = record { words = ws; request = record { kind = k; a = a; b = b; c = c } }

-- both hold, or neither does
abbrev pub together : Bool → Bool → Bool
together true t = t
together false true = false
together false false = true

-- FAIR: the book is one of 64-bit words that passes the audit, and none of the refusals meets the request.
unfoldable pub fair : Trial → Bool
fair t =
    let w = book_of t.words in
    small t.words && (is_accepted (audited book_words w) && is_accepted (refusal (read w) t.request))

-- AGREES: the request is accepted exactly if the blindly changed book passes the audit.
unfoldable pub agrees : Trial → Bool
agrees t =
    let w = book_of t.words in
    together (is_accepted (answer book_words w t.request)) (is_accepted (audited book_words (write (blind (read w) t.request))))

-- EXACT: demand 3's first statement, at this book and request.
unfoldable pub exact : Trial → Bool
exact t = implies (fair t) (agrees t)

-- each of a list is fair, or none is
abbrev pub all_fair : List Trial → Bool
all_fair [] = true
all_fair (t ∷ ts) = elim (fair t) [ true ↦ all_fair ts | false ↦ false ]

abbrev pub none_fair : List Trial → Bool
none_fair [] = true
none_fair (t ∷ ts) = elim (fair t) [ true ↦ false | false ↦ none_fair ts ]
