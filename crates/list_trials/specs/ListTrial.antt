-- Trials of M-102 (crates/clicks/specs/Clicks.antt): its statements at one small book, so that they compute. A list is tried in its own
-- order and turned round; a request is tried with the one that takes it back. proofs/Instances.antt shows that such a trial is
-- nothing but the statement: where that holds, every trial does.
use Rattle.std.specs.Prelude.{Bool, true, false, ◌&&◌, List, [], ◌∷◌, reverse, ℕ, ◌+◌, ltb, eqb}
use Rattle.rules.specs.Book.{book_words, table_at}
use Rattle.rules.specs.Requests.{Request}
use Rattle.rules.specs.Numbers.{is_accepted, answer}
use Rattle.rules.specs.Audit.{implies, audited}
use Rattle.rules.specs.Small.{Word, book_of, small}
use Rattle.demands.specs.Demand3.{kept}
use Rattle.clicks.specs.Clicks.{final}
use Rattle.clicks.specs.Tests.{all_adding, all_accepted, taking_back}

-- a book, by its words that are not 0, a list of requests, and the places that are looked at afterwards
pub record ListTrial : Type 0 where
  pub words : List Word
  pub list : List Request
  pub places : List ℕ

abbrev pub ask : ℕ → ℕ → ℕ → Request
ask k a b = record { kind = k; a = a; b = b; c = 0 }

-- row r of table n
abbrev pub place : ℕ → ℕ → ℕ
place n r = table_at n + r

-- two books have the same words at these places
abbrev pub same_at : (ℕ → ℕ) → (ℕ → ℕ) → List ℕ → Bool
same_at v w [] = true
same_at v w (i ∷ is) = implies (ltb i book_words) (eqb (v i) (w i)) && same_at v w is

-- the book is one of 64-bit words that passes the audit, and the list is one of kinds 4 to 10
abbrev pub ready : ListTrial → Bool
ready t = small t.words && (is_accepted (audited book_words (book_of t.words)) && all_adding t.list)

-- FAIR: on such a book and list, all are accepted one after the other.
unfoldable pub list_fair : ListTrial → Bool
list_fair t = ready t && all_accepted (book_of t.words) t.list

-- ORDERLY: turned round they are all accepted too, and lead to the same words. It is the first statement, at this book and list.
unfoldable pub orderly : ListTrial → Bool
orderly t =
    let w = book_of t.words in
    implies (list_fair t) (all_accepted w (reverse t.list) && same_at (final w (reverse t.list)) (final w t.list) t.places)

-- the request and the one that takes it back are accepted
abbrev pub both_accepted : (ℕ → ℕ) → Request → Bool
both_accepted w q = is_accepted (answer book_words w q) && is_accepted (answer book_words (kept w q) (taking_back q))

-- each request of the list by itself, and what takes it back, leave these words as they were
abbrev pub restores : (ℕ → ℕ) → List ℕ → List Request → Bool
restores w is [] = true
restores w is (q ∷ qs) = implies (both_accepted w q) (same_at (kept (kept w q) (taking_back q)) w is) && restores w is qs

-- TRACELESS: the second statement, at this book, for each request of the list.
unfoldable pub traceless : ListTrial → Bool
traceless t = implies (ready t) (restores (book_of t.words) t.places t.list)

-- each of a list of trials is fair, or none is
abbrev pub all_lists_fair : List ListTrial → Bool
all_lists_fair [] = true
all_lists_fair (t ∷ ts) = elim (list_fair t) [ true ↦ all_lists_fair ts | false ↦ false ]

abbrev pub no_list_fair : List ListTrial → Bool
no_list_fair [] = true
no_list_fair (t ∷ ts) = elim (list_fair t) [ true ↦ false | false ↦ no_list_fair ts ]
