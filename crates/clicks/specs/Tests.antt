-- The conditions of Clicks.antt as tests, which compute: yes or no, for a list that is written down. And a request that takes back, written
-- down for the one that it takes back.
use Rattle.std.specs.Prelude.{Bool, true, ◌&&◌, List, [], ◌∷◌, ℕ, leb}
use Rattle.rules.specs.Book.{book_words}
use Rattle.rules.specs.Requests.{Request}
use Rattle.rules.specs.Numbers.{is_accepted, answer}
use Rattle.demands.specs.Demand3.{kept}
use Rattle.clicks.specs.Clicks.{kind_back}

-- each request of the list is of kinds 4 to 10
abbrev pub all_adding : List Request → Bool
all_adding [] = true
all_adding (q ∷ qs) = (leb 4 q.kind && leb q.kind 10) && all_adding qs

-- all are accepted one after the other, from the words w
abbrev pub all_accepted : (ℕ → ℕ) → List Request → Bool
all_accepted w [] = true
all_accepted w (q ∷ qs) = is_accepted (answer book_words w q) && all_accepted (kept w q) qs

-- the request that takes back what q adds, with the numbers of q
abbrev pub taking_back : Request → Request
taking_back q = record { kind = kind_back q.kind; a = q.a; b = q.b; c = q.c }
