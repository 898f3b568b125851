-- P1 to P14, and the examples of M-104 and M-105, of the words that the guarantees speak of: each run of a table, from its first request to its
-- last, on a book of words. proofs/OnWords.antt shows it from the computed tables.
use Rattle.std.specs.Prelude.{◌≡◌, List, [], ◌∷◌, ℕ}
use Rattle.rules.specs.Book.{book_words}
use Rattle.rules.specs.Numbers.{answer, words_after}
use Rattle.rules.specs.Small.{Word, book_of}
use Rattle.examples.specs.Examples.{Step, Run, examples}
use Rattle.examples.specs.SeveralOrders.{several_orders}
use Rattle.examples.specs.WholeClash.{whole_clash}

-- the words listed stand in the book w
abbrev pub Stand : (ℕ → ℕ) → List Word → Type 0
Stand w [] = Unit {0}
Stand w (x ∷ xs) = (w x.0 ≡ x.1) × Stand w xs

-- each step gets its answer and leaves its words, and the next one is asked of the words that it left
abbrev pub Goes : (ℕ → ℕ) → List Step → Type 0
Goes w [] = Unit {0}
Goes w (s ∷ ss) =
    let told = answer book_words w s.request in
    let after = words_after told w s.request in
    (told ≡ s.answer) × Stand after s.words × Goes after ss

abbrev pub AllGo : List Run → Type 0
AllGo [] = Unit {0}
AllGo (r ∷ rs) = Goes (book_of r.start) r.steps × AllGo rs

-- P1 to P14 hold of the words.
abbrev pub ExamplesOnWords : Type 0
ExamplesOnWords = AllGo examples

-- So do the runs of M-104 ..
abbrev pub SeveralOnWords : Type 0
SeveralOnWords = AllGo several_orders

-- .. and those of M-105.
abbrev pub ClashOnWords : Type 0
ClashOnWords = AllGo whole_clash
