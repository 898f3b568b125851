-- A lent slice as a book: its words, 0 past the end, the tables that they make, and the words in which contracts speak of it.
use Rattle.std.specs.Prelude.{◌≡◌, true, false, ◌&&◌, List, ℕ, eqb, length, get_or}
use Rattle.rules.specs.Book.{Book, book_words, read}
use Rattle.rules.specs.Meaning.{Formed}
use Rattle.rules.specs.Requests.{set_row, add_to, take_from, set_head, set_table}

abbrev pub words : List ℕ → ℕ → ℕ
words l i = get_or l i 0

abbrev pub tables : List ℕ → Book
tables l = read (words l)

-- The slice is full: it has as many words as a book.
abbrev pub Full : List ℕ → Type 0
Full l = length l ≡ book_words

-- The slice is a well-formed book: full, and no word of it is bad. The scan finds it out; behind it functions may ask for it.
abbrev pub WellFormed : List ℕ → Type 0
WellFormed l = Full l × Formed (tables l)

-- The slice was `before` and is `after`: it is full, and its tables became f of what they were.
abbrev pub Became : List ℕ → List ℕ → (Book → Book) → Type 0
Became before after f = Full after × (tables after ≡ f (tables before))

-- What becomes of a book where one word is stored: word i of the head is v,
abbrev pub with_head : ℕ → ℕ → Book → Book
with_head i v d = set_head d (set_row d.head i v)

-- row r of table n is v,
abbrev pub with_row : ℕ → ℕ → ℕ → Book → Book
with_row n r v d = set_table d n (set_row (d.row n) r v)

-- the cell of order p, task t is v,
abbrev pub with_cell : ℕ → ℕ → ℕ → Book → Book
with_cell p t v d = record { head = d.head; row = d.row; cell = λ q u. elim (eqb q p && eqb u t) [ true ↦ v | false ↦ d.cell q u ] }

-- number i is in row r of table n,
abbrev pub with_member : ℕ → ℕ → ℕ → Book → Book
with_member n r i d = set_table d n (add_to (d.row n) r i)

-- or is not.
abbrev pub without_member : ℕ → ℕ → ℕ → Book → Book
without_member n r i d = set_table d n (take_from (d.row n) r i)
