-- Document 01, "The words of the book": where each word lies, and what makes a word bad.
-- A book of words is read once into its tables; no rule above this file sees the place of a word.
use Rattle.std.specs.Prelude.{Bool, true, false, ◌&&◌, ◌||◌, not, List, [], ◌∷◌, ℕ, zero, suc, ◌+◌, ◌-◌, ◌*◌, ◌/◌, ◌%◌, ltb, eqb, get_or}
use Rattle.sets.specs.Mask.{bit, within, only}
use Rattle.sets.specs.Search.{lowest_from}

-- A book is a lent slice of exactly 4,676 words: four at the head, nine tables of 64 rows, and from word 580 on the cells.
abbrev pub book_words : ℕ
book_words = 4676

abbrev pub head_words : ℕ
head_words = 4

abbrev pub table_count : ℕ
table_count = 9

abbrev pub cells_at : ℕ
cells_at = 580

-- Where the rows of table n begin.
abbrev pub table_at : ℕ → ℕ
table_at n = head_words + 64 * n

-- What a word is: one of the head, row r of table n, or the cell of order p, task t.
pub data Place : Type 0 where
  in_head : ℕ → Place
  in_table : ℕ → ℕ → Place
  in_cell : ℕ → ℕ → Place

-- What word i is.
unfoldable pub place_of : ℕ → Place
place_of i =
    elim (ltb i head_words) [
      | true ↦ in_head i
      | false ↦ elim (ltb i cells_at) [
        | true ↦ in_table ((i - head_words) / 64) ((i - head_words) % 64)
        | false ↦ in_cell ((i - cells_at) / 64) ((i - cells_at) % 64)
      ]
    ]

-- A book, read: its head, its tables by number, its cells by order and task.
pub record Book : Type 0 where
  pub head : ℕ → ℕ
  pub row : ℕ → ℕ → ℕ
  pub cell : ℕ → ℕ → ℕ

-- The words of the head: 0, 1, 2 are the masks of defined tasks, roles and subjects; 3 is 0.
abbrev pub tasks : Book → ℕ
tasks d = d.head 0

abbrev pub roles : Book → ℕ
roles d = d.head 1

abbrev pub subjects : Book → ℕ
subjects d = d.head 2

-- The tables, by number.
-- words 4..67: static exclusion (SME), a task mask for each task
abbrev pub SME : ℕ
SME = 0

-- 68..131: dynamic exclusion (DME), likewise
abbrev pub DME : ℕ
DME = 1

-- 132..195: role binding (RB), likewise
abbrev pub RB : ℕ
RB = 2

-- 196..259: subject binding (SB), likewise
abbrev pub SB : ℕ
SB = 3

-- 260..323: direct juniors, a role mask for each role
abbrev pub juniors : ℕ
juniors = 4

-- 324..387: tasks assigned to each role
abbrev pub tasks_of : ℕ
tasks_of = 5

-- 388..451: roles assigned to each subject
abbrev pub roles_of : ℕ
roles_of = 6

-- 452..515: active role of each subject, 0 for none, else role + 1
abbrev pub active : ℕ
active = 7

-- 516..579: tasks of each order; 0 means the order isn't open
abbrev pub orders : ℕ
orders = 8

-- Each word is read at its place; 580..4675: cell of order p, task t, at 580 + 64 p + t. Outside its place nothing is read.
unfoldable pub read : (ℕ → ℕ) → Book
read w = record {
  head = λ i. only (ltb i head_words) (w i);
  row = λ n r. only (ltb n table_count && ltb r 64) (w (table_at n + r));
  cell = λ p t. only (ltb p 64 && ltb t 64) (w (cells_at + 64 * p + t));
}

-- What stands at a place ..
abbrev pub standing : Book → Place → ℕ
standing d (in_head i) = d.head i
standing d (in_table n r) = d.row n r
standing d (in_cell p t) = d.cell p t

-- .. is the word there when the tables are written out again.
unfoldable pub write : Book → ℕ → ℕ
write d i = standing d (place_of i)

-- A cell is 128E + S with S below 128: E is 0 or executing role + 1, S is 0 or executing subject + 1.
abbrev pub cell_base : ℕ
cell_base = 128

abbrev pub cell_of : ℕ → ℕ → ℕ
cell_of e s = cell_base * e + s

abbrev pub role_in : ℕ → ℕ
role_in v = v / cell_base

abbrev pub subject_in : ℕ → ℕ
subject_in v = v % cell_base

-- Bad words, of a word v that is not 0.
-- a row of an undefined thing, or a mask that names something undefined
unfoldable pub bad_mask : Bool → ℕ → ℕ → Bool
bad_mask defined known v = not defined || not (within v known)

-- v is 0, or one more than a number of the set m
unfoldable pub names : ℕ → ℕ → Bool
names m zero = true
names m (suc v) = ltb v 64 && bit m v

-- an active role above 64 or undefined, or at an undefined subject
unfoldable pub bad_active : Bool → ℕ → ℕ → Bool
bad_active defined known v = not defined || not (names known v)

-- a cell outside its order's tasks; E or S above 64 or naming something undefined; S above 0 with E = 0
unfoldable pub bad_cell : Bool → ℕ → ℕ → ℕ → Bool
bad_cell in_order known_roles known_subjects v =
    not in_order || (not (names known_roles (role_in v)) || (not (names known_subjects (subject_in v)) || eqb (role_in v) 0))

-- What is bad in row r of a table, where v stands there: its rows belong to the things of `owner`, its masks name things of `known`.
abbrev pub RowTest : Type 0
RowTest = Book → ℕ → ℕ → Bool

abbrev pub masks : (Book → ℕ) → (Book → ℕ) → RowTest
masks owner known d r v = bad_mask (bit (owner d) r) (known d) v

abbrev pub actives : RowTest
actives d r v = bad_active (bit (subjects d) r) (roles d) v

-- an order need not be defined
abbrev pub order_masks : RowTest
order_masks d r v = bad_mask true (tasks d) v

-- the nine tables in their order
unfoldable pub row_tests : List RowTest
row_tests =
    masks tasks tasks
    ∷ masks tasks tasks
    ∷ masks tasks tasks
    ∷ masks tasks tasks
    ∷ masks roles roles
    ∷ masks roles tasks
    ∷ masks subjects roles
    ∷ actives
    ∷ order_masks
    ∷ []

unfoldable pub bad_row : Book → ℕ → ℕ → Bool
bad_row d n r = (get_or row_tests n (λ d r v. false)) d r (d.row n r)

unfoldable pub bad_cell_at : Book → ℕ → ℕ → Bool
bad_cell_at d p t = bad_cell (bit (d.row orders p) t) (roles d) (subjects d) (d.cell p t)

-- Of the head, word 3 must be 0; words 0 to 2 are never bad.
unfoldable pub bad_at : Book → Place → Bool
bad_at d (in_head i) = eqb i 3
bad_at d (in_table n r) = bad_row d n r
bad_at d (in_cell p t) = bad_cell_at d p t

-- word i of the book is bad; a word of 0 never is
unfoldable pub bad : Book → ℕ → Bool
bad d i = let place = place_of i in elim (eqb (standing d place) 0) [ true ↦ false | false ↦ bad_at d place ]

-- the lowest bad word; 4,676 where the book is well-formed
unfoldable pub first_bad : Book → ℕ
first_bad d = lowest_from book_words 0 (bad d)

-- all zeros, a book is blank
abbrev pub blank : Book
blank = read (λ i. 0)
