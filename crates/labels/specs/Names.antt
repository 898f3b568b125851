-- Names of tasks (sort 0), roles (1), persons (2) and orders (3), in one table of bytes: 64 rows of 24 bytes for each sort.
-- Every definition here computes.
use Rattle.std.specs.Prelude.{Bool, true, false, ◌&&◌, ◌||◌, not, List, ◌++◌, ℕ, ◌+◌, ◌*◌, ltb, leb, eqb, length, take, drop}
use Rattle.labels.specs.declared.Sort.{Sort}
use Rattle.labels.specs.declared.Sort.TheVariants.{Task, Role, Person, Order, Unused, Any, Mask}
use Rattle.sets.specs.Search.{lowest_from, all}
use Rattle.decimal.specs.Decimal.{is_digit}
use Rattle.text.specs.Rows.{letter_at, filled, find_row}

-- the byte is one of A to Z or a to z
unfoldable pub is_letter : ℕ → Bool
is_letter b = (ltb 64 b && ltb b 91) || (ltb 96 b && ltb b 123)

-- the byte is a letter, a digit, - (45) or _ (95)
unfoldable pub is_name_byte : ℕ → Bool
is_name_byte b = is_letter b || is_digit b || eqb b 45 || eqb b 95

-- every byte of the word may stand in a name
unfoldable pub has_name_bytes : List ℕ → Bool
has_name_bytes word = all (length word) (λ i. is_name_byte (letter_at word i))

-- the word is a name: 1 to 24 bytes that may stand in one, of which the first is no digit
unfoldable pub is_name : List ℕ → Bool
is_name word = not (eqb (length word) 0) && leb (length word) 24 && not (is_digit (letter_at word 0)) && has_name_bytes word

-- the number of a sort: what of the first four has names
abbrev pub sort_number : Sort → ℕ
sort_number Task = 0
sort_number Role = 1
sort_number Person = 2
sort_number Order = 3
sort_number Unused = 4
sort_number Any = 5
sort_number Mask = 6

-- where the row of thing n of the sort begins
abbrev pub row_at : ℕ → ℕ → ℕ
row_at sort n = (sort * 64 + n) * 24

-- the lowest thing of the sort whose name is the word; 64 where the sort is none, the word is no name, or no thing has it
unfoldable pub found : List ℕ → ℕ → List ℕ → ℕ
found names sort word = elim (ltb sort 4 && is_name word) [ true ↦ find_row names (row_at sort 0) 64 24 word | false ↦ 64 ]

-- the table with the word, filled up with blanks, from a place on
unfoldable pub with_row : List ℕ → ℕ → List ℕ → List ℕ
with_row names at word = take at names ++ filled 24 word ++ drop (at + 24) names

-- the table is whole, and there is thing n of the sort
unfoldable pub is_place : List ℕ → ℕ → ℕ → Bool
is_place names sort n = eqb (length names) 6144 && ltb sort 4 && ltb n 64

-- the table once the word is the name of thing n of the sort; as it was where there is no such place or the word is no name
unfoldable pub given : List ℕ → ℕ → ℕ → List ℕ → List ℕ
given names sort n word = elim (is_place names sort n && is_name word) [ true ↦ with_row names (row_at sort n) word | false ↦ names ]

-- letter i of the name of thing n of the sort; a blank behind its end, or where there is no such thing
unfoldable pub name_letter : List ℕ → ℕ → ℕ → ℕ → ℕ
name_letter names sort n i = elim (ltb sort 4 && ltb n 64 && ltb i 24) [ true ↦ letter_at names (row_at sort n + i) | false ↦ 32 ]

-- how long the name is: as many letters as stand before the first blank
unfoldable pub name_length : List ℕ → ℕ → ℕ → ℕ
name_length names sort n = lowest_from 24 0 (λ i. eqb (name_letter names sort n i) 32)

-- the name: what stands from the row's first byte on, as long as the name is
unfoldable pub name_bytes : List ℕ → ℕ → ℕ → List ℕ
name_bytes names sort n = take (name_length names sort n) (drop (row_at sort n) names)
