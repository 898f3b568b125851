-- What a user who gives names may rely on. proofs/Kept.antt shows each of the four statements.
use Rattle.std.specs.Prelude.{◌≡◌, true, List, ℕ, ◌≤◌, ◌<◌, length}
use Rattle.text.specs.Rows.{letter_at, is_row}
use Rattle.labels.specs.Names.{is_name, row_at, found, given, name_letter, name_length, name_bytes}

-- the table is whole, there is thing n of the sort, and the word is a name
pub record Nameable (names : List ℕ) (sort n : ℕ) (word : List ℕ) : Type 0 where
  pub whole : length names ≡ 6144
  pub a_sort : sort < 4
  pub a_thing : n < 64
  pub a_name : is_name word ≡ true

-- 1. Once thing n has got the name, the name leads to it, or to a lower thing that has the name too.
abbrev pub GivenFound : Type 0
GivenFound = (names : List ℕ) (sort n : ℕ) (word : List ℕ) → Nameable names sort n word → found (given names sort n word) sort word ≤ n

-- 2. Where no lower thing had the name, it leads to thing n.
abbrev pub FoundAlone : Type 0
FoundAlone =
    (names : List ℕ) (sort n : ℕ) (word : List ℕ) → Nameable names sort n word → n ≤ found names sort word
    → found (given names sort n word) sort word ≡ n

-- 3. Every other thing, of whatever sort, is called what it was called.
abbrev pub OthersKept : Type 0
OthersKept =
    (names : List ℕ) (sort n : ℕ) (word : List ℕ) → Nameable names sort n word
    → (s m : ℕ) → m < 64 → (s ≡ sort → m ≡ n → ⊥) → (other : List ℕ)
    → is_row (given names sort n word) (row_at s m) 24 other ≡ is_row names (row_at s m) 24 other

-- 4. What is shown of thing n is the name that it got: as long, letter by letter, and as the bytes that `name_of` promises.
abbrev pub ShownAsGiven : Type 0
ShownAsGiven =
    (names : List ℕ) (sort n : ℕ) (word : List ℕ) → Nameable names sort n word
    → (name_length (given names sort n word) sort n ≡ length word)
    × ((i : ℕ) → name_letter (given names sort n word) sort n i ≡ letter_at word i)
    × (name_bytes (given names sort n word) sort n ≡ word)
