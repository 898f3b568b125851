-- The grammar of a line of cases, as a definition that computes: what a line says to a book of `length` words.
--
--     n L          a new book of L words, all 0, L at most 4,700
--     w I V        word I becomes V, I below the length of the book
--     r K A B C    a request
--     a            the audit
--
-- The fields of a line stand between its spaces. The first is the name, of one byte; each other one is a number.
use Rattle.std.specs.Prelude.{◌≡◌, Bool, true, false, List, [], ◌∷◌, ℕ, leb, ltb, eqb, Option, None, Some, Result, Ok, Err}
use Rattle.std.specs.Borrow.{Bor}
use Rattle.decimal.specs.Decimal.{number_of}
use Rattle.decimal.specs.declared.Unread.{Unread}
use Rattle.decimal.specs.declared.Unread.TheVariants.{NotDecimal}
use Rattle.stream.specs.declared.Command.{Command}
use Rattle.stream.specs.declared.Command.TheVariants.{New, Word, Request, Audit, Other}

-- a field is the bytes between two spaces
abbrev pub Fields : Type 0
Fields = List (List ℕ)

-- the first field is longer by the byte b, in front
unfoldable pub longer : ℕ → Fields → Fields
longer b [] = (b ∷ []) ∷ []
longer b (f ∷ fs) = (b ∷ f) ∷ fs

-- the byte is a space
abbrev pub is_space : ℕ → Bool
is_space b = eqb b 32

-- the fields of a line: a space parts two of them
unfoldable pub fields_of : List ℕ → Fields
fields_of [] = [] ∷ []
fields_of (b ∷ l) = elim (is_space b) [ true ↦ [] ∷ fields_of l | false ↦ longer b (fields_of l) ]

-- the number that a field writes; none where the field is empty
unfoldable pub number_in : List ℕ → Result ℕ Unread
number_in [] = Err NotDecimal
number_in (b ∷ l) = number_of (b ∷ l)

-- what a command is, when it goes on with a number and more fields
abbrev pub Further : Type 0
Further = ℕ → Fields → Command

-- the next field writes a number of 64 bits, and the command goes on with it and the fields behind
unfoldable pub with_number : Fields → Further → Command
with_number [] further = Other
with_number (f ∷ fs) further = elim (number_in f) [ Ok v ↦ further v fs | Err e ↦ Other ]

-- there is no field more, and the command is c
unfoldable pub ended : Fields → Command → Command
ended [] c = c
ended (f ∷ fs) c = Other

-- c, where the test holds
unfoldable pub given : Bool → Command → Command
given true c = c
given false c = Other

-- n L
unfoldable pub new_book : Fields → Command
new_book fs = with_number fs (λ l rest. ended rest (given (leb l 4700) (New l)))

-- w I V
unfoldable pub set_word : Fields → ℕ → Command
set_word fs length = with_number fs (λ i rest. with_number rest (λ v rest'. ended rest' (given (ltb i length) (Word i v))))

-- r K A B C
unfoldable pub request : Fields → Command
request fs =
    with_number fs (λ k rest₁. with_number rest₁ (λ a rest₂. with_number rest₂ (λ b rest₃. with_number rest₃ (λ c rest₄. ended rest₄ (Request k a b c)))))

-- the command of that name, with what its fields say
unfoldable pub named : ℕ → Fields → ℕ → Command
named name fs length =
    elim (eqb name 110) [
      | true ↦ new_book fs
      | false ↦ elim (eqb name 119) [
        | true ↦ set_word fs length
        | false ↦ elim (eqb name 114) [ true ↦ request fs | false ↦ elim (eqb name 97) [ true ↦ ended fs Audit | false ↦ Other ] ]
      ]
    ]

-- the first field is the name
unfoldable pub command_in : Fields → ℕ → Command
command_in [] length = Other
command_in ([] ∷ fs) length = Other
command_in ((name ∷ []) ∷ fs) length = named name fs length
command_in ((b ∷ c ∷ l) ∷ fs) length = Other

-- what a line says to a book of `length` words; nothing where it is not whole
unfoldable pub command_of : List ℕ → Bool → ℕ → Command
command_of line true length = command_in (fields_of line) length
command_of line false length = Other

-- the fields behind the space that the rest of a line begins with; none where the line has ended
unfoldable pub fields_behind : List ℕ → Fields
fields_behind [] = []
fields_behind (space ∷ l) = fields_of l

-- the code read the number of the first of `fs`, and those behind it are behind what it left; or that is no number, and it read none
unfoldable pub goes_on : Option (ℕ × Bor (List ℕ)) → Further → Command
goes_on None further = Other
goes_on (Some (v, rest)) further = further v (fields_behind rest.now)

abbrev pub Starts : Fields → Option (ℕ × Bor (List ℕ)) → Type 0
Starts fs read = (further : Further) → with_number fs further ≡ goes_on read further
