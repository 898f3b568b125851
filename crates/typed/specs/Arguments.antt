-- The arguments of a request: numbers, names of things, and masks of tasks. Every definition here computes, but for what WordRead says of a word.
-- `line` are the bytes of the line, `whole` says whether they are all of it, `names` is the table of names, `at` is where to read on.
use Rattle.std.specs.Prelude.{◌≡◌, Bool, true, false, ◌&&◌, ◌⊎◌, List, [], ◌∷◌, ℕ, zero, suc, ◌<◌, ◌≤◌, ltb, length, get_or}
use Rattle.std.specs.Prelude.{Option, Result, Ok, Err, MatchOption, MatchResult}
use Rattle.sets.specs.Mask.{with}
use Rattle.decimal.specs.Decimal.{number_of}
use Rattle.decimal.specs.declared.Unread.{Unread}
use Rattle.decimal.specs.declared.Unread.TheVariants.{TooLarge as large_number, NotDecimal as no_number}
use Rattle.text.specs.Rows.{is_row}
use Rattle.text.specs.Written.{written}
use Rattle.labels.specs.declared.Sort.{Sort}
use Rattle.labels.specs.declared.Sort.TheVariants.{Task, Role, Person, Order, Unused, Any, Mask}
use Rattle.labels.specs.Names.{sort_number, is_name, found}
use Rattle.typed.specs.Words.{start_from, end_from, is_cut, span_from, word_at, by_word}
use Rattle.typed.specs.declared.arguments.Reason.TheVariants.{NotNumber, TooLarge, TooFew, TooLong, UnknownName, NotInRange}
use Rattle.typed.specs.declared.arguments.Takes.{Takes}
use Rattle.typed.specs.declared.arguments.Reason.{Reason}
use Rattle.typed.specs.declared.arguments.Fault.{Fault}
use Rattle.typed.specs.declared.words.Span.{Span}

-- What a word stands for: a number, or what is wrong.
abbrev pub Value : Type 0
Value = Result ℕ Reason

-- what is wrong with the word that starts there
abbrev pub fault_at : Reason → ℕ → Fault
fault_at reason start = record { reason = reason; start = start }

-- An argument, with where the line goes on behind it; or what is wrong, with where the word stands.
abbrev pub Argument : Type 0
Argument = Result (ℕ × ℕ) Fault

abbrev pub Is : ℕ → ℕ → Argument
Is n behind = Ok (n, behind)

abbrev pub Not : Reason → ℕ → Argument
Not reason start = Err (fault_at reason start)

-- a row of the table: what a kind takes as a, b and c
abbrev pub takes : Sort → Sort → Sort → Takes
takes a b c = record { 0 = a; 1 = b; 2 = c }

-- Row 0 is of what is no kind: it takes none to three numbers, of any size. Then come kinds 1, 2 and so on.
abbrev pub table : List Takes
table =
    takes Any Any Any
    ∷ takes Task Unused Unused
    ∷ takes Role Unused Unused
    ∷ takes Person Unused Unused
    ∷ takes Task Task Unused
    ∷ takes Task Task Unused
    ∷ takes Task Task Unused
    ∷ takes Task Task Unused
    ∷ takes Task Role Unused
    ∷ takes Role Role Unused
    ∷ takes Role Person Unused
    ∷ takes Role Person Unused
    ∷ takes Order Unused Mask
    ∷ takes Task Order Person
    ∷ takes Order Unused Unused
    ∷ takes Task Role Unused
    ∷ takes Role Role Unused
    ∷ takes Role Person Unused
    ∷ takes Task Task Unused
    ∷ takes Task Task Unused
    ∷ takes Task Task Unused
    ∷ takes Task Task Unused
    ∷ []

-- what a kind takes
unfoldable pub wanted : ℕ → Takes
wanted kind = get_or table kind (takes Any Any Any)

-- the word was read: it is the one from `at` on, the line is not cut there, it has a byte or more, and it lies within the line
pub record WordRead (line : List ℕ) (whole : Bool) (at : ℕ) (word : Span) : Type 0 where
  pub from_at : word ≡ span_from line at whole
  pub not_cut : word.cut ≡ false
  pub not_empty : word.start < word.end
  pub within : word.end ≤ length line

-- the line is cut from `at` on, which makes it too long
abbrev pub IsCut : List ℕ → Bool → ℕ → Fault → Type 0
IsCut line whole at fault = (is_cut line whole at ≡ true) × (fault ≡ fault_at TooLong (start_from line at))

-- it is not, and has no word more
abbrev pub IsOver : List ℕ → Bool → ℕ → Type 0
IsOver line whole at = (is_cut line whole at ≡ false) × (start_from line at ≡ end_from line at)

-- the word from `at` on, if there is one
abbrev pub NextWord : List ℕ → Bool → ℕ → Result (Option Span) Fault → Type 0
NextWord line whole at result =
    MatchResult result (λ next. MatchOption next (IsOver line whole at) (λ word. WordRead line whole at word))
    (λ fault. IsCut line whole at fault)

-- .. where there must be one
abbrev pub NeededWord : List ℕ → Bool → ℕ → Result Span Fault → Type 0
NeededWord line whole at result =
    MatchResult result (λ word. WordRead line whole at word)
    (λ fault. IsCut line whole at fault ⊎ (IsOver line whole at × (fault ≡ fault_at TooFew (start_from line at))))

-- the word as a name of the sort
unfoldable pub called_by : List ℕ → Sort → List ℕ → Value
called_by names sort word = elim (ltb (found names (sort_number sort) word) 64) [ true ↦ Ok (found names (sort_number sort) word) | false ↦ Err UnknownName ]

-- what a number that was read stands for
unfoldable pub counted : Result ℕ Unread → Value
counted (Ok n) = Ok n
counted (Err large_number) = Err TooLarge
counted (Err no_number) = Err NotNumber

-- the word as a number
unfoldable pub counts : List ℕ → Value
counts word = counted (number_of word)

-- the word where a thing of the sort is wanted: a name of that sort, or a number
unfoldable pub value_of : List ℕ → Sort → List ℕ → Value
value_of names sort word = elim (ltb (sort_number sort) 4 && is_name word) [ true ↦ called_by names sort word | false ↦ counts word ]

-- the word is `tasks`
unfoldable pub is_tasks : List ℕ → Bool
is_tasks word = is_row (written "tasks") 0 5 word

-- a value as an argument, with where the line goes on behind it; or what is wrong, with where the word stands
unfoldable pub placed_at : Value → ℕ → ℕ → Argument
placed_at (Ok n) start end = Is n end
placed_at (Err reason) start end = Not reason start

module _ (line : List ℕ) (whole : Bool) where
  -- the word from `at` on as a number; 0 where there is none
  unfoldable pub number_at : ℕ → Argument
  number_at at =
      by_word line whole at
      (Not TooLong (start_from line at))
      (Is 0 at)
      (placed_at (counts (word_at line at)) (start_from line at) (end_from line at))

  module _ (names : List ℕ) where
    -- the word from `at` on, which must be there, as a thing of the sort
    unfoldable pub thing_at : Sort → ℕ → Argument
    thing_at sort at =
        by_word line whole at
        (Not TooLong (start_from line at))
        (Not TooFew (start_from line at))
        (placed_at (value_of names sort (word_at line at)) (start_from line at) (end_from line at))

    -- the set with the task that was read, and then with those that stand behind it, as `rest` gives them
    unfoldable pub added_to : (ℕ → ℕ → Argument) → ℕ → ℕ → Argument → Argument
    added_to rest set start (Ok (n, behind)) = elim (ltb n 64) [ true ↦ rest (with set n) behind | false ↦ Not NotInRange start ]
    added_to rest set start (Err fault) = Err fault

    -- the set with the tasks that the words from `at` on name, at most so many
    unfoldable pub tasks_from : ℕ → ℕ → ℕ → Argument
    tasks_from zero set at = Is set at
    tasks_from (suc steps) set at =
        by_word line whole at
        (Not TooLong (start_from line at))
        (Is set at)
        (added_to (tasks_from steps) set (start_from line at) (thing_at Task at))

    -- the tasks behind the word `tasks`, which ends at `end`: one at least
    unfoldable pub listed : ℕ → Argument → Argument
    listed end (Ok a) = tasks_from 64 0 end
    listed end (Err fault) = Err fault

    -- the tasks of an order: a mask, or the word `tasks` and one task or more
    unfoldable pub mask_at : ℕ → Argument
    mask_at at = elim (is_tasks (word_at line at)) [ true ↦ listed (end_from line at) (thing_at Task (end_from line at)) | false ↦ thing_at Unused at ]

    -- the argument from `at` on, of the sort that is wanted
    unfoldable pub argument_at : Sort → ℕ → Argument
    argument_at Unused at = Is 0 at
    argument_at Any at = number_at at
    argument_at Mask at = mask_at at
    argument_at Task at = thing_at Task at
    argument_at Role at = thing_at Role at
    argument_at Person at = thing_at Person at
    argument_at Order at = thing_at Order at
