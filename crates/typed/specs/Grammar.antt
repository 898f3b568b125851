-- What a line of the panel says.
--
--   line     nothing | show | show SORT THING | audit | help | help WORD | quit | name SORT THING NAME | try request | request
--   request  a kind, by its number or its word, then the arguments that it uses, in the order a, b, c of document 01
--
-- Every definition here computes. `at` is where to read on; a fault names the word that it is about by where that stands.
use Rattle.std.specs.Prelude.{Bool, true, false, ◌&&◌, not, List, ℕ, eqb, ltb, Option, Some, None, Result, Ok, Err}
use Rattle.decimal.specs.Decimal.{number_of}
use Rattle.decimal.specs.declared.Unread.{Unread}
use Rattle.decimal.specs.declared.Unread.TheVariants.{TooLarge as large_number, NotDecimal as no_number}
use Rattle.text.specs.Rows.{find_row}
use Rattle.text.specs.Written.{written}
use Rattle.labels.specs.declared.Sort.{Sort}
use Rattle.labels.specs.declared.Sort.TheVariants.{Task, Role, Person, Order}
use Rattle.labels.specs.Names.{sort_number, is_name, found}
use Rattle.vocabulary.specs.Vocabulary.{show_row, audit_row, help_row, quit_row, name_row, try_row, row_count, row_for, kind_of}
use Rattle.typed.specs.Words.{start_from, end_from, word_at, by_word}
use Rattle.typed.specs.Arguments.{Argument, thing_at, argument_at, wanted}
use Rattle.typed.specs.declared.arguments.Reason.TheVariants.{UnknownWord, TooLarge, TooFew, TooMany, TooLong, NotSort, NotName, Taken, NotInRange}
use Rattle.typed.specs.declared.arguments.Fault.{Fault as Wrong}
use Rattle.typed.specs.declared.Line.{Line}
use Rattle.typed.specs.declared.Line.TheVariants.{Blank, Ask, Try, Name, Show, ShowOne, Audit, Help, HelpOn, Quit, Fault}

-- the sort of thing of a row of the sorts' words: the fifth says person in document 01's word
unfoldable pub sort_at : ℕ → Option Sort
sort_at row =
    elim (eqb row 0) [
      | true ↦ Some Task
      | false ↦ elim (eqb row 1) [
        | true ↦ Some Role
        | false ↦ elim (eqb row 3) [ true ↦ Some Order | false ↦ elim (ltb row 5) [ true ↦ Some Person | false ↦ None ] ]
      ]
    ]

-- the sort of thing that a word names, if it names one
unfoldable pub sort_for : List ℕ → Option Sort
sort_for word = sort_at (find_row (written "task    role    person  order   subject ") 0 5 8 word)

-- what follows from a sort, if there is one
unfoldable pub by_sort : Option Sort → Line → (Sort → Line) → Line
by_sort None missing there = missing
by_sort (Some sort) missing there = there sort

-- the request, asked or only tried
unfoldable pub asked : Bool → ℕ → ℕ → ℕ → ℕ → Line
asked trial kind a b c =
    elim trial [ true ↦ Try (record { kind = kind; a = a; b = b; c = c }) | false ↦ Ask (record { kind = kind; a = a; b = b; c = c }) ]

-- the line that is said, of what reading gave: that line, or the fault
unfoldable pub line_said : Result Line Wrong → Line
line_said (Ok said) = said
line_said (Err fault) = Fault fault.reason fault.start

-- what follows from an argument: `rest` of its value and of where the line goes on, or the fault
unfoldable pub following : (ℕ → ℕ → Line) → Argument → Line
following rest (Ok (n, behind)) = rest n behind
following rest (Err fault) = Fault fault.reason fault.start

-- another thing of the sort than n has the name
unfoldable pub is_taken : List ℕ → Sort → ℕ → List ℕ → Bool
is_taken names sort n name = ltb (found names (sort_number sort) name) 64 && not (eqb (found names (sort_number sort) name) n)

module _ (line : List ℕ) (whole : Bool) where
  -- What follows from the word from `at` on: a line that is cut there is too long, the word is missing, or it is there: where it
  -- starts, where it ends, and its bytes.
  unfoldable pub by_next : ℕ → Line → (ℕ → ℕ → List ℕ → Line) → Line
  by_next at missing there =
      by_word line whole at (Fault TooLong (start_from line at)) missing (there (start_from line at) (end_from line at) (word_at line at))

  -- what is said, where the line ends at `at`
  unfoldable pub ends : ℕ → Line → Line
  ends at said = by_next at said (λ start end word. Fault TooMany start)

  -- help on a word of the panel
  unfoldable pub help_on : ℕ → ℕ → List ℕ → Line
  help_on start end word = elim (ltb (row_for word) row_count) [ true ↦ ends end (HelpOn (row_for word)) | false ↦ Fault UnknownWord start ]

  -- `help` alone, or with a word of the panel
  unfoldable pub help_at : ℕ → Line
  help_at at = by_next at Help help_on

  module _ (names : List ℕ) where
    -- the rest of a request, once its kind, a and b are read
    unfoldable pub third_argument : Bool → ℕ → ℕ → ℕ → ℕ → Line
    third_argument trial kind a b at =
        following (λ c behind. ends behind (asked trial kind a b c)) (argument_at line whole names (wanted kind).2 at)

    -- .. once its kind and a are read
    unfoldable pub second_argument : Bool → ℕ → ℕ → ℕ → Line
    second_argument trial kind a at =
        following (λ b behind. third_argument trial kind a b behind) (argument_at line whole names (wanted kind).1 at)

    -- .. once its kind is read
    unfoldable pub first_argument : Bool → ℕ → ℕ → Line
    first_argument trial kind at =
        following (λ a behind. second_argument trial kind a behind) (argument_at line whole names (wanted kind).0 at)

    -- a request whose kind is given as a number
    unfoldable pub by_number : Bool → ℕ → ℕ → Result ℕ Unread → Line
    by_number trial start end (Ok kind) = first_argument trial kind end
    by_number trial start end (Err large_number) = Fault TooLarge start
    by_number trial start end (Err no_number) = Fault UnknownWord start

    -- a request that begins with a word: its kind is a word of the panel or a number
    unfoldable pub by_kind : Bool → ℕ → ℕ → List ℕ → Line
    by_kind trial start end word =
        elim (eqb (kind_of (row_for word)) 0) [
          | true ↦ by_number trial start end (number_of word)
          | false ↦ first_argument trial (kind_of (row_for word)) end
        ]

    -- the request that stands from `at` on
    unfoldable pub request_at : Bool → ℕ → Line
    request_at trial at = by_next at (Fault TooFew (start_from line at)) (by_kind trial)

    -- one thing of a sort is shown
    unfoldable pub show_of : ℕ → ℕ → List ℕ → Line
    show_of start end word =
        by_sort (sort_for word) (Fault NotSort start)
        (λ sort. following (λ n behind. ends behind (ShowOne sort n)) (thing_at line whole names sort end))

    -- `show` alone, or with a sort and one of it
    unfoldable pub show_at : ℕ → Line
    show_at at = by_next at Show show_of

    -- the word as a name for thing n of the sort
    unfoldable pub labelled : Sort → ℕ → ℕ → ℕ → List ℕ → Line
    labelled sort n start end word =
        elim (is_name word) [
          | true ↦ elim (is_taken names sort n word) [ true ↦ Fault Taken start | false ↦ ends end (Name sort n start end) ]
          | false ↦ Fault NotName start
        ]

    -- the name from `at` on, for thing n of the sort
    unfoldable pub label_at : Sort → ℕ → ℕ → Line
    label_at sort n at = by_next at (Fault TooFew (start_from line at)) (labelled sort n)

    -- the thing from `at` on, whose number is 0 to 63, and then its name
    unfoldable pub named_at : Sort → ℕ → Line
    named_at sort at =
        following
        (λ n behind. elim (ltb n 64) [ true ↦ label_at sort n behind | false ↦ Fault NotInRange (start_from line at) ])
        (thing_at line whole names sort at)

    -- the word as a sort, and then one of it and its name
    unfoldable pub name_of : ℕ → ℕ → List ℕ → Line
    name_of start end word = by_sort (sort_for word) (Fault NotSort start) (λ sort. named_at sort end)

    -- `name`, a sort, one of it and its name
    unfoldable pub name_at : ℕ → Line
    name_at at = by_next at (Fault TooFew (start_from line at)) name_of

    -- the line that begins with the word of a row, which ends before `end`
    unfoldable pub begun_by : ℕ → ℕ → Line
    begun_by row end =
        elim (eqb row show_row) [
          | true ↦ show_at end
          | false ↦ elim (eqb row audit_row) [
            | true ↦ ends end Audit
            | false ↦ elim (eqb row help_row) [
              | true ↦ help_at end
              | false ↦ elim (eqb row quit_row) [
                | true ↦ ends end Quit
                | false ↦ elim (eqb row name_row) [
                  | true ↦ name_at end
                  | false ↦ elim (eqb row try_row) [ true ↦ request_at true end | false ↦ request_at false 0 ]
                ]
              ]
            ]
          ]
        ]

-- what the line says
unfoldable pub line_of : List ℕ → Bool → List ℕ → Line
line_of line whole names = by_next line whole 0 Blank (λ start end word. begun_by line whole names (row_for word) end)
