-- Laws of the grammar: what each value that was read makes of the line.
use mathlib.Core.Path.{◌≡◌, refl, sym, ap, ◌∙◌}
use mathlib.Core.Logic.{◌⊎◌}
use mathlib.Core.Bool.{Bool, true, false, not}
use mathlib.Core.List.{List}
use Prim.Native.Nat.{ℕ, ◌≤◌, ◌<◌}
use native.Mathlib.Omega.{arith}
use lib.Dec.{eqb, ltb}
use borrow.Author.Tests.{lt-ltb, le-ltb, eq-eqb, ne_eqb}
use Rattle.decimal.specs.Decimal.{number_of}
use Rattle.text.specs.Rows.{find_row}
use Rattle.text.specs.Written.{written}
use Rattle.labels.specs.Names.{sort_number, is_name, found}
use Rattle.vocabulary.specs.Vocabulary.{show_row, audit_row, help_row, quit_row, name_row, try_row, row_count, row_for, kind_of}
use Rattle.typed.specs.Words.{start_from, span_from, part}
use Rattle.typed.specs.Arguments.{Argument, Is, fault_at, WordRead, IsCut, IsOver, thing_at, argument_at, wanted}
use Rattle.typed.specs.Grammar.{line_said, sort_at, sort_for, asked, by_sort, following, by_next, ends, help_on}
use Rattle.typed.specs.Grammar.{third_argument, second_argument, first_argument}
use Rattle.typed.specs.Grammar.{by_number, by_kind, show_of, is_taken, labelled, label_at, named_at, name_of}
use Rattle.typed.specs.Grammar.{show_at, help_at, name_at, request_at, begun_by, line_of}
use Rattle.typed.proofs.WordLaws.{starts, passed_up, said_cut, said_over, said_neither, said_there}
use Rattle.typed.specs.declared.words.Span.{Span}
use Rattle.std.proofs.Common.{Result, Ok, Err, Option, Some, None}
use Rattle.std.specs.Result.{IsErrAnd}
use Rattle.labels.specs.declared.Sort.{Sort}
use Rattle.labels.specs.declared.Sort.TheVariants.{Person}
use Rattle.typed.specs.declared.arguments.Fault.{Fault as Wrong}
use Rattle.typed.specs.declared.arguments.Takes.{Takes}
use Rattle.typed.specs.declared.arguments.Reason.TheVariants.{UnknownWord, TooFew, NotSort, NotName, Taken, NotInRange}
use Rattle.typed.specs.declared.Line.{Line}
use Rattle.typed.specs.declared.Line.TheVariants.{Blank, Name, ShowOne, Audit, HelpOn, Quit, Fault}

-- the line that a fault is
abbrev pub fault_said : Wrong → Line
fault_said fault = Fault fault.reason fault.start

-- A fault that a `?` passes up, or that is made here, is said.
pub raised : (r : Result Line Wrong) {fault : Wrong} → IsErrAnd r (λ e. e ≡ fault) → line_said r ≡ fault_said fault
unfolding line_said
raised r e = ap line_said (passed_up r e)

pub faulted : (made : Wrong) {fault : Wrong} → made ≡ fault → line_said (Err made) ≡ fault_said fault
unfolding line_said
faulted made e = ap fault_said e

-- Once said it is said.
pub plain : (said : Line) → line_said (Ok said) ≡ said
unfolding line_said
plain said = refl

-- What follows from the word from `at` on: the line is cut there, it is over, which is a fault where a word must be there, or it goes on.
module _ (line : List ℕ) (whole : Bool) (at : ℕ) where
  pub next_cut : (fault : Wrong) → IsCut line whole at fault → (missing : Line) (there : ℕ → ℕ → List ℕ → Line)
      → fault_said fault ≡ by_next line whole at missing there
  unfolding by_next
  next_cut fault h missing there = said_cut line whole at fault_said fault h _ _

  pub next_over : IsOver line whole at → (missing : Line) (there : ℕ → ℕ → List ℕ → Line) → missing ≡ by_next line whole at missing there
  unfolding by_next
  next_over h missing there = said_over line whole at h _ _ _

  pub next_neither : (fault : Wrong) → IsCut line whole at fault ⊎ (IsOver line whole at × (fault ≡ fault_at TooFew (start_from line at)))
      → (there : ℕ → ℕ → List ℕ → Line) → fault_said fault ≡ by_next line whole at (Fault TooFew (start_from line at)) there
  unfolding by_next
  next_neither fault h there = said_neither line whole at fault_said fault h _

  pub next_there : (w : Span) → WordRead line whole at w → (missing : Line) (there : ℕ → ℕ → List ℕ → Line)
      → there w.start w.end (part w.start w.end line) ≡ by_next line whole at missing there
  unfolding by_next
  next_there w h missing there = said_there line whole at w h there _ _

-- The sort of thing of each row.
pub sort_of_row : (word : List ℕ) (row : ℕ) → row ≡ find_row (written "task    role    person  order   subject ") 0 5 8 word → sort_at row ≡ sort_for word
unfolding sort_for
sort_of_row word row e = ap sort_at e

pub person_row : (row : ℕ) → (row ≡ 0 → ⊥) → (row ≡ 1 → ⊥) → (row ≡ 3 → ⊥) → row < 5 → Some Person ≡ sort_at row
unfolding sort_at
person_row row a b c h = rw (sort_at, ne_eqb row 0 a, ne_eqb row 1 b, ne_eqb row 3 c, lt-ltb row 5 h)

pub no_row : (row : ℕ) → 5 ≤ row → None ≡ sort_at row
unfolding sort_at
no_row row h = rw (sort_at, ne_eqb row 0 (λ e. omega arith), ne_eqb row 1 (λ e. omega arith), ne_eqb row 3 (λ e. omega arith), le-ltb row 5 h)

-- Another thing has the name: it was found, and is not thing n.
pub taken_found : (names : List ℕ) (sort : Sort) (n : ℕ) (name : List ℕ) (holder : ℕ)
    → (found names (sort_number sort) name < 64) × (holder ≡ found names (sort_number sort) name) → not (eqb holder n) ≡ is_taken names sort n name
unfolding is_taken
taken_found names sort n name holder h = ap (λ (k : ℕ). not (eqb k n)) h.1 ∙ rw (is_taken, lt-ltb (found names (sort_number sort) name) 64 h.0)

pub taken_none : (names : List ℕ) (sort : Sort) (n : ℕ) (name : List ℕ) → (found names (sort_number sort) name < 64 → ⊥) → false ≡ is_taken names sort n name
unfolding is_taken
taken_none names sort n name h =
    let l : 64 ≤ found names (sort_number sort) name = omega arith in rw (is_taken, le-ltb (found names (sort_number sort) name) 64 l)

-- What follows from an argument that was read.
pub follow : (rest : ℕ → ℕ → Line) (arg : Argument) (n behind : ℕ) → Is n behind ≡ arg → rest n behind ≡ following rest arg
unfolding following
follow rest arg n behind q = ap (following rest) q

pub follow_bad : (rest : ℕ → ℕ → Line) (arg : Argument) (f : Wrong) → Err f ≡ arg → fault_said f ≡ following rest arg
unfolding following
follow_bad rest arg f q = ap (following rest) q

-- `help` with a word of the panel, or with none.
module _ (line : List ℕ) (whole : Bool) (start end : ℕ) (word : List ℕ) where
  pub help_unknown : (row_for word < row_count → ⊥) → Fault UnknownWord start ≡ help_on line whole start end word
  unfolding help_on
  help_unknown h = let l : row_count ≤ row_for word = omega arith in rw (help_on, le-ltb (row_for word) row_count l)

  pub help_known : (row : ℕ) → (row_for word < row_count) × (row ≡ row_for word) → ends line whole end (HelpOn row) ≡ help_on line whole start end word
  unfolding help_on
  help_known row h = ap (λ (r : ℕ). ends line whole end (HelpOn r)) h.1 ∙ rw (help_on, lt-ltb (row_for word) row_count h.0)

module _ (line : List ℕ) (whole : Bool) (names : List ℕ) where
  -- The arguments of a request, each of the sort that the kind takes at that place.
  module _ (trial : Bool) (kind : ℕ) (takes : Takes) (e : takes ≡ wanted kind) (at : ℕ) where
    -- what is read as the sort that stands at one of the places
    of_sort : (place : Takes → Sort) → argument_at line whole names (place takes) at ≡ argument_at line whole names (place (wanted kind)) at
    of_sort place = ap (λ (t : Takes). argument_at line whole names (place t) at) e

    module _ (a b : ℕ) where
      pub third_is : (c behind : ℕ) → Is c behind ≡ argument_at line whole names takes.2 at
          → ends line whole behind (asked trial kind a b c) ≡ third_argument line whole names trial kind a b at
      unfolding third_argument
      third_is c behind q = follow (λ c behind. ends line whole behind (asked trial kind a b c)) _ c behind (q ∙ of_sort (λ t. t.2))

      pub third_bad : (f : Wrong) → Err f ≡ argument_at line whole names takes.2 at → fault_said f ≡ third_argument line whole names trial kind a b at
      unfolding third_argument
      third_bad f q = follow_bad _ _ f (q ∙ of_sort (λ t. t.2))

    module _ (a : ℕ) where
      pub second_is : (b behind : ℕ) → Is b behind ≡ argument_at line whole names takes.1 at
          → third_argument line whole names trial kind a b behind ≡ second_argument line whole names trial kind a at
      unfolding second_argument
      second_is b behind q = follow (λ b behind. third_argument line whole names trial kind a b behind) _ b behind (q ∙ of_sort (λ t. t.1))

      pub second_bad : (f : Wrong) → Err f ≡ argument_at line whole names takes.1 at → fault_said f ≡ second_argument line whole names trial kind a at
      unfolding second_argument
      second_bad f q = follow_bad _ _ f (q ∙ of_sort (λ t. t.1))

    pub first_is : (a behind : ℕ) → Is a behind ≡ argument_at line whole names takes.0 at
        → second_argument line whole names trial kind a behind ≡ first_argument line whole names trial kind at
    unfolding first_argument
    first_is a behind q = follow (λ a behind. second_argument line whole names trial kind a behind) _ a behind (q ∙ of_sort (λ t. t.0))

    pub first_bad : (f : Wrong) → Err f ≡ argument_at line whole names takes.0 at → fault_said f ≡ first_argument line whole names trial kind at
    unfolding first_argument
    first_bad f q = follow_bad _ _ f (q ∙ of_sort (λ t. t.0))

  -- A request that begins with a word: of no kind, or of a kind.
  module _ (trial : Bool) (start end : ℕ) (word : List ℕ) where
    pub kind_number : (0 < kind_of (row_for word) → ⊥)
        → by_number line whole names trial start end (number_of word) ≡ by_kind line whole names trial start end word
    unfolding by_kind
    kind_number h = let z : kind_of (row_for word) ≡ 0 = omega arith in rw (by_kind, eq-eqb _ 0 z)

    pub kind_known : (kind : ℕ) → (0 < kind_of (row_for word)) × (kind ≡ kind_of (row_for word))
        → first_argument line whole names trial kind end ≡ by_kind line whole names trial start end word
    unfolding by_kind
    kind_known kind h =
        ap (λ (k : ℕ). first_argument line whole names trial k end) h.1 ∙ rw (by_kind, ne_eqb (kind_of (row_for word)) 0 (λ e. omega arith))

  -- `show` and `name` with a word that is a sort, or none.
  module _ (start end : ℕ) (word : List ℕ) (sort : Option Sort) (e : sort ≡ sort_for word) where
    pub show_none : sort ≡ None → Fault NotSort start ≡ show_of line whole names start end word
    unfolding show_of by_sort
    show_none h = rw (show_of, sym e, h)

    pub name_none : sort ≡ None → Fault NotSort start ≡ name_of line whole names start end word
    unfolding name_of by_sort
    name_none h = rw (name_of, sym e, h)

    pub name_sort : (s : Sort) → sort ≡ Some s → named_at line whole names s end ≡ name_of line whole names start end word
    unfolding name_of by_sort
    name_sort s h = rw (name_of, sym e, h)

    module _ (s : Sort) (h : sort ≡ Some s) where
      shows : following (λ n behind. ends line whole behind (ShowOne s n)) (thing_at line whole names s end) ≡ show_of line whole names start end word
      unfolding show_of by_sort
      shows = rw (show_of, sym e, h)

      pub show_one : (n behind : ℕ) → Is n behind ≡ thing_at line whole names s end
          → ends line whole behind (ShowOne s n) ≡ show_of line whole names start end word
      show_one n behind q = follow (λ n behind. ends line whole behind (ShowOne s n)) _ n behind q ∙ shows

      pub show_bad : (f : Wrong) → Err f ≡ thing_at line whole names s end → fault_said f ≡ show_of line whole names start end word
      show_bad f q = follow_bad _ _ f q ∙ shows

  -- A word as a name: it is none, another thing has it, or it is given.
  module _ (sort : Sort) (n start end : ℕ) (word : List ℕ) (t : Bool) (et : t ≡ is_name word) where
    pub label_none : t ≡ false → Fault NotName start ≡ labelled line whole names sort n start end word
    unfolding labelled
    label_none h = rw (labelled, sym et ∙ h)

    module _ (yes : t ≡ true) (taken : Bool) (eh : taken ≡ is_taken names sort n word) where
      pub label_taken : taken ≡ true → Fault Taken start ≡ labelled line whole names sort n start end word
      unfolding labelled
      label_taken h = rw (labelled, sym et ∙ yes, sym eh ∙ h)

      pub label_given : taken ≡ false → ends line whole end (Name sort n start end) ≡ labelled line whole names sort n start end word
      unfolding labelled
      label_given h = rw (labelled, sym et ∙ yes, sym eh ∙ h)

  -- The thing that gets a name.
  module _ (sort : Sort) (at : ℕ) where
    -- what follows from the thing's number
    abbrev rest : ℕ → ℕ → Line
    rest n behind = elim (ltb n 64) [ true ↦ label_at line whole names sort n behind | false ↦ Fault NotInRange (start_from line at) ]

    pub named_is : (n behind : ℕ) → Is n behind ≡ thing_at line whole names sort at → n < 64
        → label_at line whole names sort n behind ≡ named_at line whole names sort at
    unfolding named_at
    named_is n behind q h =
        let inside : label_at line whole names sort n behind ≡ rest n behind = rw (rest, lt-ltb n 64 h) in inside ∙ follow rest _ n behind q

    pub named_out : (n behind : ℕ) → Is n behind ≡ thing_at line whole names sort at → 64 ≤ n → (w : Span) → w ≡ span_from line at whole →
        Fault NotInRange w.start ≡ named_at line whole names sort at
    unfolding named_at
    named_out n behind q h w e =
        let outside : Fault NotInRange (start_from line at) ≡ rest n behind = rw (rest, le-ltb n 64 h) in
        ap (Fault NotInRange) (starts line whole at w e) ∙ outside ∙ follow rest _ n behind q

    pub named_bad : (f : Wrong) → Err f ≡ thing_at line whole names sort at → fault_said f ≡ named_at line whole names sort at
    unfolding named_at
    named_bad f q = follow_bad rest _ f q

  -- The line that begins with the word of a row.
  module _ (row end : ℕ) where
    pub begun_show : row ≡ show_row → show_at line whole names end ≡ begun_by line whole names row end
    unfolding begun_by
    begun_show h = rw (h)

    pub begun_audit : row ≡ audit_row → ends line whole end Audit ≡ begun_by line whole names row end
    unfolding begun_by
    begun_audit h = rw (h)

    pub begun_help : row ≡ help_row → help_at line whole end ≡ begun_by line whole names row end
    unfolding begun_by
    begun_help h = rw (h)

    pub begun_quit : row ≡ quit_row → ends line whole end Quit ≡ begun_by line whole names row end
    unfolding begun_by
    begun_quit h = rw (h)

    pub begun_name : row ≡ name_row → name_at line whole names end ≡ begun_by line whole names row end
    unfolding begun_by
    begun_name h = rw (h)

    pub begun_try : row ≡ try_row → request_at line whole names true end ≡ begun_by line whole names row end
    unfolding begun_by
    begun_try h = rw (h)

    pub begun_request : (row ≡ show_row → ⊥) → (row ≡ audit_row → ⊥) → (row ≡ help_row → ⊥) → (row ≡ quit_row → ⊥) → (row ≡ name_row → ⊥) →
        (row ≡ try_row → ⊥) →
        request_at line whole names false 0 ≡ begun_by line whole names row end
    unfolding begun_by
    begun_request a b c d e f =
        rw (begun_by, ne_eqb row show_row a, ne_eqb row audit_row b, ne_eqb row help_row c, ne_eqb row quit_row d, ne_eqb row name_row e, ne_eqb row try_row f)

  -- The line that begins with word w, a word of the panel or another.
  module _ (w : Span) (h : WordRead line whole 0 w) where
    -- the row of the word
    abbrev row_of : ℕ
    row_of = row_for (part w.start w.end line)

    begins : begun_by line whole names row_of w.end ≡ line_of line whole names
    unfolding line_of
    begins = next_there line whole 0 w h Blank (λ start end word. begun_by line whole names (row_for word) end)

    pub line_begun : (row : ℕ) → (row_of < row_count) × (row ≡ row_of) → begun_by line whole names row w.end ≡ line_of line whole names
    line_begun row l = ap (λ (r : ℕ). begun_by line whole names r w.end) l.1 ∙ begins

    pub line_other : (row_of < row_count → ⊥) → request_at line whole names false 0 ≡ line_of line whole names
    line_other l =
        begun_request row_of w.end (λ q. omega arith) (λ q. omega arith) (λ q. omega arith) (λ q. omega arith) (λ q. omega arith) (λ q. omega arith) ∙ begins
