-- The words of a line: parted by blanks, up to a comment. Every definition here computes.
use Rattle.std.specs.Prelude.{Bool, true, false, ◌&&◌, ◌||◌, not, List, [], ◌∷◌, ℕ, ◌+◌, ◌-◌, min, eqb, length, take, drop}
use Rattle.typed.specs.declared.words.Span.{Span}

-- a space, a tab or a carriage return
unfoldable pub is_blank : ℕ → Bool
is_blank b = eqb b 32 || eqb b 9 || eqb b 13

-- the byte belongs to a word, or to the blanks before one; # (byte 35) begins a comment, which counts as the end of the line
unfoldable pub belongs : Bool → ℕ → Bool
belongs in_word b = elim in_word [ true ↦ not (is_blank b || eqb b 35) | false ↦ is_blank b ]

-- how many bytes of such a kind the bytes begin with
unfoldable pub run : Bool → List ℕ → ℕ
run in_word [] = 0
run in_word (b ∷ l) = elim (belongs in_word b) [ true ↦ 1 + run in_word l | false ↦ 0 ]

-- where these end that stand from `from` on
unfoldable pub past : List ℕ → ℕ → Bool → ℕ
past line from in_word = from + run in_word (drop from line)

-- where the word from `at` on begins
unfoldable pub start_from : List ℕ → ℕ → ℕ
start_from line at = past line (min at (length line)) false

-- .. and where it ends, which is where it begins where the line has no more words
unfoldable pub end_from : List ℕ → ℕ → ℕ
end_from line at = past line (start_from line at) true

-- the word from `at` on is cut: the line went on past the last byte here, and the word, or what comes behind it, with it
unfoldable pub is_cut : List ℕ → Bool → ℕ → Bool
is_cut line whole at = eqb (end_from line at) (length line) && not whole

-- the word from `at` on, by where it stands
abbrev pub span_from : List ℕ → ℕ → Bool → Span
span_from line at whole = record { start = start_from line at; end = end_from line at; cut = is_cut line whole at }

-- the bytes from `start` to before `end`
abbrev pub part : ℕ → ℕ → List ℕ → List ℕ
part start end line = take (end - start) (drop start line)

-- the bytes of the word from `at` on
abbrev pub word_at : List ℕ → ℕ → List ℕ
word_at line at = part (start_from line at) (end_from line at) line

-- what follows from the word from `at` on: it is cut, it is missing, or it is there
unfoldable pub by_word : {A : Type 0} → List ℕ → Bool → ℕ → A → A → A → A
by_word line whole at cut missing there =
    elim (is_cut line whole at) [ true ↦ cut | false ↦ elim (eqb (start_from line at) (end_from line at)) [ true ↦ missing | false ↦ there ] ]
