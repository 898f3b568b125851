-- How a line is gathered, byte by byte, on a text with room for so many.
use Rattle.std.specs.Prelude.{◌≡◌, Bool, true, false, ◌&&◌, ◌||◌, List, [], ◌∷◌, ◌++◌, ℕ, ◌≤◌, ltb, eqb, length, take, Result, IsErr}
use Rattle.input.specs.declared.Input.TheVariants.{Open, Failed}
use Rattle.input.specs.declared.Reading.{Reading}

-- before the first line: nothing is read, nothing held, nothing failed
abbrev pub unread : Reading
unread = record { at = 0; end = 0; held = 0; whole = true; input = Open }

-- where reading has failed there is no line
abbrev pub NoLine : {A E : Type 0} → Reading → Result A E → Type 0
NoLine o read = o.input ≡ Failed → IsErr read

-- the byte b belongs on the text: it does not end the line, and there is room
unfoldable pub kept : ℕ → List ℕ → ℕ → Bool
kept room held b = elim (eqb b 10) [ true ↦ false | false ↦ ltb (length held) room ]

-- what is held of a line with the byte b behind it: a newline ends the line, and what finds no room is passed over
unfoldable pub held_with : ℕ → List ℕ → ℕ → List ℕ
held_with room held b = elim (kept room held b) [ true ↦ held ++ b ∷ [] | false ↦ held ]

-- the line is whole still: it was, and the byte b ends it or found room
unfoldable pub whole_with : ℕ → List ℕ → ℕ → Bool → Bool
whole_with room held b whole = whole && (eqb b 10 || kept room held b)

-- the text was `before` and is `after` the byte b was taken, and the reading was r and is o
pub record Taken (before after : List ℕ) (r o : Reading) (b : ℕ) : Type 0 where
  pub fits : o.held ≤ length after
  pub read : o.input ≡ r.input
  pub bytes : take o.held after ≡ held_with (length before) (take r.held before) b
  pub still : o.whole ≡ whole_with (length before) (take r.held before) b r.whole
