-- What the lines are once the line that they lent is given back.
use Rattle.std.specs.Prelude.{◌≡◌, length, [], Result}
use Rattle.std.specs.Borrow.{RattleType, MutBor, Fml}
use Rattle.std.specs.Io.BufRead.{Rests}
use Rattle.input.specs.Lines.{NoLine}
use Rattle.input.specs.declared.Lines.{Lines}
use Rattle.input.specs.contracts.Lines.{the_row}
use mir.Syntax.{named}

-- the type, where its lifetime is the first that a function names
abbrev pub lines_row : RattleType
lines_row = the_row (record { mir = named 0; lft = [] })

-- where reading has failed there was no line, and both arrays keep their length
abbrev pub GivenBack : {A E : Type 0} → MutBor Lines → Result A E → Fml
GivenBack lines read = Rests lines_row lines (λ after. NoLine after.reading read × (length after.text.now ≡ length lines.now.text.now)
    × (length after.piece.now ≡ length lines.now.piece.now))
