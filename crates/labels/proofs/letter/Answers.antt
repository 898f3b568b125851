-- In the row the letter is read; behind it, and where there is no row, there are blanks.
use mathlib.Core.Path.{sym, ◌∙◌}
use native.Mathlib.Omega.{arith}
use Rattle.labels.proofs.NameLaws.{letter_no_thing, letter_behind, letter_within}
use Rattle.labels.proofs.letter.Goals as goal

pub returns-in-Some : goal.returns-in-Some
returns-in-Some c =
    let at = c.in-Some.ensures in
    c.letter.ensures ∙ letter_within _ _ _ _ at.0.0 _ at.0.1 c.if-i-lt-WIDTH.true at.1

pub returns-in_default : goal.returns-in_default
returns-in_default c =
    let at = c.in-Some.ensures in
    letter_behind _ _ _ _ at.0.0 at.0.1 (omega arith)

pub returns-in_default-2 : goal.returns-in_default-2
returns-in_default-2 c = sym (letter_no_thing _ _ _ _ c.in_default.ensures)
