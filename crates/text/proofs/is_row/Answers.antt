-- A word that is too long is refused; else the letters decide.
use Rattle.std.proofs.Common.{◌∙◌}
use borrow.Author.Tests.{lt-leb}
use Rattle.text.proofs.RowLaws.{row_long, row_fits}
use Rattle.text.proofs.is_row.Goals as goal

pub returns-then-word-width : goal.returns-then-word-width
returns-then-word-width c = c.same_letters.ensures ∙ row_fits _ _ _ _ c.if-word-width.true

pub returns-else-word-width : goal.returns-else-word-width
returns-else-word-width c = lt-leb _ _ c.if-word-width.false ∙ row_long _ _ _ _ c.if-word-width.false
