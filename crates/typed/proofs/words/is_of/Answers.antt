-- The test is the one that the definition has, on either side.
use Rattle.typed.specs.Words.{belongs}
use Rattle.typed.proofs.words.is_of.Goals as goal

pub returns-then-in_word : goal.returns-then-in_word
unfolding belongs
returns-then-in_word c = rw (belongs, c.if-in_word.true, c.is_blank-blank.ensures)

pub returns-else-in_word : goal.returns-else-in_word
unfolding belongs
returns-else-in_word c = rw (belongs, c.if-in_word.false, c.is_blank-blank.ensures)
