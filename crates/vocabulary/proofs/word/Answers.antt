-- Behind the last row there is no word.
use native.Mathlib.Omega.{arith}
use Rattle.vocabulary.proofs.VocabularyLaws.{no_word}
use Rattle.vocabulary.proofs.word.Goals as goal

pub returns-in_default : goal.returns-in_default
returns-in_default c = let h = c.in_default in no_word c.args.row (omega arith)
