-- What is found is another thing, or the thing itself; or nothing is found.
use Rattle.typed.proofs.GrammarLaws.{taken_found, taken_none}
use Rattle.typed.proofs.is_taken.Goals as goal

pub returns-in-Some : goal.returns-in-Some
returns-in-Some c = let a = c.in-Some.ensures in taken_found _ _ _ _ _ a

pub returns-in-None : goal.returns-in-None
returns-in-None c = taken_none _ _ _ _ c.in-None.ensures
