-- The test is the definition's.
use Rattle.rules.specs.Book.{bad_active}
use Rattle.scan.proofs.is_bad_active.Goals as goal

pub returns : goal.returns
unfolding bad_active
returns c = cc
