-- Of the whole word, what is asked of E.
use Rattle.scan.proofs.BadLaws.{role_by_word}
use Rattle.scan.proofs.has_role.Goals as goal

pub returns : goal.returns
returns c = role_by_word c.args.v c.cell_of.ensures c.cell_of-2.ensures
