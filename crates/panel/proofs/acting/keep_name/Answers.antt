-- A `name` is given; every other line gives none.
use Rattle.panel.proofs.GivenLaws.{names_kept}
use Rattle.panel.proofs.acting.keep_name.Goals as goal

pub returns-in-Name : goal.returns-in-Name
returns-in-Name c = rw c.in-Name.is c.give.ensures

pub returns-in_default : goal.returns-in_default
returns-in_default c = names_kept _ _ c.args.line c.in_default.not-Name
