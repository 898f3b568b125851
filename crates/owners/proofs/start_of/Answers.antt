-- By cases of the owner, as the definition goes.
use Rattle.owners.proofs.start_of.Goals as goal

pub returns-in-Role : goal.returns-in-Role
returns-in-Role c = rw c.in-Role.is c.alone.ensures

pub returns-in-Subject : goal.returns-in-Subject
returns-in-Subject c = rw c.in-Subject.is c.row.ensures
