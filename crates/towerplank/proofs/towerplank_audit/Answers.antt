-- The four words are those of the reply to what the audit found.
use mathlib.Core.Path.{ap, ◌∙◌}
use Rattle.towerplank.specs.Told.{listed, four_words}
use Rattle.towerplank.proofs.towerplank_audit.Goals as goal

pub returns : goal.returns
returns c = c.put.ensures ∙ ap listed c.from-reply.ensures ∙ ap four_words c.audit.ensures
