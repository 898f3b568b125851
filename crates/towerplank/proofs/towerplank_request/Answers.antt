-- The four words are those of the reply to what the request was answered, and the book is as the request left it.
use mathlib.Core.Path.{ap, ◌∙◌}
use Rattle.towerplank.specs.Told.{listed, four_words}
use Rattle.towerplank.proofs.towerplank_request.Goals as goal

pub returns : goal.returns
returns c =
    let answered = c.request.ensures in
    record {
      told = c.put.ensures ∙ ap listed c.from-reply.ensures ∙ ap four_words answered.told;
      stored = answered.stored;
    }
