-- The ends of the part are drawn into the text, which leaves the part as it is.
use Rattle.panel.proofs.GivenLaws.{part_within}
use Rattle.panel.proofs.acting.give.Goals as goal

pub returns : goal.returns
returns c =
    let text = c.args.text.now in
    rw (← part_within text _ _ _ _ c.min-to.ensures c.min-from.ensures) c.give.ensures
