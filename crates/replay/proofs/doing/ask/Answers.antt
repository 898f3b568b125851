-- The part that is lent is the front of the words, and what stands behind it is left.
use mathlib.Core.Path.{sym, ◌∙◌}
use lib.Seq.{length-take-le}
use Rattle.replay.proofs.WordLaws.{replied, changed}
use Rattle.replay.proofs.doing.ask.Goals as goal

pub slice_bounds-request-end-2 : goal.slice_bounds-request-end-2
slice_bounds-request-end-2 c = sym (length-take-le _ _ c.part-end.ensures.within)

pub returns : goal.returns
returns c =
    let answered = c.request.ensures in
    let front = c.part-end.ensures in
    record { value = c.from.ensures ∙ replied _ _ _ _ _ _ front answered; changed = changed _ _ _ _ _ _ front answered }
