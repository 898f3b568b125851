-- The roles that have one of the tasks, and all above them.
use mathlib.Core.Path.{ap, ◌∙◌}
use Prim.Native.Nat.{ℕ}
use Rattle.sets.specs.Mask.{meet, picked}
use Rattle.rules.specs.Book.{tasks_of}
use Rattle.book.specs.Slice.{tables}
use Rattle.owners.specs.Rising.{above}
use Rattle.owners.proofs.owners_of.Goals as goal

pub returns : goal.returns
returns c =
    let s = c.args in
    let d = tables s.book.now in
    c.above.ensures
    ∙ ap (above d) (c.meeting.ensures ∙ ap (λ (m : ℕ). picked (λ r. meet (d.row tasks_of r) s.tasks) m) c.head.ensures)
