-- What is stamped, with the rest of the hand, is the hand stamped.
use mathlib.Core.Path.{◌≡◌}
use Rattle.rules.specs.Requests.{stamped}
use Rattle.book.specs.Slice.{tables, Full}
use Rattle.cells.specs.Hands.{handed_out}
use Rattle.cells.proofs.Hand.stamp.Given as goal

abbrev pub invariant-loop-task : goal.invariant-loop-task
invariant-loop-task l =
    let h = l.self in
    Full l.book × (stamped (tables l.book) h.order l.task-iterator.left h.narrow h.role h.subject ≡ handed_out h (tables l.initial.book))
