-- The two branches are those of the definition for a task of the role hand.
use mathlib.Core.Path.{ap, ◌∙◌}
use native.Mathlib.Omega.{arith}
use Rattle.rules.specs.Book.{cell_of}
use Rattle.rules.specs.Requests.{stamped_cell}
use Rattle.cells.proofs.Hand.stamped_cell.Goals as goal
use Rattle.cells.proofs.Hand.stamped_cell.Goals.{then-in_subject, else-in_subject}

pub returns : goal.returns
unfolding stamped_cell
returns c =
    c.cell_of.ensures ∙ elim c.if-in_subject.branch [
      | then-in_subject w ↦ rw w.if-in_subject.true (omega arith)
      | else-in_subject w ↦ rw w.if-in_subject.false (ap (cell_of c.args.self.now.role) (w.subject-is ∙ w.subject_in-subject.ensures))
    ]
