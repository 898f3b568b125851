-- Judged on the book as it stands; the bit is stored only where the answer is 0.
use native.Mathlib.Omega.{arith}
use Rattle.rules.specs.Requests.{change}
use Rattle.book.specs.Slice.{Full}
use Rattle.deeds.proofs.OutcomeLaws.{passed_up, settled_changed, settled_kept}
use Rattle.staff.proofs.assign.Goals as goal

pub returns-in_err-judge_assignment : goal.returns-in_err-judge_assignment
returns-in_err-judge_assignment c =
    let full : Full c.args.book.now = omega arith in
    rw (passed_up c.from_residual.result c.from_residual.ensures.1) (settled_kept c.in_err-judge_assignment.ensures full)

pub returns : goal.returns
unfolding change
returns c =
    let stored = c.add_to_row.ensures in
    settled_changed c.in_ok-judge_assignment.ensures stored.0 stored.1
