-- Judged on the book as it stands; both bits are stored only where nothing stands in the way.
use native.Mathlib.Omega.{arith}
use Rattle.rules.specs.Requests.{change}
use Rattle.book.specs.Slice.{Full}
use Rattle.deeds.proofs.OutcomeLaws.{passed_up, settled_changed, settled_kept}
use Rattle.pairs.proofs.PairStored.{pair_added}
use Rattle.pairs.proofs.relate.Goals as goal

pub returns-in_err-judge_pair : goal.returns-in_err-judge_pair
returns-in_err-judge_pair c =
    let full : Full c.args.book.now = omega arith in
    rw (passed_up _ c.from_residual.ensures.1) (settled_kept c.in_err-judge_pair.ensures full)

pub returns : goal.returns
unfolding change
returns c =
    let first = c.add_to_row.ensures in
    let second = c.add_to_row-2.ensures in
    settled_changed c.in_ok-judge_pair.ensures second.0 (pair_added _ _ _ _ _ _ first.1 second.1)
