-- Subject by subject: those below have joined, the others are as they were.
use mathlib.Core.Path.{◌≡◌}
use lib.ListN.{length}
use Rattle.hand_rules.proofs.HandLaws.{GatheredTo}
use Rattle.hand_rules.proofs.gather.Given as goal

abbrev pub invariant-loop-s : goal.invariant-loop-s
invariant-loop-s l = (length l.anywhere ≡ 64) × GatheredTo l.s l.held l.initial.anywhere l.anywhere
