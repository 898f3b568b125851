-- The count of trailing zeros is the lowest member.
use native.Mathlib.Omega.{arith}
use lib.Count.{trailing_le}
use Rattle.sets.proofs.MemberLaws.{zeros_lowest}
use Rattle.sets.proofs.lowest.Goals as goal

pub overflow_cast-result : goal.overflow_cast-result
overflow_cast-result c = omega (arith, trailing_le 64 c.args.set)

pub returns : goal.returns
returns c = zeros_lowest c.args.set
