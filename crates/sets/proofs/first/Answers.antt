-- The empty set has no lowest member; of any other it is below 64.
use mathlib.Core.Path.{sym}
use native.Mathlib.Omega.{arith}
use Rattle.sets.specs.Mask.{bit}
use Rattle.sets.proofs.MaskLaws.{bit_none}
use Rattle.sets.proofs.SearchLaws.{lowest_end}
use Rattle.sets.proofs.MemberLaws.{lowest_lt}
use borrow.Author.Rules.{rules}
use Rattle.sets.proofs.first.Goals as goal

pub returns-then-set-eq0 : goal.returns-then-set-eq0
returns-then-set-eq0 c = rw c.if-set-eq0.true (sym (lowest_end 64 (bit 0) (λ k l. bit_none k)))

pub returns-else-set-eq0 : goal.returns-else-set-eq0
returns-else-set-eq0 c =
    let m = c.args.set in
    (omega (arith, c.lowest.ensures, lowest_lt m (omega arith) (search rules)), sym c.lowest.ensures)
