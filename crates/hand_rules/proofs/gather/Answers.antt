use mathlib.Core.Path.{◌≡◌, refl}
use native.Mathlib.Omega.{arith}
use lib.ListN.{length, length-set}
use Rattle.hand_rules.proofs.HandLaws.{gathered_on}
use borrow.Author.Rules.{rules}
use Rattle.hand_rules.proofs.gather.Goals as goal

pub loop-s-init : goal.loop-s-init
loop-s-init c = (search rules, λ k h. (λ m. absurd (omega arith), λ m. refl))

pub loop-s-preserved : goal.loop-s-preserved
loop-s-preserved c =
    let a = c.args in
    let l = c.loop-s in
    let full : length l.anywhere ≡ 64 = l.invariant.0 in
    (simp length-set full, gathered_on a.held.now a.anywhere.now l.anywhere l.s (omega arith) (omega arith) l.invariant.1)

pub returns : goal.returns
returns c k h = (c.loop-s.invariant.1 k h).0 (omega arith)
