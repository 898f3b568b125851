-- The arm taken says which rule it is; what no arm takes is 0, which is no rule.
use mathlib.Core.Path.{◌≡◌, refl}
use native.Mathlib.Omega.{arith}
use borrow.Author.Rules as author
use Rattle.rules.specs.Audit.{not_own, symmetric, kept_at, rules}
use Rattle.book.specs.Slice.{tables}
use Rattle.audit.proofs.is_pair_kept.Goals as goal

pub returns-in-1 : goal.returns-in-1
unfolding kept_at rules not_own
returns-in-1 c =
    let s = c.args in
    rw c.in-1.is (c.is_kept_in_four.ensures (tables s.book.now) not_own s.x (λ table kept told. search (author.rules, told)))

pub returns-in-2 : goal.returns-in-2
unfolding kept_at rules
returns-in-2 c =
    let s = c.args in
    rw c.in-2.is (c.is_kept_in_four-in-2.ensures (tables s.book.now) symmetric s.x (λ table kept told. search (author.rules, told)))

pub returns-in_default : goal.returns-in_default
unfolding kept_at rules
returns-in_default c = let none : c.args.rule ≡ 0 = omega arith in rw none refl
