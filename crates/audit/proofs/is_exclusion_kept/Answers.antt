-- The arm taken says which rule it is.
use mathlib.Core.Path.{◌≡◌}
use native.Mathlib.Omega.{arith}
use borrow.Author.Rules as author
use Rattle.rules.specs.Trade.{subject_group, role_group}
use Rattle.rules.specs.Audit.{apart, kept_at, rules}
use Rattle.book.specs.Slice.{tables}
use Rattle.audit.proofs.is_exclusion_kept.Goals as goal

pub returns-in-3 : goal.returns-in-3
unfolding kept_at rules apart
returns-in-3 c = rw (c.in-3.is, ← c.row.ensures) c.is_apart.ensures

pub returns-in-4 : goal.returns-in-4
unfolding kept_at rules
returns-in-4 c = rw c.in-4.is (c.is_apart_from.ensures (role_group (tables c.args.book.now)) (λ m told. search (author.rules, told)))

pub returns-in_default : goal.returns-in_default
unfolding kept_at rules
returns-in_default c =
    let five : c.args.rule ≡ 5 = omega arith in
    rw five (c.is_apart_from-in_default.ensures (subject_group (tables c.args.book.now)) (λ m told. search (author.rules, told)))
