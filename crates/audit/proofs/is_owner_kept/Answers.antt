-- The arm taken says which rule it is.
use mathlib.Core.Path.{◌≡◌}
use native.Mathlib.Omega.{arith}
use Rattle.rules.specs.Audit.{kept_at, rules}
use Rattle.audit.proofs.is_owner_kept.Goals as goal

pub returns-in-6 : goal.returns-in-6
unfolding kept_at rules
returns-in-6 c = rw c.in-6.is c.is_acyclic.ensures

pub returns-in-7 : goal.returns-in-7
unfolding kept_at rules
returns-in-7 c = rw c.in-7.is c.is_owner_free.ensures

pub returns-in_default : goal.returns-in_default
unfolding kept_at rules
returns-in_default c = let eight : c.args.rule ≡ 8 = omega (arith, c.in_default.in_default-own.rest) in rw eight c.is_owner_free-in_default.ensures
