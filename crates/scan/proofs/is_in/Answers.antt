-- 0 names nobody, and what is above 64 nobody either; what is between names the number one below it.
use mathlib.Core.Path.{sym, ◌∙◌}
use native.Mathlib.Omega.{arith}
use Rattle.scan.proofs.BadLaws.{names_nobody, names_none, names_one}
use Rattle.scan.proofs.is_in.Goals as goal

pub returns-in-0 : goal.returns-in-0
returns-in-0 c = let s = c.args in sym (names_nobody s.set s.v c.in-0.is)

pub returns-in-1-to-64 : goal.returns-in-1-to-64
returns-in-1-to-64 c = let s = c.args in c.has.ensures ∙ sym (names_one s.set s.v (λ z. omega arith) (omega arith))

pub returns-in_default : goal.returns-in_default
returns-in_default c = let s = c.args in sym (names_none s.set s.v (omega arith))
