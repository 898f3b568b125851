-- The set where the test of its lowest member holds, else nothing.
use mathlib.Core.Path.{sym, ap, ◌∙◌}
use mathlib.Core.Bool.{Bool}
use Rattle.sets.specs.Mask.{only}
use borrow.Author.Tests.{eq-eqb, ne_eqb}
use Rattle.hand_rules.proofs.from_lowest.Goals as goal

pub returns-then-lowest-u : goal.returns-then-lowest-u
returns-then-lowest-u c = let s = c.args in sym (ap (λ (t : Bool). only t s.set) (eq-eqb _ s.u (sym c.lowest.ensures ∙ c.if-lowest-u.true)))

pub returns-else-lowest-u : goal.returns-else-lowest-u
returns-else-lowest-u c = let s = c.args in sym (ap (λ (t : Bool). only t s.set) (ne_eqb _ s.u (λ e. c.if-lowest-u.false (c.lowest.ensures ∙ e))))
