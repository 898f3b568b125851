-- Refused where the bit stands.
use mathlib.Core.Path.{refl, sym, ◌∙◌}
use Rattle.rules.specs.Numbers.{state_refusal}
use Rattle.deeds.proofs.CascadeLaws.{given_yes, given_no}
use Rattle.staff.proofs.assign_refusal.Goals as goal

pub returns-then-is_in_row : goal.returns-then-is_in_row
unfolding state_refusal
returns-then-is_in_row c = given_yes _ _ _ (sym c.is_in_row.ensures ∙ c.if-is_in_row.true)

pub returns : goal.returns
unfolding state_refusal
returns c = given_no _ _ _ (sym c.is_in_row.ensures ∙ c.if-is_in_row.false) refl
