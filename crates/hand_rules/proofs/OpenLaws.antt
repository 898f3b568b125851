-- The open orders: those whose row meets the set of all numbers. Of the others nothing is asked.
use mathlib.Core.Path.{◌≡◌, sym, ◌∙◌}
use mathlib.Core.Bool.{false}
use Prim.Native.Nat.{ℕ, ◌-◌, ◌^◌, ◌<◌}
use native.Mathlib.Omega.{arith}
use lib.Dec.{eqb}
use borrow.Author.Tests.{eqb-true, not-false}
use Rattle.sets.specs.Mask.{bit, meet, picked}
use Rattle.sets.proofs.MaskLaws.{in_full}
use Rattle.rules.specs.Book.{Book, orders}
use Rattle.rules.specs.Requests.{is_open}
use Rattle.rules.specs.Meaning.{Sized}
use Rattle.rules.proofs.Exactly.{exactly_as, exactly_meet, exactly_picked, exactly_some, exactly_same}
use Rattle.rules.proofs.TradeLaws.{step_to}
use Rattle.hand_rules.specs.Hands.{Opens}

-- All numbers, as a mask.
abbrev everyone : ℕ
everyone = 2 ^ 64 - 1 - 0

pub open_orders : (d : Book) → Sized d → Opens d (picked (λ p. meet (d.row orders p) (2 ^ 64 - 1 - 0)) (2 ^ 64 - 1 - 0))
unfolding is_open
open_orders d s p l =
    exactly_same
    (exactly_as (λ x. (x.1.0, x.1.1)) (λ x. (in_full p l, (x.0, x.1, in_full x.0 (step_to (s.rows orders) p x.0 x.1))))
    (exactly_picked (λ q. meet (d.row orders q) everyone) everyone p (omega arith)
    (exactly_meet (d.row orders p) everyone ((s.rows orders).fits p) (omega arith))))
    (exactly_some (d.row orders p) ((s.rows orders).fits p))

-- An order that is not among them has no task.
pub not_open : (d : Book) (m : ℕ) → Opens d m → (p : ℕ) → p < 64 → bit m p ≡ false → d.row orders p ≡ 0
unfolding is_open
not_open d m opens p l out = eqb-true (d.row orders p) 0 (not-false (eqb (d.row orders p) 0) (sym (opens p l) ∙ out))
