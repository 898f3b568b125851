-- An answer is 0 or it is not, and the test of it tells which.
use mathlib.Core.Path.{◌≡◌, refl}
use mathlib.Core.Bool.{true}
use Prim.Native.Nat.{ℕ}
use native.Mathlib.Omega.{arith}
use Rattle.sets.proofs.Logic.{not_both}
use Rattle.rules.specs.Numbers.{Named, Said, accepted, says, is_accepted}

-- A number that is said is not 0.
pub said_not_accepted : {n : ℕ} {r : Named} → says n r ≡ accepted → ⊥
said_not_accepted e = let z : ◌≡◌ {A = ℕ} 0 1 = cc in omega arith

-- What counts as accepted is 0.
pub accepted_out : (s : Said) → is_accepted s ≡ true → s ≡ accepted
accepted_out accepted e = refl
accepted_out (says n r) e = absurd (not_both _ e refl)
