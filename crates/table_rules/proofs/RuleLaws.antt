-- How the code's tests show those of the rules.
use mathlib.Core.Path.{◌≡◌, sym, ap, ap₂, ◌∙◌}
use mathlib.Core.Bool.{Bool, true, false}
use Prim.Native.Nat.{ℕ}
use Rattle.sets.specs.Mask.{bit}
use Rattle.rules.specs.Audit.{implies, two_sided}

-- Rule 2 asks nothing of a task that is not in u's row ..
pub not_asked : (rows : ℕ → ℕ) (u v : ℕ) → bit (rows u) v ≡ false → two_sided rows u v ≡ true
not_asked rows u v e = ap (λ (t : Bool). implies t (bit (rows v) u)) e

-- .. and of one that is, what the test of the pair turned round says.
pub two_sided_seen : (rows : ℕ → ℕ) (u v : ℕ) {back t : Bool} → bit (rows u) v ≡ true → back ≡ bit (rows v) u → back ≡ t → two_sided rows u v ≡ t
two_sided_seen rows u v there e f = ap₂ implies there (sym e ∙ f)
