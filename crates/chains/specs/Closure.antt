-- What chains along a family of rows lead to, computed. `rows i` is the set of numbers one step from i.
-- proofs/ClosureLaws.antt shows that this is exactly what the chains of Relation.antt lead to, of any length.
use Rattle.std.specs.Prelude.{true, false, ℕ, zero, suc, ◌^◌, eqb}
use Rattle.std.specs.Int.Bits.{bit_or}
use Rattle.sets.specs.Mask.{joined}

-- m and all that lies one step from a member of it
unfoldable pub widen : (ℕ → ℕ) → ℕ → ℕ
widen rows m = bit_or m (joined 64 rows m)

-- m, widened until nothing is added, and n times at most
unfoldable pub close : ℕ → (ℕ → ℕ) → ℕ → ℕ
close zero rows m = m
close (suc n) rows m = let w = widen rows m in elim (eqb w m) [ true ↦ m | false ↦ close n rows w ]

-- the group of t: t and all that chains along the rows lead to from it
unfoldable pub group : (ℕ → ℕ) → ℕ → ℕ
group rows t = close 64 rows (2 ^ t)
