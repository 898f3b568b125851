-- Sets of the numbers 0 to 63 as masks: bit i of a mask stands for number i.
-- Every definition here computes. What they mean is shown in proofs/MaskLaws.antt.
use Rattle.std.specs.Prelude.{Bool, true, false, not, ℕ, zero, suc, ◌-◌, ◌/◌, ◌%◌, ◌^◌, eqb}
use Rattle.std.specs.Int.Bits.{bit_and, bit_or}

-- number i is in the set m
unfoldable pub bit : ℕ → ℕ → Bool
bit m i = eqb (m / 2 ^ i % 2) 1

-- m with number i
unfoldable pub with : ℕ → ℕ → ℕ
with m i = bit_or m (2 ^ i)

-- m without number i
unfoldable pub without : ℕ → ℕ → ℕ
without m i = bit_and m (2 ^ 64 - 1 - 2 ^ i)

-- every member of m is one of n
unfoldable pub within : ℕ → ℕ → Bool
within m n = eqb (bit_and m n) m

-- m and n have a member in common
unfoldable pub meet : ℕ → ℕ → Bool
meet m n = not (eqb (bit_and m n) 0)

-- m where the test holds, else the empty set
abbrev pub only : Bool → ℕ → ℕ
only true m = m
only false m = 0

-- the rows of the members of m below n, joined
unfoldable pub joined : ℕ → (ℕ → ℕ) → ℕ → ℕ
joined zero rows m = 0
joined (suc n) rows m = let r = rows n in bit_or (joined n rows m) (only (bit m n) r)

-- number i alone, where it passes f; else the empty set
abbrev pub alone_if : (ℕ → Bool) → ℕ → ℕ
alone_if f i = only (f i) (2 ^ i)

-- the members of m that pass f
abbrev pub picked : (ℕ → Bool) → ℕ → ℕ
picked f m = joined 64 (alone_if f) m
