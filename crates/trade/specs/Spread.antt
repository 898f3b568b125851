-- How a closure may pass over rows that it has joined before.
use Rattle.std.specs.Prelude.{◌≡◌, ℕ}
use Rattle.std.specs.Int.Bits.{bit_or}
use Rattle.sets.specs.Mask.{joined}
use Rattle.chains.specs.Closure.{widen}

-- The fresh members are enough: with their rows alone the set gets as wide as with the rows of all its members.
abbrev pub Enough : (ℕ → ℕ) → ℕ → ℕ → Type 0
Enough rows set fresh = bit_or set (joined 64 rows fresh) ≡ widen rows set
