-- The pair that a test of two numbers has, as a search gives it.
use Rattle.std.specs.Prelude.{Bool, true, false, ℕ, ltb, Option, Some, None}
use Rattle.sets.specs.Search.{lowest, paired}
use Rattle.rules.specs.Numbers.{Said, say_xyz}

-- there is a pair
abbrev pub is_pair : Option (ℕ × ℕ) → Bool
is_pair (Some (x, y)) = true
is_pair None = false

-- x with its lowest partner, where x is a number of 0..63
unfoldable pub pair_of : (ℕ → ℕ → Bool) → ℕ → Option (ℕ × ℕ)
pair_of f x = elim (ltb x 64) [ true ↦ Some (x, lowest (f x)) | false ↦ None ]

-- x the lowest that has a partner, then y its lowest partner
unfoldable pub found_pair : (ℕ → ℕ → Bool) → Option (ℕ × ℕ)
found_pair f = pair_of f (lowest (paired f))

-- number n with the pair as x and y, and z; else what the rest gives
abbrev pub told_pair : ℕ → Option (ℕ × ℕ) → ℕ → Said → Said
told_pair n (Some (x, y)) z rest = say_xyz n x y z
told_pair n None z rest = rest
