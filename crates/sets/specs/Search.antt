-- Searches over the numbers 0 to 63: the lowest that passes, whether all pass, the lowest pair.
-- Every definition here computes. What they mean is shown in proofs/SearchLaws.antt.
use Rattle.std.specs.Prelude.{Bool, true, false, ℕ, zero, suc, ltb}

-- the lowest of the n numbers from i on that passes f; i + n where none does
unfoldable pub lowest_from : ℕ → ℕ → (ℕ → Bool) → ℕ
lowest_from zero i f = i
lowest_from (suc n) i f = elim (f i) [ true ↦ i | false ↦ lowest_from n (suc i) f ]

-- the lowest number that passes f; 64 where none does
abbrev pub lowest : (ℕ → Bool) → ℕ
lowest f = lowest_from 64 0 f

-- all numbers below n pass f
unfoldable pub all : ℕ → (ℕ → Bool) → Bool
all zero f = true
all (suc n) f = elim (all n f) [ true ↦ f n | false ↦ false ]

-- x has a partner: some y with f x y
abbrev pub paired : (ℕ → ℕ → Bool) → ℕ → Bool
paired f x = ltb (lowest (f x)) 64
