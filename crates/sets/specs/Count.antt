-- How many members a set has. proofs/CountLaws.antt shows that this is the count of the mask's one bits.
use Rattle.std.specs.Prelude.{Bool, true, false, ℕ, zero, suc, ◌+◌}
use Rattle.sets.specs.Mask.{bit}

-- one where the test holds
unfoldable pub one : Bool → ℕ
one true = 1
one false = 0

-- how many of the numbers below k are in the set m
unfoldable pub count_below : ℕ → ℕ → ℕ
count_below zero m = 0
count_below (suc k) m = count_below k m + one (bit m k)

-- how many members the set m has
abbrev pub count : ℕ → ℕ
count m = count_below 64 m
