-- A decimal number of any length, read from left to right, as far as 64 bits hold it.
use Rattle.std.specs.Prelude.{Bool, true, false, ◌&&◌, List, [], ◌∷◌, ℕ, ◌+◌, ◌-◌, ◌*◌, ◌^◌, ltb, Result, Ok, Err}
use Rattle.decimal.specs.declared.Unread.{Unread}
use Rattle.decimal.specs.declared.Unread.TheVariants.{TooLarge, NotDecimal}

-- the byte is one of the digits 0 to 9
unfoldable pub is_digit : ℕ → Bool
is_digit b = ltb 47 b && ltb b 58

-- n itself, where 64 bits hold it
unfoldable pub sized : ℕ → Result ℕ Unread
sized n = elim (ltb n (2 ^ 64)) [ true ↦ Ok n | false ↦ Err TooLarge ]

-- n with the digit d put behind it
abbrev pub shifted : ℕ → ℕ → ℕ
shifted n d = n * 10 + d

-- n with the digits that the bytes of l write put behind it
unfoldable pub number_from : ℕ → List ℕ → Result ℕ Unread
number_from n [] = sized n
number_from n (b ∷ l) = elim (is_digit b) [ true ↦ number_from (shifted n (b - 48)) l | false ↦ Err NotDecimal ]

-- the number that the bytes of l write
abbrev pub number_of : List ℕ → Result ℕ Unread
number_of l = number_from 0 l
