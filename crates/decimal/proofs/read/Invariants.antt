-- The loop: the number n of the digits passed is in front, and with the rest behind it gives what the whole writes.
use mathlib.Core.Path.{◌≡◌}
use Prim.Native.Nat.{ℕ}
use lib.ListN.{drop}
use Rattle.decimal.specs.Decimal.{sized, number_from, number_of}
use Rattle.decimal.proofs.read.Given as goal

abbrev pub invariant-loop-byte : goal.invariant-loop-byte
invariant-loop-byte l = (n : ℕ) × (l.front ≡ sized n) × (number_from n (drop l.byte-index l.bytes) ≡ number_of l.bytes)
