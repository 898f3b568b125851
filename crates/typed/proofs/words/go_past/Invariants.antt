-- The loop: from i on they end where they end from the start on.
use mathlib.Core.Path.{◌≡◌}
use Prim.Native.Nat.{◌≤◌}
use lib.ListN.{length}
use Rattle.typed.specs.Words.{past}
use Rattle.typed.proofs.words.go_past.Given as goal

abbrev pub invariant-loop-i : goal.invariant-loop-i
invariant-loop-i l = (l.from ≤ l.i) × (l.i ≤ length l.line) × (l.i-end ≡ length l.line) × (past l.line l.i l.in_word ≡ past l.line l.from l.in_word)
