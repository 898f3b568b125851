-- What is put leaves the paper as quoted as it was, and its room as long.
use mathlib.Core.Path.{◌≡◌}
use lib.ListN.{length}
use Rattle.output.proofs.Paper.escaped.Given as goal

abbrev pub invariant-loop-b : goal.invariant-loop-b
invariant-loop-b l = (l.self.quoted ≡ l.initial.self.quoted) × (length l.self.room.now ≡ length l.initial.self.room.now)
