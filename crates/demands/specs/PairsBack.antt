-- M-100, "Taking a pair back": a book that passes the audit still passes afterwards. Proved in proofs/PairsBack.antt, once over the four
-- pair tables. The words are those of demand 3, specs/Demand3.antt.
use Rattle.std.specs.Prelude.{ℕ, ◌≤◌}
use Rattle.rules.specs.Requests.{Request}
use Rattle.rules.specs.Meaning.{Fits}
use Rattle.demands.specs.Demand3.{Passes, Unrefused, Accepted, kept}

-- For every book that passes the audit, and every request of kinds 18 to 21 that none of refusals 1 to 11 meets:
-- it is accepted, for nothing conflicts with it, and the book that is kept passes the audit.
abbrev pub PairsBack : Type 0
PairsBack = (w : ℕ → ℕ) → Fits w → Passes w → (q : Request) → 18 ≤ q.kind → q.kind ≤ 21 → Unrefused w q → Accepted w q × Passes (kept w q)
