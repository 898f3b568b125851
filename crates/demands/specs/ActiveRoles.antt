-- M-101, "No role switches itself on": only kind 11 changes an active word. Proved in proofs/ActiveRoles.antt, by what a kind does.
use Rattle.std.specs.Prelude.{◌≡◌, ℕ, ◌≤◌, ◌<◌}
use Rattle.rules.specs.Requests.{Request}
use Rattle.demands.specs.Demand3.{kept}

-- Whatever the words, and whether or not the request is accepted: after any other kind the active words, 452 to 515, are as they were.
abbrev pub OnlyActivate : Type 0
OnlyActivate = (w : ℕ → ℕ) (q : Request) → (q.kind ≡ 11 → ⊥) → (i : ℕ) → 452 ≤ i → i < 516 → kept w q i ≡ w i
