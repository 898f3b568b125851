-- What M-102 asks for is needed. With the audit, the acceptance or the bound on the kinds left out, its sentences are false
-- (crates/clicks/specs/Clicks.antt has them whole); proofs/Needed.antt refutes each at one small book. That kind 10 must not make a role
-- active (M-101) is shown by tests/bent-rules.sh.
use Rattle.std.specs.Prelude.{◌≡◌, ℕ, ◌≤◌, ◌<◌}
use mathlib.Core.List.{List, [], ◌∷◌, Perm}
use Rattle.rules.specs.Book.{book_words, SME, tasks_of, roles_of}
use Rattle.rules.specs.Requests.{Request}
use Rattle.rules.specs.Small.{Word, row}
use Rattle.rules.specs.Meaning.{Fits}
use Rattle.demands.specs.Demand3.{Passes, Accepted, kept}
use Rattle.clicks.specs.Clicks.{Adding, AllAdding, AllAccepted, final, TakesBack}

-- 1. On a book that need not pass the audit, a list that is accepted may be refused in another order.
abbrev pub AuditNeeded : Type 0
AuditNeeded =
    ((w : ℕ → ℕ) → Fits w → (qs ps : List Request) → AllAdding qs → AllAccepted w qs → Perm qs ps → AllAccepted w ps) → ⊥

-- 2. Where some of a list may be refused, the final book may depend on the order.
abbrev pub AcceptedNeeded : Type 0
AcceptedNeeded =
    ((w : ℕ → ℕ) → Fits w → Passes w → (qs ps : List Request) → AllAdding qs → Perm qs ps → (i : ℕ) → final w ps i ≡ final w qs i) → ⊥

-- each of a list is of kinds 4 to 11
abbrev pub WithActivations : List Request → Type 0
WithActivations [] = Unit {0}
WithActivations (q ∷ qs) = ((4 ≤ q.kind) × (q.kind ≤ 11)) × WithActivations qs

-- 3. With kind 11 in a list all may be accepted, and the final book may depend on the order all the same.
abbrev pub KindsNeeded : Type 0
KindsNeeded =
    ((w : ℕ → ℕ) → Fits w → Passes w → (qs ps : List Request) → WithActivations qs → AllAccepted w qs → Perm qs ps
    → (i : ℕ) → final w ps i ≡ final w qs i) → ⊥

-- 4. On a book that need not pass the audit, what is taken back at once may leave a trace.
abbrev pub AuditNeededBack : Type 0
AuditNeededBack =
    ((w : ℕ → ℕ) → Fits w → (q p : Request) → Adding q → TakesBack q p → Accepted w q → Accepted (kept w q) p
    → (i : ℕ) → i < book_words → kept (kept w q) p i ≡ w i) → ⊥

-- 5. After a request that was refused, the one that takes it back may be accepted, and take what stood before.
abbrev pub AcceptedNeededBack : Type 0
AcceptedNeededBack =
    ((w : ℕ → ℕ) → Fits w → Passes w → (q p : Request) → Adding q → TakesBack q p → Accepted (kept w q) p
    → (i : ℕ) → i < book_words → kept (kept w q) p i ≡ w i) → ⊥

-- Tasks 0 and 1, role 0 with task 0 and role 1 with task 1, subject 0, and the SME rows of the two tasks.
abbrev pub two_tasks : ℕ → ℕ → List Word
two_tasks row0 row1 = (0, 3) ∷ (1, 3) ∷ (2, 1) ∷ row SME 0 row0 ∷ row SME 1 row1 ∷ row tasks_of 0 1 ∷ row tasks_of 1 2 ∷ []

-- Roles 0 and 1, and subject 0, who has both.
abbrev pub two_owned : List Word
two_owned = (1, 3) ∷ (2, 1) ∷ row roles_of 0 3 ∷ []
