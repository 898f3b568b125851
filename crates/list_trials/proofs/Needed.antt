-- The conditions of M-102 are needed, by computation at small books: in its own order a list leads elsewhere than turned round, or what is
-- taken back leaves a trace.
use mathlib.Core.Path.{refl, sym}
use mathlib.Core.Logic.{inl}
use mathlib.Core.Bool.{true≢false}
use mathlib.Core.List.Perm
use mathlib.Core.List.{List, [], ◌∷◌, Perm, reverse, reverse_perm}
use native.Mathlib.Omega.{arith}
use borrow.Author.Tests.{eq-eqb}
use Rattle.rules.specs.Book.{SME, roles_of, active}
use Rattle.rules.specs.Requests.{Request}
use Rattle.rules.specs.Computed.{computed}
use Rattle.rules.specs.Numbers.{words_after}
use Rattle.rules.specs.Small.{book_of}
use Rattle.rules.proofs.SaidLaws.{accepted_out}
use Rattle.rules.proofs.SmallLaws.{small_fits}
use Rattle.clicks.specs.Tests.{taking_back}
use Rattle.clicks.proofs.TestLaws.{adding_out, accepts_in, accepts_out}
use Rattle.list_trials.specs.ListTrial.{ask, place}
use Rattle.list_trials.specs.Needed.{AuditNeeded, AcceptedNeeded, KindsNeeded, AuditNeededBack, AcceptedNeededBack, two_tasks, two_owned}

-- a list turned round
turned : (qs : List Request) → Perm qs (reverse qs)
turned qs = Perm.symm (reverse_perm qs)

-- STATEMENT 1. Task 0 is SME to task 1 and not the other way: role 1 and then role 0 are accepted, and turned round they are not.
pub audit_needed : AuditNeeded
unfolding computed words_after
audit_needed f =
    let ws = two_tasks 2 0 in
    let list = ask 10 1 0 ∷ ask 10 0 0 ∷ [] in
    let run = f (book_of ws) (small_fits ws refl) list (reverse list) (adding_out list refl) (accepts_out (book_of ws) list refl) (turned list) in
    true≢false (sym (accepts_in (book_of ws) (reverse list) run))

-- STATEMENT 2. With SME both ways one of the two is refused, and the first stands.
pub accepted_needed : AcceptedNeeded
unfolding computed words_after
accepted_needed f =
    let ws = two_tasks 2 1 in
    let list = ask 10 1 0 ∷ ask 10 0 0 ∷ [] in
    true≢false (sym (eq-eqb _ _
    (f (book_of ws) (small_fits ws refl) (accepted_out _ refl) list (reverse list) (adding_out list refl) (turned list) (place roles_of 0))))

-- STATEMENT 3. Of two activations the last stands.
pub kinds_needed : KindsNeeded
unfolding computed words_after
kinds_needed f =
    let list = ask 11 0 0 ∷ ask 11 1 0 ∷ [] in
    true≢false (sym (eq-eqb _ _
    (f (book_of two_owned) (small_fits two_owned refl) (accepted_out _ refl) list (reverse list) ((omega arith, omega arith), ((omega arith, omega arith), tt))
    (accepts_out (book_of two_owned) list refl) (turned list) (place active 0))))

-- STATEMENT 4. Task 0 is SME to task 1 and not the other way: SME 1-0 adds the other bit, and taken back both go.
pub audit_needed_back : AuditNeededBack
unfolding computed words_after
audit_needed_back f =
    let ws = two_tasks 2 0 in
    let q = ask 4 1 0 in
    true≢false (sym (eq-eqb _ _
    (f (book_of ws) (small_fits ws refl) q (taking_back q) (omega arith, omega arith) (refl, inl (refl, refl)) (accepted_out _ refl) (accepted_out _ refl)
    (place SME 0) (omega arith))))

-- STATEMENT 5. The pair is there already, so it is refused (5); and taken back it is gone.
pub accepted_needed_back : AcceptedNeededBack
unfolding computed words_after
accepted_needed_back f =
    let ws = two_tasks 2 1 in
    let q = ask 4 0 1 in
    true≢false (sym (eq-eqb _ _
    (f (book_of ws) (small_fits ws refl) (accepted_out _ refl) q (taking_back q) (omega arith, omega arith) (refl, inl (refl, refl)) (accepted_out _ refl)
    (place SME 0) (omega arith))))
