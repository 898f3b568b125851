-- A trial is nothing but demand 3's first statement at one book: where that statement holds, every trial is exact.
-- So rules of which a trial fails do not meet demand 3.
use mathlib.Core.Path.{◌≡◌, refl}
use mathlib.Core.Logic.{◌↔◌}
use mathlib.Core.Bool.{Bool, true, false}
use lib.Dec.{T}
use Rattle.sets.proofs.Logic.{and_out}
use Rattle.rules.specs.Numbers.{Said, accepted, says, is_accepted}
use Rattle.rules.specs.Audit.{implies}
use Rattle.rules.specs.Small.{book_of}
use Rattle.rules.proofs.SaidLaws.{said_not_accepted, accepted_out}
use Rattle.rules.proofs.SmallLaws.{small_fits}
use Rattle.demands.specs.Demand3.{ChecksExact}
use Rattle.trials.specs.Trial.{Trial, together, fair, agrees, exact}

-- Two answers are 0 together, or neither is.
together_in_lem : (s t : Said) → (t ≡ accepted) ↔ (s ≡ accepted) → T (together (is_accepted s) (is_accepted t))
together_in_lem accepted t x = rw (x.1 refl) tt
together_in_lem (says n r) accepted z = absurd (said_not_accepted (z.0 refl))
together_in_lem (says n r) (says m q) z = tt

-- DEMAND 3 AT A TRIAL.
pub demand_3_tried : ChecksExact → (t : Trial) → T (exact t)
unfolding exact fair agrees
demand_3_tried checks t = go (fair t) refl
  where
    go : (f : Bool) → fair t ≡ f → T (implies f (agrees t))
    go false e = tt
    go true e =
        let fits = and_out _ _ e in
        let passes = and_out _ _ fits.1 in
        together_in_lem _ _
        (checks (book_of t.words) (small_fits t.words fits.0) (accepted_out _ passes.0) t.request (accepted_out _ passes.1))
