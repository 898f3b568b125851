-- Every kind is exact: on a sound book, of a request that nothing of 3 to 11 refuses, no conflict is told exactly where
-- the blindly changed book is sound. One law for each deed is cited; here its arguments are found to be what it asks.
use mathlib.Core.Path.{◌≡◌}
use mathlib.Core.Bool.{true, ◌&&◌, not}
use Prim.Native.Nat.{ℕ, suc, ◌-◌, ◌<◌}
use native.Mathlib.Omega.{arith}
use lib.Dec.{ltb, eqb}
use borrow.Author.Tests.{eqb-true, eqb-false, ltb-true, not-false}
use Rattle.sets.specs.Mask.{bit, within}
use Rattle.sets.proofs.Logic.{and_out, refute, not_out}
use Rattle.sets.proofs.MaskLaws.{zero_none, within_out}
use Rattle.chains.specs.Relation.{In, Step}
use Rattle.rules.specs.Book.{Book, tasks, active, orders}
use Rattle.rules.specs.Requests.{Row, is_open, fits}
use Rattle.rules.specs.Numbers.{accepted, given_lowest, active_owned, allocate_refusal, state_refusal}
use Rattle.rules.specs.Meaning.{Sized, Sound}
use Rattle.rules.proofs.SaidLaws.{said_not_accepted}
use Rattle.rules.proofs.NumberLaws.{given_out, lowest_out, Fitting}
use Rattle.rules.proofs.ChangeLaws.{Known, no_kind, defines, relates, assigns, activates, opens, allocates, closes, takes_back, unrelates}
use Rattle.rules.proofs.ChangeLaws.{a_task_lem, a_junior, a_role_lem}
use Rattle.rules.proofs.TradeLaws.{step_from}
use Rattle.demands.proofs.Conflicts.{Exact}
use Rattle.demands.proofs.PairKinds.{relate_exact}
use Rattle.demands.proofs.StaffKinds.{assign_task, assign_junior, assign_role}
use Rattle.demands.proofs.UnopposedKinds.{define_exact, activate_exact, open_exact, close_exact}
use Rattle.demands.proofs.TakenBack.{take_exact, unrelate_exact}
use Rattle.demands.proofs.Allocation.{allocate_exact}

-- An argument that must be defined is a number below 64, and defined.
defined : (m v : ℕ) → (ltb v 64 && bit m v) ≡ true → (v < 64) × In m v
defined m v e = let s = and_out (ltb v 64) (bit m v) e in (ltb-true v 64 s.0, s.1)

-- A sound book, and any arguments.
module _ (d : Book) (sized : Sized d) (sound : Sound d) (a b c : ℕ) where
  -- Where 7 is not told, no order is open.
  pub shut : given_lowest 7 (is_open d) accepted ≡ accepted → (p t : ℕ) → Step (d.row orders) p t → ⊥
  unfolding is_open
  shut e p t i = zero_none t (eqb-true (d.row orders p) 0 (not-false _ ((lowest_out 7 (is_open d) accepted e).0 p (step_from (sized.rows orders) p t i)))) i

  -- Where 8 is not told, c has an active role.
  has_role_lem : active_owned d c ≡ true → d.row active c ≡ suc (d.row active c - 1)
  unfolding active_owned
  has_role_lem e = let n = eqb-false (d.row active c) 0 (refute _ (not_out _ (and_out (not (eqb (d.row active c) 0)) _ e).0)) in omega arith

  -- Every row of the table is exact.
  pub deed_exact : {row : Row} → Known row → Fitting d row a b c → state_refusal d row.deed a b c ≡ accepted → Exact d row.deed a b c
  unfolding fits state_refusal allocate_refusal
  deed_exact no_kind f e = absurd (said_not_accepted e)
  deed_exact (defines n h) f e = define_exact d sound a b c n h
  deed_exact (relates n h) f e =
      let x = defined _ a f.first in
      let y = defined _ b f.second in
      relate_exact d sized sound a b c x.0 y.0 x.1 y.1 (shut (given_out (bit (d.row n a) b) 5 _ _ e).1) n h
  deed_exact (assigns a_task_lem) f e = let x = defined _ a f.first in assign_task d sized sound a b c x.0 x.1 (defined _ b f.second).1
  deed_exact (assigns a_junior) f e = let x = defined _ a f.first in assign_junior d sized sound a b c x.0 x.1 (defined _ b f.second).1
  deed_exact (assigns a_role_lem) f e = let x = defined _ a f.first in assign_role d sized sound a b c x.0 x.1 (defined _ b f.second).1
  deed_exact activates f e = activate_exact d sound a b c (defined _ a f.first).1 (defined _ b f.second).1
  deed_exact opens f e = open_exact d sound a b c (λ t. within_out c (tasks d) t (and_out (not (eqb c 0)) (within c (tasks d)) f.third).1)
  deed_exact allocates f e =
      let z = defined _ c f.third in
      let r = given_out (not (bit (d.row orders b) a)) 4 _ _ e in
      let s = given_out (not (active_owned d c)) 8 _ _ r.1 in
      allocate_exact d sized sound a b c (defined _ a f.first).0 z.0 (d.row active c - 1) (has_role_lem (not-false _ s.0)) z.1
  deed_exact closes f e = close_exact d sound a b c
  deed_exact (takes_back h) f e = take_exact d sound a b c h
  deed_exact (unrelates n h) f e = unrelate_exact d sound a b c sized (defined _ a f.first).0 (defined _ b f.second).0 n h
