-- What each conflict of document 01 asks, over relations. A conflict is silent where P if the answer is 0 exactly
-- where P holds and the rest of the list gives 0 too. A list is silent exactly where all its conditions hold.
-- The masks and searches of the rules end here: all that follows goes over relations.
use mathlib.Core.Path.{◌≡◌, refl}
use mathlib.Core.Logic.{◌↔◌}
use mathlib.Core.Bool.{Bool, true}
use mathlib.Core.List.{List, [], ◌∷◌}
use Prim.Native.Nat.{ℕ, ◌^◌, ◌<◌}
use lib.Dec.{eqb}
use Rattle.sets.specs.Mask.{bit, meet}
use Rattle.sets.proofs.MaskLaws.{only_lt, picked_lt}
use Rattle.chains.specs.Relation.{Relation, Subset, Step, Chain, Reaches}
use Rattle.chains.proofs.ClosureLaws.{From}
use Rattle.rules.specs.Book.{Book, SME, DME, juniors}
use Rattle.rules.specs.Trade.{Owner, role, subject, owns_role, owned_tasks}
use Rattle.rules.specs.Requests.{Deed, change}
use Rattle.rules.specs.Numbers.{Said, accepted, say, given, given_lowest, given_set, given_pair_in, given_lowest_pair, Conflict, conflicts, first_of}
use Rattle.rules.specs.Numbers.{between, clashes, owns_both, gained_role}
use Rattle.rules.specs.Numbers.{self_constraint, already_dme, already_sme, one_subject_group, one_role_group, role_owns_both, subject_owns_both}
use Rattle.rules.specs.Numbers.{sme_between_groups, dme_between_groups, self_inheritance, cycle, task_assignment, role_assignment, own_role_assignment}
use Rattle.rules.specs.Meaning.{Sized, Sound, OwnedFrom}
use Rattle.rules.proofs.Exactly.{Exactly, itself, exactly_and, exactly_eqb, exactly_meet, exactly_only, exactly_picked, exactly_some, unless_holds}
use Rattle.rules.proofs.NumberLaws.{given_out, given_in, lowest_out, lowest_in, set_out, set_in, pair_out, pair_in, lowest_pair_out, lowest_pair_in}
use Rattle.rules.proofs.TradeLaws.{step_from, step_to, subject_group_lem, role_group_lem, reach_shows, below_out, below_in, role_lt, subject_lt, owner_shows}
use Rattle.demands.proofs.PairRules.{GroupsApart}
use Rattle.demands.proofs.Owners.{Unclashed}
use Rattle.demands.proofs.Tables.{Sme, Dme, SubjectBound, RoleBound, Junior}

-- A conflict, with its arguments given, is silent exactly where P.
abbrev pub Silent : Type 0 → (Said → Said) → Type 0
Silent P f = (rest : Said) → (f rest ≡ accepted) ↔ (P × (rest ≡ accepted))

-- The same said otherwise.
pub silent_as : {P Q : Type 0} {f : Said → Said} → (P → Q) → (Q → P) → Silent P f → Silent Q f
silent_as to from s rest = (λ e. let p = (s rest).0 e in (to p.0, p.1), λ p. (s rest).1 (from p.0, p.1))

-- Every conflict is one test, a search for the lowest, for a set that is not empty, for a pair, or for the lowest that has a pair, with its
-- number n.
module _ (n : ℕ) where
  -- A test that stands for P is silent where not P.
  pub silent_test : {P : Type 0} (t : Bool) → Exactly t P → Silent (P → ⊥) (given t (say n))
  silent_test t e =
      let u = unless_holds e in
      silent_as u.means u.fails (λ rest. (given_out t n _ rest, λ p. given_in t (say n) rest p.0 p.1))

  -- A search is silent where nothing below 64 is what it looks for.
  pub silent_lowest : (f : ℕ → Bool) {P : Subset} → ((i : ℕ) → i < 64 → Exactly (f i) (P i)) → Silent ((i : ℕ) → i < 64 → P i → ⊥) (given_lowest n f)
  silent_lowest f e =
      silent_as (λ g i h. (unless_holds (e i h)).means (g i h)) (λ g i h. (unless_holds (e i h)).fails (g i h))
      (λ rest. (lowest_out n f rest, λ p. lowest_in n f rest p.0 p.1))

  -- So is a search for a set that is not empty ..
  pub silent_set : (f : ℕ → ℕ) {P : Relation} → ((o : ℕ) → o < 64 → f o < 2 ^ 64) → ((o u : ℕ) → o < 64 → Exactly (bit (f o) u) (P o u))
      → Silent ((o u : ℕ) → o < 64 → P o u → ⊥) (given_set n f)
  silent_set f fits e =
      silent_as
      (λ g o u h p. (unless_holds (exactly_some (f o) (fits o h))).means (g o h) (u, (e o u h).holds p))
      (λ g o h. (unless_holds (exactly_some (f o) (fits o h))).fails (λ (u, i). g o u h ((e o u h).means i)))
      (λ rest. (set_out n f rest, λ p. set_in n f rest p.0 p.1))

  -- .. one for a pair, whatever z is ..
  pub silent_pair : (f : ℕ → ℕ → Bool) (z : ℕ) {P : Relation} → ((u v : ℕ) → u < 64 → v < 64 → Exactly (f u v) (P u v))
      → Silent ((u v : ℕ) → u < 64 → v < 64 → P u v → ⊥) (given_pair_in n f z)
  silent_pair f z e =
      silent_as (λ g u v hu hv. (unless_holds (e u v hu hv)).means (g u v hu hv)) (λ g u v hu hv. (unless_holds (e u v hu hv)).fails (g u v hu hv))
      (λ rest. (pair_out n f z rest, λ p. pair_in n f z rest p.0 p.1))

  -- .. and one for the lowest of those asked that has a pair.
  pub silent_lowest_pair : (asked : ℕ → Bool) (f : ℕ → ℕ → ℕ → Bool) {P : ℕ → Relation}
      → ((p u v : ℕ) → p < 64 → u < 64 → v < 64 → Exactly (f p u v) (P p u v))
      → Silent ((p u v : ℕ) → p < 64 → u < 64 → v < 64 → asked p ≡ true → P p u v → ⊥) (given_lowest_pair n asked f)
  silent_lowest_pair asked f e =
      silent_as
      (λ g p u v hp hu hv q. (unless_holds (e p u v hp hu hv)).means (g p u v hp hu hv q))
      (λ g p u v hp hu hv q. (unless_holds (e p u v hp hu hv)).fails (g p u v hp hu hv q))
      (λ rest. (lowest_pair_out n asked f rest, λ p. lowest_pair_in n asked f rest p.0 p.1))

-- A list of conflicts is silent exactly where P.
abbrev pub AllSilent : List Conflict → Book → ℕ → ℕ → Type 0 → Type 0
AllSilent fs d a b P = (first_of fs d a b ≡ accepted) ↔ P

-- A list of one conflict is silent where that is ..
pub one_silent : (f : Conflict) (d : Book) (a b : ℕ) {P : Type 0} → Silent P (f d a b) → AllSilent (f ∷ []) d a b P
unfolding first_of
one_silent f d a b s = (λ e. ((s accepted).0 e).0, λ p. (s accepted).1 (p, refl))

-- .. and a longer list where the first is and the rest is.
pub more_silent : (f : Conflict) (fs : List Conflict) (d : Book) (a b : ℕ) {P Q : Type 0}
    → Silent P (f d a b) → AllSilent fs d a b Q → AllSilent (f ∷ fs) d a b (P × Q)
unfolding first_of
more_silent f fs d a b s t = (λ e. let p = (s _).0 e in (p.0, t.0 p.1), λ p. (s _).1 (p.0, t.1 p.1))

-- What demand 3 says of one deed: no conflict is told exactly where the blindly changed book is sound.
abbrev pub Exact : Book → Deed → ℕ → ℕ → ℕ → Type 0
Exact d deed a b c = AllSilent (conflicts deed c) d a b (Sound (change d deed a b c))

-- A deed is exact if what its conflicts ask is what the sound book needs.
pub exact : (d : Book) (deed : Deed) (a b c : ℕ) {P : Type 0} → AllSilent (conflicts deed c) d a b P
    → (P → Sound (change d deed a b c)) → (Sound (change d deed a b c) → P) → Exact d deed a b c
exact d deed a b c s keeps needs = (λ e. keeps (s.0 e), λ w. s.1 (needs w))

-- No owner owns both a and b.
abbrev pub NoneOwnsBoth : Book → Owner → ℕ → ℕ → Type 0
NoneOwnsBoth d start a b = (o : ℕ) → o < 64 → OwnedFrom d (start o) a × OwnedFrom d (start o) b → ⊥

-- What the owners of one kind own.
abbrev pub Owning : Book → Owner → ℕ → Subset
Owning d start o = OwnedFrom d (start o)

-- Those who own role b.
abbrev pub OwnsRole : Book → Owner → ℕ → Subset
OwnsRole d start b o = From (d.row juniors) (start o) b

module _ (d : Book) (sized : Sized d) where
  -- 25 and 26: an owner owns a and b.
  silent_both : (n : ℕ) (start : Owner) → ((o : ℕ) → o < 64 → start o < 2 ^ 64) → (a b : ℕ)
      → Silent (NoneOwnsBoth d start a b) (given_lowest n (owns_both d start a b))
  silent_both n start fits a b =
      let owns = owner_shows d sized start fits in
      silent_lowest n (owns_both d start a b) (λ o h. exactly_and (owns.says o a h) (owns.says o b h))

  -- A pair of table m leads from one set to another, as it is computed.
  between_says : {P Q : Subset} (m xs ys : ℕ) → ((u : ℕ) → Exactly (bit xs u) (P u)) → ((v : ℕ) → Exactly (bit ys v) (Q v))
      → (u v : ℕ) → Exactly (between (d.row m) xs ys u v) (P u × (Step (d.row m) u v × Q v))
  between_says m xs ys from to u v = exactly_and (from u) (exactly_and (itself (bit (d.row m u) v)) (to v))

  -- 27, 28 and 34: a pair leads from one set to another.
  pub silent_between : {P Q : Subset} (n m xs ys z : ℕ) → ((u : ℕ) → Exactly (bit xs u) (P u)) → ((v : ℕ) → Exactly (bit ys v) (Q v))
      → Silent ((u v : ℕ) → P u → Q v → Step (d.row m) u v → ⊥) (given_pair_in n (between (d.row m) xs ys) z)
  silent_between n m xs ys z from to = silent_as
      (λ g u v p q x. g u v (step_from (sized.rows m) u v x) (step_to (sized.rows m) u v x) (p, (x, q)))
      (λ g u v hu hv y. g u v y.0 y.1.1 y.1.0)
      (silent_pair n (between (d.row m) xs ys) z (λ u v hu hv. between_says m xs ys from to u v))

  -- 33: a pair leads to one set from one of several, each of which is asked where it has a member.
  pub silent_some_between : {P : ℕ → Subset} {Q : Subset} (n m : ℕ) (asked : ℕ → Bool) (xs : ℕ → ℕ) (ys : ℕ)
      → ((p u : ℕ) → Exactly (bit (xs p) u) (P p u)) → ((p u : ℕ) → P p u → (p < 64) × (asked p ≡ true)) → ((v : ℕ) → Exactly (bit ys v) (Q v))
      → Silent ((p u v : ℕ) → P p u → Q v → Step (d.row m) u v → ⊥) (given_lowest_pair n asked (λ p. between (d.row m) (xs p) ys))
  silent_some_between n m asked xs ys from known to = silent_as
      (λ g p u v h q x. let k = known p u h in g p u v k.0 (step_from (sized.rows m) u v x) (step_to (sized.rows m) u v x) k.1 (h, (x, q)))
      (λ g p u v hp hu hv k y. g p u v y.0 y.1.1 y.1.0)
      (silent_lowest_pair n asked (λ p. between (d.row m) (xs p) ys) (λ p u v hp hu hv. between_says m (xs p) ys (from p) to u v))

  -- 31 and 32: an owner that is asked owns a task SME to one of the gain.
  module _ {Gain : Subset} (gain : ℕ) (small : gain < 2 ^ 64) (what : (v : ℕ) → Exactly (bit gain v) (Gain v)) where
    silent_clashes : {Asked : Subset} (n : ℕ) (start : Owner) → ((o : ℕ) → o < 64 → start o < 2 ^ 64)
        → (asked : ℕ → Bool) → ((o : ℕ) → o < 64 → Exactly (asked o) (Asked o))
        → Silent (Unclashed (Sme d) (Owning d start) Asked Gain) (given_set n (clashes d start asked gain))
    silent_clashes n start fits asked who =
        let owns = owner_shows d sized start fits in
        silent_as
        (λ g o h p u v q w x. g o u h (p, ((owns.says o u h).holds q, (v, x, (what v).holds w))))
        (λ g o u h (p, (q, (v, x, w))). g o h p u v ((owns.says o u h).means q) ((what v).means w) x)
        (silent_set n (clashes d start asked gain) (λ o h. only_lt (asked o) _ (picked_lt (λ t. meet (d.row SME t) gain) (owned_tasks d (start o))))
        (λ o u h. exactly_only (asked o) _ u (who o h)
        (exactly_picked (λ t. meet (d.row SME t) gain) (owned_tasks d (start o)) u (owns.fits o h)
        (exactly_meet (d.row SME u) gain ((sized.rows SME).fits u) small))))

  -- Each conflict, of the arguments a and b.
  module _ (a b : ℕ) where
    -- 20: a is b.
    pub silent_self : Silent (a ≡ b → ⊥) (self_constraint d a b)
    unfolding self_constraint
    silent_self = silent_test 20 (eqb a b) (exactly_eqb a b)

    -- 21: a and b are DME.
    pub silent_dme : Silent (Dme d a b → ⊥) (already_dme d a b)
    unfolding already_dme
    silent_dme = silent_test 21 _ (itself (bit (d.row DME a) b))

    -- 22: a and b are SME.
    pub silent_sme : Silent (Sme d a b → ⊥) (already_sme d a b)
    unfolding already_sme
    silent_sme = silent_test 22 _ (itself (bit (d.row SME a) b))

    -- 23: they lie in one subject group.
    pub silent_subject_group : a < 64 → Silent (Chain (SubjectBound d) a b → ⊥) (one_subject_group d a b)
    unfolding one_subject_group
    silent_subject_group ha = silent_test 23 _ ((subject_group_lem d sized).says a b ha)

    -- 24: they lie in one role group.
    pub silent_role_group : a < 64 → Silent (Chain (RoleBound d) a b → ⊥) (one_role_group d a b)
    unfolding one_role_group
    silent_role_group ha = silent_test 24 _ ((role_group_lem d sized).says a b ha)

    -- 25: a role owns both.
    pub silent_role_owns : Silent (NoneOwnsBoth d role a b) (role_owns_both d a b)
    unfolding role_owns_both
    silent_role_owns = silent_both 25 role (role_lt d sized) a b

    -- 26: a subject owns both.
    pub silent_subject_owns : Silent (NoneOwnsBoth d (subject d) a b) (subject_owns_both d a b)
    unfolding subject_owns_both
    silent_subject_owns = silent_both 26 (subject d) (subject_lt d sized) a b

    -- 27: SME leads from a's role group to b's.
    pub silent_sme_groups : a < 64 → b < 64 → Silent (GroupsApart (Sme d) (RoleBound d) a b) (sme_between_groups d a b)
    unfolding sme_between_groups
    silent_sme_groups ha hb = silent_between 27 SME _ _ 0 (λ u. (role_group_lem d sized).says a u ha) (λ v. (role_group_lem d sized).says b v hb)

    -- 28: DME leads from a's subject group to b's.
    pub silent_dme_groups : a < 64 → b < 64 → Silent (GroupsApart (Dme d) (SubjectBound d) a b) (dme_between_groups d a b)
    unfolding dme_between_groups
    silent_dme_groups ha hb = silent_between 28 DME _ _ 0 (λ u. (subject_group_lem d sized).says a u ha) (λ v. (subject_group_lem d sized).says b v hb)

    -- 29, of kind 9: a is b.
    pub silent_self_inheritance : Silent (a ≡ b → ⊥) (self_inheritance d a b)
    unfolding self_inheritance
    silent_self_inheritance = silent_test 29 (eqb a b) (exactly_eqb a b)

    -- 30: a reaches b.
    pub silent_cycle : a < 64 → Silent (Reaches (Junior d) a b → ⊥) (cycle d a b)
    unfolding cycle
    silent_cycle ha = silent_test 30 _ ((reach_shows d sized).says a b ha)

    -- What is gained in kinds 8 and 9, as it is computed.
    module _ {Gain : Subset} (gained : Book → ℕ → ℕ) (small : gained d a < 2 ^ 64) (what : (v : ℕ) → Exactly (bit (gained d a) v) (Gain v)) where
      -- Of the owners that own role b, one owns a task SME to one of the gain.
      silent_owners : (n : ℕ) (start : Owner) → ((o : ℕ) → o < 64 → start o < 2 ^ 64)
          → Silent (Unclashed (Sme d) (Owning d start) (OwnsRole d start b) Gain) (given_set n (clashes d start (λ o. owns_role d (start o) b) (gained d a)))
      silent_owners n start fits = silent_clashes (gained d a) small what n start fits (λ o. owns_role d (start o) b) (λ o h.
          record { means = below_out d sized (start o) b; holds = below_in d sized (start o) b (fits o h) })

      -- 31: of the roles, b and its seniors.
      pub silent_task_assignment : Silent (Unclashed (Sme d) (Owning d role) (OwnsRole d role b) Gain) (task_assignment gained d a b)
      unfolding task_assignment
      silent_task_assignment = silent_owners 31 role (role_lt d sized)

      -- 32, of kinds 8 and 9: of the subjects.
      pub silent_role_assignment : Silent (Unclashed (Sme d) (Owning d (subject d)) (OwnsRole d (subject d) b) Gain) (role_assignment gained d a b)
      unfolding role_assignment
      silent_role_assignment = silent_owners 32 (subject d) (subject_lt d sized)

    -- 32, of kind 10: of subject b alone.
    pub silent_own_assignment : {Gain : Subset} → gained_role d a < 2 ^ 64 → ((v : ℕ) → Exactly (bit (gained_role d a) v) (Gain v))
        → Silent (Unclashed (Sme d) (Owning d (subject d)) (λ o. b ≡ o) Gain) (own_role_assignment d a b)
    unfolding own_role_assignment
    silent_own_assignment small what = silent_clashes (gained_role d a) small what 32 (subject d) (subject_lt d sized) (eqb b) (λ o h. exactly_eqb b o)
