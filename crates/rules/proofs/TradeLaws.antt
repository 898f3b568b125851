-- Reach, owns and the groups, as the document says them: each computed set has exactly the members that it should.
use mathlib.Core.Logic.{inl, inr}
use Prim.Native.Nat.{ℕ, ◌^◌, ◌<◌}
use native.Mathlib.Omega.{arith}
use native.Mathlib.Decide.{dec_lt}
use lib.Bits.{bit_or, or_lt}
use lib.Pow.{pow-lt}
use Rattle.sets.specs.Mask.{bit}
use Rattle.sets.proofs.MaskLaws.{bit_lt, zero_none, in_l, in_r, in_cases, joined_in, joined_out, joined_lt}
use Rattle.chains.specs.Relation.{Relation, In, Step, Chain, stay, more, Reaches}
use Rattle.chains.specs.Closure.{group}
use Rattle.chains.proofs.RelationLaws.{chain_map, chain_join}
use Rattle.chains.proofs.ClosureLaws.{From, close_lt, close_chain, from_close, group_chain, chain_group, group_lt}
use Rattle.rules.specs.Book.{Book, RB, SB, juniors, tasks_of, roles_of}
use Rattle.rules.specs.Trade.{Owner, role, subject, below, reach, owned_tasks, subject_group, role_group}
use Rattle.rules.specs.Meaning.{Tall, Sized, OwnedFrom, Mixed}
use Rattle.rules.specs.Chained.{ReachMeans, OwnsMeans, GroupsMean}
use Rattle.rules.proofs.Exactly.{Exactly, exactly_as}

-- A step goes from a number below 64 ..
module _ {rows : ℕ → ℕ} (t : Tall rows) where
  pub step_from : (i j : ℕ) → Step rows i j → i < 64
  step_from i j e = go (dec_lt i 64)
    where
      go : Dec (i < 64) → i < 64
      go (yes h) = h
      go (no h) = absurd (zero_none j (t.ends i (omega arith)) e)

  -- .. to a number below 64.
  pub step_to : (i j : ℕ) → Step rows i j → j < 64
  step_to i j e = bit_lt (rows i) j (t.fits i) e

-- The rows of two tables mixed.
mixed_tall : {s r : ℕ → ℕ} → Tall s → Tall r → Tall (λ u. bit_or (s u) (r u))
mixed_tall {s} {r} x y = record {
  fits = λ u. or_lt 64 (s u) (r u) (x.fits u) (y.fits u);
  ends = λ u h. rw (x.ends u h, y.ends u h);
}

-- The sets of 0..63, computed, say who is related to whom: j is in the set of i exactly if R relates i to j.
pub record Shows (R : Relation) (sets : ℕ → ℕ) : Type 0 where
  pub fits : (i : ℕ) → i < 64 → sets i < 2 ^ 64
  pub says : (i j : ℕ) → i < 64 → Exactly (bit (sets i) j) (R i j)

-- Rows show their steps.
pub rows_show : {rows : ℕ → ℕ} → Tall rows → Shows (Step rows) rows
rows_show t = record { fits = λ i h. t.fits i; says = λ i j h. record { means = λ e. e; holds = λ e. e } }

-- The group of t is t and all that chains lead to from it ..
pub group_shows : {rows : ℕ → ℕ} → Tall rows → Shows (Chain (Step rows)) (group rows)
group_shows {rows} t = record {
  fits = group_lt rows t.fits;
  says = λ i j h. record { means = group_chain rows t.fits i j; holds = chain_group rows t.fits i j h };
}

-- A step of two tables mixed is a step of either ..
mixed_out : (s r : ℕ → ℕ) (u v : ℕ) → Step (λ x. bit_or (s x) (r x)) u v → Mixed s r u v
mixed_out s r u v e = in_cases (s u) (r u) v e

-- .. and back.
pub mixed_in : (s r : ℕ → ℕ) (u v : ℕ) → Mixed s r u v → Step (λ x. bit_or (s x) (r x)) u v
mixed_in s r u v (inl e) = in_l (s u) (r u) v e
mixed_in s r u v (inr e) = in_r (s u) (r u) v e

-- So the group along the mixed rows is what chains of either lead to.
mixed_shows : {s r : ℕ → ℕ} → Tall s → Tall r → Shows (Chain (Mixed s r)) (group (λ x. bit_or (s x) (r x)))
mixed_shows {s} {r} x y =
    let g = group_shows (mixed_tall x y) in
    record { fits = g.fits; says = λ i j h. exactly_as (chain_map (mixed_out s r)) (chain_map (mixed_in s r)) (g.says i j h) }

-- One step and then a chain reach ..
pub first_step : {E : Relation} {r i q : ℕ} → E r i → Chain E i q → Reaches E r q
first_step {r = r} e stay = record { before = r; way = stay; last = e }
first_step e (more {j = j} c f) = record { before = j; way = chain_join (more stay e) c; last = f }

-- .. and what is reached, is reached by one step and then a chain.
pub step_first : {E : Relation} {r m q : ℕ} → Chain E r m → E m q → (i : ℕ) × E r i × Chain E i q
step_first {q = q} stay e = (q, e, stay)
step_first (more c f) e = let x = step_first c f in (x.0, x.1, more x.2 e)

module _ (d : Book) (s : Sized d) where
  -- .. along SB it is the subject group ..
  pub subject_group_lem : Shows (Chain (Step (d.row SB))) (subject_group d)
  unfolding subject_group
  subject_group_lem = group_shows (s.rows SB)

  -- .. and along SB and RB mixed the role group.
  pub role_group_lem : Shows (Chain (Mixed (d.row SB) (d.row RB))) (role_group d)
  unfolding role_group
  role_group_lem = mixed_shows (s.rows SB) (s.rows RB)

  -- The set below m has the roles of m and all that chains of juniors lead to from them ..
  pub below_out : (m q : ℕ) → In (below d m) q → From (d.row juniors) m q
  unfolding below
  below_out m q e = close_chain (d.row juniors) (s.rows juniors).fits m q e

  -- .. and back.
  pub below_in : (m q : ℕ) → m < 2 ^ 64 → From (d.row juniors) m q → In (below d m) q
  unfolding below
  below_in m q h x = from_close (d.row juniors) (s.rows juniors).fits m q h x

  -- It is a set of roles below 64.
  pub below_lt : (m : ℕ) → m < 2 ^ 64 → below d m < 2 ^ 64
  unfolding below
  below_lt m h = close_lt (d.row juniors) (s.rows juniors).fits 64 m h

  -- Role r reaches q if a chain of one or more direct-junior steps leads from r to q ..
  pub reach_out : (r q : ℕ) → In (reach d r) q → Reaches (Step (d.row juniors)) r q
  unfolding reach
  reach_out r q e = let x = below_out (d.row juniors r) q e in first_step x.1 x.2

  -- .. and back.
  pub reach_in : (r q : ℕ) → Reaches (Step (d.row juniors)) r q → In (reach d r) q
  unfolding reach
  reach_in r q x = below_in (d.row juniors r) q ((s.rows juniors).fits r) (step_first x.way x.last)

  -- So the sets show who reaches whom.
  pub reach_shows : Shows (Reaches (Step (d.row juniors))) (reach d)
  unfolding reach
  reach_shows = record {
    fits = λ r h. below_lt (d.row juniors r) ((s.rows juniors).fits r);
    says = λ r q h. record { means = reach_out r q; holds = reach_in r q };
  }

  -- One that starts with the roles of m owns the tasks assigned to these and to all roles they reach ..
  pub owned_out : (m t : ℕ) → In (owned_tasks d m) t → OwnedFrom d m t
  unfolding owned_tasks
  owned_out m t e =
      let x = joined_out (d.row tasks_of) 64 (below d m) t e in
      let y = below_out m x.0 x.1 in
      (y.0, x.0, y.1, y.2, x.2)

  -- .. and back.
  pub owned_in : (m t : ℕ) → m < 2 ^ 64 → OwnedFrom d m t → In (owned_tasks d m) t
  unfolding owned_tasks
  owned_in m t h (r, q, x, c, g) =
      joined_in (d.row tasks_of) 64 (below d m) q t (step_from (s.rows tasks_of) q t g) (below_in m q h (r, x, c)) g

  -- They are a set of tasks below 64.
  pub owned_lt : (m : ℕ) → owned_tasks d m < 2 ^ 64
  unfolding owned_tasks
  owned_lt m = joined_lt (d.row tasks_of) (s.rows tasks_of).fits 64 (below d m)

  -- The start of a role is a word ..
  pub role_lt : (o : ℕ) → o < 64 → role o < 2 ^ 64
  role_lt o h = pow-lt h

  -- .. and that of a subject.
  pub subject_lt : (o : ℕ) → o < 64 → subject d o < 2 ^ 64
  subject_lt o h = (s.rows roles_of).fits o

  -- So the sets show what every owner owns.
  pub owner_shows : (start : Owner) → ((o : ℕ) → o < 64 → start o < 2 ^ 64) → Shows (λ o. OwnedFrom d (start o)) (λ o. owned_tasks d (start o))
  owner_shows start fit = record {
    fits = λ o h. owned_lt (start o);
    says = λ o t h. record { means = owned_out (start o) t; holds = owned_in (start o) t (fit o h) };
  }

-- STATEMENT 1: what reach means.
pub reach_means : ReachMeans
reach_means d s r q h = (reach_out d s r q, reach_in d s r q)

-- STATEMENT 2: what it means to own.
pub owns_means : OwnsMeans
owns_means d s o t h = (
  (owned_out d s (role o) t, owned_in d s (role o) t (role_lt d s o h)),
  (owned_out d s (subject d o) t, owned_in d s (subject d o) t (subject_lt d s o h)),
)

-- STATEMENT 3: what the two groups mean.
pub groups_mean : GroupsMean
groups_mean d s t u h =
    let x = (subject_group_lem d s).says t u h in
    let y = (role_group_lem d s).says t u h in
    ((x.means, x.holds), (y.means, y.holds))
