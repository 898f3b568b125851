-- Chains over relations, as the document speaks of them: no mask and no bound on their length.
use Rattle.std.specs.Prelude.{◌≡◌, true, ℕ, zero, suc, ◌≤◌, ◌<◌}
use Rattle.sets.specs.Mask.{bit}

abbrev pub Relation : Type 1
Relation = ℕ → ℕ → Type 0

abbrev pub Subset : Type 1
Subset = ℕ → Type 0

-- number i is in the set m
abbrev pub In : ℕ → Subset
In m i = bit m i ≡ true

-- v is in u's row
abbrev pub Step : (ℕ → ℕ) → Relation
Step rows u v = In (rows u) v

-- a chain of no steps or more leads from i
pub data Chain (E : Relation) (i : ℕ) : ℕ → Type 0 where
  stay : Chain E i i
  more : {j k : ℕ} → Chain E i j → E j k → Chain E i k

-- a chain of one step or more leads from i to j
pub record Reaches (E : Relation) (i j : ℕ) : Type 0 where
  pub before : ℕ
  pub way : Chain E i before
  pub last : E before j

-- a chain of exactly n steps leads from i
pub data Steps (E : Relation) (i : ℕ) : ℕ → ℕ → Type 0 where
  none : Steps E i zero i
  next : {n j k : ℕ} → Steps E i n j → E j k → Steps E i (suc n) k

-- a chain of at least one step and at most k
pub record Short (k : ℕ) (E : Relation) (i j : ℕ) : Type 0 where
  pub count : ℕ
  pub some : 0 < count
  pub few : count ≤ k
  pub way : Steps E i count j
