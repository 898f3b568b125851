-- A visit to the members of a set, and a search that may find none.
use Rattle.std.specs.Prelude.{◌≡◌, Bool, ℕ, ◌^◌, ◌<◌, Option, MatchOption}
use Rattle.sets.specs.Mask.{bit, without}
use Rattle.sets.specs.Search.{lowest}

-- Member i of the set m is visited, and `after` is left to visit.
pub record Visit (m i after : ℕ) : Type 0 where
  pub some : 0 < m
  pub fits : m < 2 ^ 64
  pub below : i < 64
  -- it is the lowest
  pub at : i ≡ lowest (bit m)
  -- the others are left
  pub rest : after ≡ without m (lowest (bit m))

-- One step of a visit to what is left: a member is visited; or nobody is left, and nobody is visited.
abbrev pub Visits : ℕ → Option ℕ → ℕ → Type 0
Visits m visited after = MatchOption visited ((m ≡ 0) × (after ≡ 0)) (λ i. Visit m i after)

-- What is found is the lowest number that passes f, which is below 64; or none passes, and nothing is found.
abbrev pub IsLowest : (ℕ → Bool) → Option ℕ → Type 0
IsLowest f found = MatchOption found (lowest f ≡ 64) (λ i. (i < 64) × (lowest f ≡ i))
