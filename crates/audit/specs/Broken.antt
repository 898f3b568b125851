-- The lowest broken rule, as a search gives it that may find none.
use Rattle.std.specs.Prelude.{◌≡◌, ◌<◌, ◌+◌, ℕ, Option, MatchOption}
use Rattle.rules.specs.Book.{Book}
use Rattle.rules.specs.Audit.{rule_count, first_broken}

-- What is found is the lowest broken rule; or all are kept, and nothing is found.
abbrev pub IsFirstBroken : Book → Option ℕ → Type 0
IsFirstBroken d found = MatchOption found (first_broken d ≡ rule_count + 1) (λ n. (n < rule_count + 1) × (first_broken d ≡ n))
