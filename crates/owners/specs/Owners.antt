-- Roles and subjects as owners: what each starts with, the clashes of those who own a role, and how a search for a clash gives them.
use Rattle.std.specs.Prelude.{true, false, ℕ, ltb, Option, Some, None}
use Rattle.sets.specs.Search.{lowest}
use Rattle.rules.specs.Book.{Book}
use Rattle.rules.specs.Trade as trade
use Rattle.rules.specs.Numbers.{Said, say_xy, has_some, clashes}
use Rattle.owners.specs.declared.Owner.{Owner}
use Rattle.owners.specs.declared.Owner.TheVariants.{Role, Subject}

-- the roles that an owner starts with
abbrev pub start_of : Book → Owner → trade.Owner
start_of d Role = trade.role
start_of d Subject = trade.subject d

-- the clashes of each owner of role b
abbrev pub clashes_below : Book → Owner → ℕ → ℕ → ℕ → ℕ
clashes_below d owner b gain = clashes d (start_of d owner) (λ o. trade.owns_role d (start_of d owner o) b) gain

-- o with its set of tasks, where o is a number of 0..63
unfoldable pub clash_of : (ℕ → ℕ) → ℕ → Option (ℕ × ℕ)
clash_of f o = elim (ltb o 64) [ true ↦ Some (o, f o) | false ↦ None ]

-- the lowest whose set is not empty, with that whole set
unfoldable pub found_clash : (ℕ → ℕ) → Option (ℕ × ℕ)
found_clash f = clash_of f (lowest (has_some f))

-- number n with the owner as x and the tasks as y; else what the rest gives
abbrev pub told_clash : ℕ → Option (ℕ × ℕ) → Said → Said
told_clash n (Some (o, tasks)) rest = say_xy n o tasks
told_clash n None rest = rest
