-- What conflicts with what the owners of a role would gain.
use Rattle.std.specs.Prelude.{ℕ}
use Rattle.rules.specs.Book.{Book}
use Rattle.rules.specs.Numbers.{Said, accepted, given_set}
use Rattle.owners.specs.Owners.{clashes_below}
use Rattle.owners.specs.declared.Owner.TheVariants.{Role, Subject}

-- 31 of role b and its seniors, then 32 of the subjects that own it, where they would gain these tasks
abbrev pub owners_conflict : Book → ℕ → ℕ → Said
owners_conflict d gain b = given_set 31 (clashes_below d Role b gain) (given_set 32 (clashes_below d Subject b gain) accepted)
