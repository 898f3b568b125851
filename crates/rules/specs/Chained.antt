-- WHAT THE WORDS OF THE TRADE MEAN: each set that Trade.antt computes has exactly the members that document 01 says of chains.
-- The statements are of a book whose rows have 64 bits, as every book of words has; each is proved under its own name, the first three
-- in proofs/TradeLaws.antt, the last in proofs/ShortChains.antt.
use Rattle.std.specs.Prelude.{◌↔◌, ℕ, ◌<◌}
use Rattle.chains.specs.Relation.{In, Step, Chain, Reaches, Short}
use Rattle.rules.specs.Book.{Book, RB, SB, juniors}
use Rattle.rules.specs.Trade.{role, subject, reach, owned_tasks, subject_group, role_group}
use Rattle.rules.specs.Meaning.{Sized, Mixed, OwnedFrom}

-- 1. Role r reaches q if a chain of one or more direct-junior steps leads from r to q.
abbrev pub ReachMeans : Type 0
ReachMeans = (d : Book) → Sized d → (r q : ℕ) → r < 64 → In (reach d r) q ↔ Reaches (Step (d.row juniors)) r q

-- 2. A role owns the tasks assigned to it and to every role it reaches; a subject those of its assigned roles and of all that they reach.
abbrev pub OwnsMeans : Type 0
OwnsMeans =
    (d : Book) → Sized d → (o t : ℕ) → o < 64
    → (In (owned_tasks d (role o)) t ↔ OwnedFrom d (role o) t) × (In (owned_tasks d (subject d o)) t ↔ OwnedFrom d (subject d o) t)

-- 3. The subject group of t is t and all tasks joined to it by chains of SB; the role group is the same with SB and RB mixed.
abbrev pub GroupsMean : Type 0
GroupsMean =
    (d : Book) → Sized d → (t u : ℕ) → t < 64
    → (In (subject_group d t) u ↔ Chain (Step (d.row SB)) t u) × (In (role_group d t) u ↔ Chain (Mixed (d.row SB) (d.row RB)) t u)

-- 4. Every role reached has a chain of at most 64 steps.
abbrev pub ShortChains : Type 0
ShortChains = (d : Book) → Sized d → (r q : ℕ) → In (reach d r) q → Short 64 (Step (d.row juniors)) r q
