-- Document 01, "Words of the trade": reach, owns, the two groups. What excludes what is said with rule 9, in Meaning.antt.
-- proofs/TradeLaws.antt shows that each computed set is what the document says of chains.
use Rattle.std.specs.Prelude.{Bool, ℕ, ◌^◌}
use Rattle.std.specs.Int.Bits.{bit_or}
use Rattle.sets.specs.Mask.{bit, joined}
use Rattle.chains.specs.Closure.{close, group}
use Rattle.rules.specs.Book.{Book, RB, SB, juniors, tasks_of, roles_of}

-- the roles of m and all roles that they reach
unfoldable pub below : Book → ℕ → ℕ
below d m = close 64 (d.row juniors) m

-- Role r reaches q if a chain of one or more direct-junior steps leads from r to q.
unfoldable pub reach : Book → ℕ → ℕ
reach d r = below d (d.row juniors r)

-- The roles that owners start with, by the owner's number: a role starts with itself, a subject with its assigned roles.
abbrev pub Owner : Type 0
Owner = ℕ → ℕ

abbrev pub role : Owner
role r = 2 ^ r

abbrev pub subject : Book → Owner
subject d = d.row roles_of

-- An owner owns the roles that it starts with and all that they reach ..
abbrev pub owns_role : Book → ℕ → ℕ → Bool
owns_role d start r = bit (below d start) r

-- .. and the tasks assigned to all these.
unfoldable pub owned_tasks : Book → ℕ → ℕ
owned_tasks d start = joined 64 (d.row tasks_of) (below d start)

-- The subject group of t is t and all tasks joined to it by chains of SB.
unfoldable pub subject_group : Book → ℕ → ℕ
subject_group d t = group (d.row SB) t

-- The rows of two tables mixed.
abbrev pub mixed : Book → ℕ → ℕ → ℕ → ℕ
mixed d m n u = bit_or (d.row m u) (d.row n u)

-- The role group is the same with SB and RB mixed.
unfoldable pub role_group : Book → ℕ → ℕ
role_group d t = group (mixed d SB RB) t
