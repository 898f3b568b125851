-- Rules 9 and 10 as the audit looks for them: for rule 9 who holds what, for rule 10 each group of an order from its lowest task.
use Rattle.std.specs.Prelude.{◌≡◌, Bool, true, false, ◌&&◌, List, ℕ, suc, ◌<◌, eqb}
use Rattle.std.specs.Int.Bits.{bit_and, bit_or}
use Rattle.sets.specs.Mask.{bit, with, only}
use Rattle.sets.specs.Search.{lowest, all}
use Rattle.rules.specs.Book.{Book, subjects, SME, DME, orders, role_in, subject_in}
use Rattle.rules.specs.Trade.{subject_group, role_group}
use Rattle.rules.specs.Requests.{is_open}
use Rattle.rules.specs.Numbers.{held_by}
use Rattle.rules.specs.Audit.{implies, pair_free, held_anywhere}
use Rattle.book.specs.Slice.{words}

-- m is the set of the open orders
abbrev pub Opens : Book → ℕ → Type 0
Opens d m = (p : ℕ) → p < 64 → bit m p ≡ is_open d p

-- what becomes of v, the tasks that subject k holds, where task t is held by s; s is a subject plus 1, or 0 for nobody
abbrev pub noted : ℕ → ℕ → ℕ → ℕ → ℕ
noted s t k v = elim (eqb s (suc k)) [ true ↦ with v t | false ↦ v ]

-- what each subject is noted with became what it was and what it holds in order p
abbrev pub NotedIn : Book → ℕ → List ℕ → List ℕ → Type 0
NotedIn d p before after = (s : ℕ) → s < 64 → words after s ≡ bit_or (words before s) (held_by d p s)

-- what each is noted with anywhere became what it was and what is noted here
abbrev pub Gathered : List ℕ → List ℕ → List ℕ → Type 0
Gathered held before after = (s : ℕ) → s < 64 → words after s ≡ bit_or (words before s) (words held s)

-- who is undefined is noted with nothing
abbrev pub OnlyDefined : Book → List ℕ → Type 0
OnlyDefined d held = (s : ℕ) → s < 64 → bit (subjects d) s ≡ false → words held s ≡ 0

-- rule 9 for SME, over all orders together ..
unfoldable pub sme_apart : Book → Bool
sme_apart d = all 64 (λ s. pair_free (d.row SME) (held_anywhere d s))

-- .. and for DME, in one order, if it is open, and so in each
abbrev pub dme_apart_in : Book → ℕ → Bool
dme_apart_in d p = implies (is_open d p) (all 64 (λ s. pair_free (d.row DME) (held_by d p s)))

unfoldable pub dme_apart : Book → Bool
dme_apart d = all 64 (dme_apart_in d)

-- the set where u is its lowest member, else the empty set
abbrev pub from_lowest : ℕ → ℕ → ℕ
from_lowest set u = only (eqb (lowest (bit set)) u) set

-- the same S in two cells where v is in the subject group, the same E where it is in the role group
abbrev pub alike : ℕ → ℕ → ℕ → ℕ → ℕ → Bool
alike by_subject by_role v own other =
    implies (bit by_subject v) (eqb (subject_in own) (subject_in other)) && implies (bit by_role v) (eqb (role_in own) (role_in other))

abbrev pub same_hand : Book → ℕ → ℕ → ℕ → ℕ → ℕ → Bool
same_hand d p by_subject by_role own v = alike by_subject by_role v own (d.cell p v)

-- order p without u asks nothing; where u is the lowest of a group in it, the others of that group go with u
abbrev pub together_in : Book → ℕ → ℕ → ℕ → ℕ → Bool
together_in d by_subject by_role u p =
    implies (bit (d.row orders p) u)
    (all 64 (same_hand d p (from_lowest (bit_and (d.row orders p) by_subject) u) (from_lowest (bit_and (d.row orders p) by_role) u) (d.cell p u)))

-- so it is in every order, with the two groups of u
unfoldable pub bound_together : Book → ℕ → Bool
bound_together d u = all 64 (together_in d (subject_group d u) (role_group d u) u)
