-- Who owns, asked from below: up from tasks to the roles that have them, to their seniors, to who starts with one of these.
-- Only defined numbers are looked at. In a well-formed book the others own nothing: proofs/RisingLaws.antt.
use Rattle.std.specs.Prelude.{◌≡◌, Bool, true, ◌&&◌, ℕ}
use Rattle.sets.specs.Mask.{bit, within, meet, picked}
use Rattle.chains.specs.Closure.{close}
use Rattle.rules.specs.Book.{Book, tasks, roles, subjects, SME, juniors, tasks_of, roles_of}
use Rattle.rules.specs.Numbers.{clashing}
use Rattle.owners.specs.declared.Owner.{Owner}
use Rattle.owners.specs.declared.Owner.TheVariants.{Role, Subject}

-- the direct seniors of role j
abbrev pub seniors : Book → ℕ → ℕ
seniors d j = picked (λ i. bit (d.row juniors i) j) (roles d)

-- the roles of m and all that reach one of them
abbrev pub above : Book → ℕ → ℕ
above d m = close 64 (seniors d) m

-- One round upwards made v of m: nothing is lost, the same lies above, and where nothing was added nothing more lies above.
abbrev pub Raised : Book → ℕ → ℕ → Type 0
Raised d m v = (within m v ≡ true) × (above d v ≡ above d m) × (v ≡ m → above d m ≡ m)

-- the roles that own one of the tasks
abbrev pub owners_of : Book → ℕ → ℕ
owners_of d ts = above d (picked (λ r. meet (d.row tasks_of r) ts) (roles d))

-- the owners that start with a role of m
abbrev pub starters : Book → Owner → ℕ → ℕ
starters d Role m = m
starters d Subject m = picked (λ s. meet (d.row roles_of s) m) (subjects d)

-- the defined tasks that are SME to a gained one
abbrev pub all_clashing : Book → ℕ → ℕ
all_clashing d gain = clashing (d.row SME) gain (tasks d)

-- owner o starts with a role of xs and with one of ys
abbrev pub starts_in_both : Book → Owner → ℕ → ℕ → ℕ → Bool
starts_in_both d owner xs ys o = bit (starters d owner xs) o && bit (starters d owner ys) o
