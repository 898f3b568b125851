-- THE GUARANTEE of the audit entry, for any slice and any words: what it finds is the answer of the audit.
-- The slice is lent for reading, so that there is nothing to say of its words afterwards.
use Rattle.std.specs.Prelude.{◌≡◌, List, ℕ, length}
use Rattle.rules.specs.Audit.{audited}
use Rattle.book.specs.Slice.{words}
use Rattle.answers.specs.Findings.{Finding, found}

-- f is found of the slice
abbrev pub Finds : List ℕ → Finding → Type 0
Finds l f = found f ≡ audited (length l) (words l)

-- Two findings of one slice coincide.
abbrev pub OneFinding : Type 0
OneFinding = (l : List ℕ) (f f' : Finding) → Finds l f → Finds l f' → f ≡ f'
