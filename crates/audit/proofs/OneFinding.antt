-- The guarantee leaves no choice: a finding is known by what it says.
use mathlib.Core.Path.{◌≡◌, refl, sym, ap, ◌∙◌}
use mathlib.Core.Bool.{Bool, true, false}
use Rattle.std.proofs.Common.{Ok, Err}
use Prim.Native.Nat.{ℕ, ◌+◌, ◌-◌}
use native.Mathlib.Omega.{arith}
use lib.Dec.{ltb, eqb}
use borrow.Author.Tests.{le-ltb}
use Rattle.rules.specs.Numbers.{Said, accepted, says}
use Rattle.answers.specs.Findings.{Finding, found}
use Rattle.answers.specs.declared.Fault.TheVariants.{WrongLength, BadWord, Broken}
use Rattle.audit.specs.Guarantee.{OneFinding}

-- 1 or 2 by the number, else the rule
numbered : Bool → ℕ → ℕ → Finding
numbered true n x = elim (eqb n 1) [ true ↦ Err WrongLength | false ↦ Err (BadWord x) ]
numbered false n x = Err (Broken (n - 40))

-- The case that is told so.
finding_of : Said → Finding
finding_of accepted = Ok tt
finding_of (says n r) = numbered (ltb n 40) n r.x

-- Each case is found again by what is told.
back : (p : Finding) → finding_of (found p) ≡ p
unfolding numbered finding_of
back (Ok sound) = refl
back (Err WrongLength) = refl
back (Err (BadWord i)) = refl
back (Err (Broken rule)) =
    ap (λ (t : Bool). numbered t (40 + rule) 0) (le-ltb (40 + rule) 40 (omega arith)) ∙ ap (λ (n : ℕ). Err (Broken n)) (omega arith)

-- Two findings that are told alike are one.
pub found_injective : (p q : Finding) → found p ≡ found q → p ≡ q
found_injective p q e = sym (back p) ∙ ap finding_of e ∙ back q

-- Two findings of one slice coincide.
pub one_finding : OneFinding
one_finding l f f' e e' = found_injective f f' (e ∙ sym e')
