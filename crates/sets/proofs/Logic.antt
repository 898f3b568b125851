-- Small laws of tests: what it takes for `&&`, `||`, `not` and a choice to hold.
use mathlib.Core.Path.{◌≡◌, refl, sym, ap, ◌∙◌}
use mathlib.Core.Logic.{◌⊎◌, inl, inr}
use mathlib.Core.Bool.{Bool, true, false, ◌&&◌, ◌||◌, not, true≢false}

pub and_out : (p q : Bool) → (p && q) ≡ true → (p ≡ true) × (q ≡ true)
and_out true q e = (refl, e)
and_out false q e = absurd (true≢false (sym e))

pub and_in : {p q : Bool} → p ≡ true → q ≡ true → (p && q) ≡ true
and_in {p} {q} e f = ap (λ (t : Bool). t && q) e ∙ f

-- one side that fails is enough
pub and_fails_l : (p q : Bool) → p ≡ false → (p && q) ≡ false
and_fails_l p q e = ap (λ (t : Bool). t && q) e

pub and_fails_r : (p q : Bool) → q ≡ false → (p && q) ≡ false
and_fails_r true q e = e
and_fails_r false q e = refl

pub or_in_l : (p q : Bool) → p ≡ true → (p || q) ≡ true
or_in_l p q e = ap (λ (t : Bool). t || q) e

pub or_in_r : (p q : Bool) → q ≡ true → (p || q) ≡ true
or_in_r true q e = refl
or_in_r false q e = e

pub or_out : (p q : Bool) → (p || q) ≡ true → (p ≡ true) ⊎ (q ≡ true)
or_out true q e = inl refl
or_out false q e = inr e

pub or_fails_out : (p q : Bool) → (p || q) ≡ false → (p ≡ false) × (q ≡ false)
or_fails_out true q e = absurd (true≢false e)
or_fails_out false q e = (refl, e)

pub or_fails : {p q : Bool} → p ≡ false → q ≡ false → (p || q) ≡ false
or_fails {p} {q} e f = ap (λ (t : Bool). t || q) e ∙ f

-- a test is not both
pub not_both : (t : Bool) → t ≡ true → t ≡ false → ⊥
not_both t e f = true≢false (sym e ∙ f)

-- a test that cannot hold fails
pub refute : (t : Bool) → (t ≡ true → ⊥) → t ≡ false
refute true f = absurd (f refl)
refute false f = refl

pub not_in : (t : Bool) → (t ≡ true → ⊥) → not t ≡ true
not_in t f = ap not (refute t f)

pub not_out : (t : Bool) → not t ≡ true → t ≡ true → ⊥
not_out true e f = true≢false (sym e)
not_out false e f = true≢false (sym f)

-- What is false adds nothing.
pub or_none : (t : Bool) → (t || false) ≡ t
or_none true = refl
or_none false = refl
