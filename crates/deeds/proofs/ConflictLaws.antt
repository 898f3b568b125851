-- A conflict that is one test, at the head of any list: told where its test holds, passed where it fails.
-- A cascade of early returns is a chain of these, over what was read; whoever has read it may use them.
use mathlib.Core.Path.{◌≡◌, refl, sym, ap, ◌∙◌}
use mathlib.Core.Bool.{Bool, true, false}
use mathlib.Core.List.{List, [], ◌∷◌}
use Prim.Native.Nat.{ℕ}
use lib.Dec.{eqb}
use borrow.Author.Tests.{ne_eqb}
use Rattle.rules.specs.Book.{Book}
use Rattle.rules.specs.Numbers.{Said, say, given, Conflict, first_of, unlisted, by_table}
use Rattle.rules.proofs.BookLaws.{unchosen}
use Rattle.deeds.proofs.CascadeLaws.{given_yes, given_no}

module _ (d : Book) (a b : ℕ) (f : Conflict) (fs : List Conflict) (t : Bool) (s : Said) (asks : (rest : Said) → f d a b rest ≡ given t s rest) where
  pub told : t ≡ true → s ≡ first_of (f ∷ fs) d a b
  unfolding first_of
  told e = given_yes t s _ e ∙ sym (asks _)

  pub passed : {out : Said} → t ≡ false → out ≡ first_of fs d a b → out ≡ first_of (f ∷ fs) d a b
  unfolding first_of
  passed e p = given_no t s _ e p ∙ sym (asks _)

-- Table n is none of those listed ..
abbrev pub Unlisted : List (ℕ × List Conflict) → ℕ → Type 0
Unlisted [] n = Unit {0}
Unlisted (x ∷ xs) n = (n ≡ x.0 → ⊥) × Unlisted xs n

-- .. so it has no list: 3.
pub unlisted_told : (l : List (ℕ × List Conflict)) (d : Book) (n a b : ℕ) → Unlisted l n → say 3 ≡ first_of (by_table l n) d a b
unfolding first_of by_table unlisted
unlisted_told [] d n a b u = refl
unlisted_told (x ∷ xs) d n a b u =
    unlisted_told xs d n a b u.1 ∙ ap (λ (fs : List Conflict). first_of fs d a b) (sym (unchosen _ _ (eqb n x.0) (ne_eqb n x.0 u.0)))
