-- What every kind but 13 owes rule 9, said once: it hands nothing out. What is held after it was held before, by the same subject, and
-- nothing excludes what it did not exclude before: opening and closing empty the cells of an order and leave the others, and what is taken
-- back excludes less. A new pair may exclude more, but it waits until no order is open (7), and then nothing is held.
use mathlib.Core.Path.{◌≡◌, sym, ◌∙◌, subst}
use Prim.Native.Nat.{ℕ, ◌<◌}
use Rattle.chains.specs.Relation.{Step}
use Rattle.rules.specs.Book.{subject_in}
use Rattle.rules.specs.Meaning.{CellRelation, HandsApart}

-- The orders o and their cells become o' and cell'. X said of two cells that the one excludes the other, and X' says it now.
pub record NoneHandedOut (o o' : ℕ → ℕ) (cell cell' : ℕ → ℕ → ℕ) (X X' : CellRelation) : Type 0 where
  pub held : (p t : ℕ) → Step o' p t → 0 < subject_in (cell' p t) → Step o p t × (subject_in (cell' p t) ≡ subject_in (cell p t))
  pub excluded : (p q u v : ℕ) → X' p q u v → X p q u v

-- Then rule 9 stays.
pub hands_stay : {o o' : ℕ → ℕ} {cell cell' : ℕ → ℕ → ℕ} {X X' : CellRelation}
    → NoneHandedOut o o' cell cell' X X' → HandsApart o cell X → HandsApart o' cell' X'
hands_stay none rule p q u v i j x e h =
    let was-u = none.held p u i h in
    let was-v = none.held q v j (subst (λ (s : ℕ). 0 < s) e h) in
    rule p q u v was-u.0 was-v.0 (none.excluded p q u v x) (sym was-u.1 ∙ e ∙ was-v.1) (subst (λ (s : ℕ). 0 < s) was-u.1 h)

-- And where no order is open it holds, whatever excludes what.
pub none_open : (o : ℕ → ℕ) (cell : ℕ → ℕ → ℕ) (X : CellRelation) → ((p t : ℕ) → Step o p t → ⊥) → HandsApart o cell X
none_open o cell X shut p q u v i j x e h = shut p u i
