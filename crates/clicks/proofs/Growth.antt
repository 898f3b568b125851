-- Books that differ in steps of tables 0 to 6 alone: one that has grown by some steps, one that has lost them, and when two are the same.
-- Which steps these are is left open here; AddingKinds.antt has them from the requests.
use mathlib.Core.Path.{◌≡◌, refl, sym, ap, ◌∙◌}
use mathlib.Core.Logic.{◌⊎◌, inl, inr}
use mathlib.Core.Bool.{Bool, true, false}
use Prim.Native.Nat.{ℕ, ◌<◌}
use Rattle.sets.proofs.MaskLaws.{bit_ext}
use Rattle.chains.specs.Relation.{Relation, Step}
use Rattle.rules.specs.Book.{Book, active}
use Rattle.rules.specs.Requests.{set_table}
use Rattle.rules.specs.Meaning.{Symmetric, Sized}
use Rattle.rules.proofs.BookLaws.{book_ext}
use Rattle.rules.proofs.ChangeLaws.{table_cases}
use Rattle.demands.proofs.Fewer.{Beside}
use Rattle.demands.proofs.TakenBack.{table_beside}

-- Of two books beside each other either may be named first ..
pub beside_turn : {d e : Book} → Beside d e → Beside e d
beside_turn s = record { heads = sym s.heads; cells = sym s.cells; actives = sym s.actives; opened = sym s.opened }

-- .. and what lies beside the second lies beside the first.
pub beside_on : {d e f : Book} → Beside d e → Beside e f → Beside d f
beside_on s t = record {
  heads = t.heads ∙ s.heads;
  cells = t.cells ∙ s.cells;
  actives = t.actives ∙ s.actives;
  opened = t.opened ∙ s.opened;
}

-- The book d' is d with the steps of New: in table n, from u to v.
pub record Grown (d d' : Book) (New : ℕ → Relation) : Type 0 where
  pub beside : Beside d d'
  pub out : (n u v : ℕ) → Step (d'.row n) u v → Step (d.row n) u v ⊎ New n u v
  pub old : (n u v : ℕ) → Step (d.row n) u v → Step (d'.row n) u v
  pub new : (n u v : ℕ) → New n u v → Step (d'.row n) u v

-- The book d' is d without the steps of Lost.
pub record Shrunk (d d' : Book) (Lost : ℕ → Relation) : Type 0 where
  pub beside : Beside d d'
  pub old : (n u v : ℕ) → Step (d'.row n) u v → Step (d.row n) u v
  pub gone : (n u v : ℕ) → Step (d'.row n) u v → Lost n u v → ⊥
  pub left : (n u v : ℕ) → Step (d.row n) u v → (Lost n u v → ⊥) → Step (d'.row n) u v

-- The same of steps that are only named otherwise.
module _ {d d' : Book} {X Y : ℕ → Relation} (to : (n u v : ℕ) → X n u v → Y n u v) (from : (n u v : ℕ) → Y n u v → X n u v) where
  pub grown_as : Grown d d' X → Grown d d' Y
  grown_as g = record { beside = g.beside; out = λ n u v e. either (g.out n u v e); old = g.old; new = λ n u v y. g.new n u v (from n u v y) }
    where
      either : {n u v : ℕ} → Step (d.row n) u v ⊎ X n u v → Step (d.row n) u v ⊎ Y n u v
      either (inl e) = inl e
      either {n} {u} {v} (inr x) = inr (to n u v x)

  pub shrunk_as : Shrunk d d' X → Shrunk d d' Y
  shrunk_as s = record {
    beside = s.beside;
    old = s.old;
    gone = λ n u v e y. s.gone n u v e (from n u v y);
    left = λ n u v e k. s.left n u v e (λ x. k (to n u v x));
  }

-- The pair tables run both ways.
abbrev pub Turns : (ℕ → Relation) → Type 0
Turns S = (n : ℕ) → n < 4 → Symmetric (S n)

-- A book whose pair tables run both ways grows by pairs: they still do.
pub grown_turns : {d d' : Book} {New : ℕ → Relation} → Grown d d' New → Turns New → Turns (λ n. Step (d.row n)) → Turns (λ n. Step (d'.row n))
grown_turns {d} {d'} {New} g new was n h u v e = go (g.out n u v e)
  where
    go : Step (d.row n) u v ⊎ New n u v → Step (d'.row n) v u
    go (inl i) = g.old n v u (was n h u v i)
    go (inr i) = g.new n v u (new n h u v i)

-- One of tables 0 to 6 is changed: the steps of X in table t.
module _ (d : Book) (t : ℕ) (f : ℕ → ℕ) (X : Relation) (h : t < active) where
  abbrev pub InTable : ℕ → Relation
  InTable n u v = (n ≡ t) × X u v

  -- Where the table grows by X, the book does ..
  pub table_grown : ((u v : ℕ) → Step f u v → Step (d.row t) u v ⊎ X u v) → ((u v : ℕ) → Step (d.row t) u v ⊎ X u v → Step f u v)
      → Grown d (set_table d t f) InTable
  table_grown out into = record {
    beside = table_beside d t f h;
    out = table_cases d t f (λ n g. (u v : ℕ) → Step g u v → Step (d.row n) u v ⊎ InTable n u v) (λ u v e. here (out u v e)) (λ n k u v e. inl e);
    old = table_cases d t f (λ n g. (u v : ℕ) → Step (d.row n) u v → Step g u v) (λ u v e. into u v (inl e)) (λ n k u v e. e);
    new = table_cases d t f (λ n g. (u v : ℕ) → InTable n u v → Step g u v) (λ u v (e, x). into u v (inr x)) (λ n k u v (e, x). absurd (k e));
  }
    where
      here : {u v : ℕ} → Step (d.row t) u v ⊎ X u v → Step (d.row t) u v ⊎ InTable t u v
      here (inl e) = inl e
      here (inr x) = inr (refl, x)

  -- .. and where the table loses X.
  pub table_shrunk : ((u v : ℕ) → Step f u v → Step (d.row t) u v × (X u v → ⊥)) → ((u v : ℕ) → Step (d.row t) u v → (X u v → ⊥) → Step f u v)
      → Shrunk d (set_table d t f) InTable
  table_shrunk out into = record {
    beside = table_beside d t f h;
    old = table_cases d t f (λ n g. (u v : ℕ) → Step g u v → Step (d.row n) u v) (λ u v e. (out u v e).0) (λ n k u v e. e);
    gone =
        table_cases d t f (λ n g. (u v : ℕ) → Step g u v → InTable n u v → ⊥) (λ u v e (p, x). (out u v e).1 x) (λ n k u v e (p, x). k p);
    left =
        table_cases d t f (λ n g. (u v : ℕ) → Step (d.row n) u v → (InTable n u v → ⊥) → Step g u v) (λ u v e k. into u v e (λ x. k (refl, x)))
        (λ n k u v e l. e);
  }

-- Two books beside each other with the same steps are equal.
pub same_steps : (d e : Book) → Sized d → Sized e → Beside d e → ((n u v : ℕ) → Step (d.row n) u v → Step (e.row n) u v)
    → ((n u v : ℕ) → Step (e.row n) u v → Step (d.row n) u v) → d ≡ e
same_steps d e sd se s to from =
    book_ext d e
    (λ i. ap (λ (f : ℕ → ℕ). f i) (sym s.heads))
    (λ n u. bit_ext 64 (d.row n u) (e.row n u) ((sd.rows n).fits u) ((se.rows n).fits u) (λ v l. same _ _ (to n u v) (from n u v)))
    (λ p t. ap (λ (f : ℕ → ℕ → ℕ). f p t) (sym s.cells))
  where
    same : (x y : Bool) → (x ≡ true → y ≡ true) → (y ≡ true → x ≡ true) → x ≡ y
    same true y f g = sym (f refl)
    same false true f g = g refl
    same false false f g = refl
