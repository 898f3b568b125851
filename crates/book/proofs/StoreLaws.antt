-- What one stored word changes in the tables, and nothing else.
use mathlib.Core.Path.{◌≡◌, refl, sym, ap, ◌∙◌, fun_ext}
use mathlib.Core.Bool.{Bool, true, false, ◌&&◌}
use mathlib.Core.List.{List}
use Prim.Native.Nat.{ℕ, ◌+◌, ◌*◌, ◌<◌}
use native.Mathlib.Omega.{arith}
use native.Mathlib.Decide.{ℕ_discrete}
use lib.Dec.{ltb, eqb}
use lib.ListN.{length, get_or, set}
use lib.Seq.{get_or-set_same, get_or-set_other}
use borrow.Author.Tests.{eqb-true, eqb-false, eq-eqb, ne_eqb, ltb-true, lt-ltb}
use Rattle.sets.specs.Mask.{only}
use Rattle.sets.proofs.Logic.{and_out, and_in, not_both}
use Rattle.sets.proofs.MaskLaws.{only_yes}
use Rattle.rules.specs.Book.{Book, head_words, table_count, cells_at, table_at, read}
use Rattle.rules.specs.Requests.{set_row, set_table}
use Rattle.rules.proofs.BookLaws.{book_ext}
use Rattle.book.specs.Slice.{words, tables, Full, with_head, with_row, with_cell}

-- One word stored.
abbrev pub put : (ℕ → ℕ) → ℕ → ℕ → ℕ → ℕ
put w i v j = elim (eqb j i) [ true ↦ v | false ↦ w j ]

put_other : (w : ℕ → ℕ) (i v j : ℕ) → (j ≡ i → ⊥) → put w i v j ≡ w j
put_other w i v j n = ap (λ (s : Bool). elim s as (λ (x : Bool). ℕ) [ true ↦ v | false ↦ w j ]) (ne_eqb j i n)

put_same : (w : ℕ → ℕ) (i v j : ℕ) → j ≡ i → put w i v j ≡ v
put_same w i v j q = ap (λ (s : Bool). elim s as (λ (x : Bool). ℕ) [ true ↦ v | false ↦ w j ]) (eq-eqb j i q)

-- What is read under a test is the same where the two agree whenever the test holds.
pub only_same : (t : Bool) (x y : ℕ) → (t ≡ true → x ≡ y) → only t x ≡ only t y
only_same true x y f = f refl
only_same false x y f = refl

-- what is read at a place g after a store at i: the new value where the test k says that g is i, else what stood there
read_after : (w : ℕ → ℕ) (t : Bool) (g i v : ℕ) (k : Bool) → (k ≡ true → (t ≡ true) × (g ≡ i)) → (k ≡ false → t ≡ true → g ≡ i → ⊥)
    → ◌≡◌ {A = ℕ} (only t (put w i v g)) (elim k [ true ↦ v | false ↦ only t (w g) ])
read_after w t g i v true f n = only_yes t _ (f refl).0 ∙ put_same w i v g (f refl).1
read_after w t g i v false f n = only_same t _ _ (λ e. put_other w i v g (n refl e))

-- A word of the head.
pub put_head : (w : ℕ → ℕ) (i v : ℕ) → i < head_words → read (put w i v) ≡ with_head i v (read w)
unfolding read set_row
put_head w i v h = book_ext _ _
    (λ j. read_after w (ltb j head_words) j i v (eqb j i) (λ e. let q = eqb-true j i e in (lt-ltb j head_words (omega arith), q)) (λ e l. eqb-false j i e))
    (λ n r. only_same (ltb n table_count && ltb r 64) _ _ (λ e. put_other w i v (table_at n + r) (λ z. omega arith)))
    (λ p t. only_same (ltb p 64 && ltb t 64) _ _ (λ e. put_other w i v (cells_at + 64 * p + t) (λ z. omega arith)))

-- A row of a table.
pub put_row : (w : ℕ → ℕ) (n r v : ℕ) → n < table_count → r < 64 → read (put w (table_at n + r) v) ≡ with_row n r v (read w)
unfolding read set_row
put_row w n r v hn hr = book_ext _ _
    (λ j. only_same (ltb j head_words) _ _ (λ e. let l = ltb-true j head_words e in put_other w (table_at n + r) v j (λ z. omega arith)))
    (λ m s. row m s (eqb m n) refl)
    (λ p t. only_same (ltb p 64 && ltb t 64) _ _ (λ e. put_other w (table_at n + r) v (cells_at + 64 * p + t) (λ z. omega arith)))
  where
    row : (m s : ℕ) (k : Bool) → eqb m n ≡ k
        → ◌≡◌ {A = ℕ} (only (ltb m table_count && ltb s 64) (put w (table_at n + r) v (table_at m + s)))
        ((elim k as (λ (x : Bool). ℕ → ℕ) [
          | true ↦ (λ s. elim (eqb s r) [ true ↦ v | false ↦ only (ltb n table_count && ltb s 64) (w (table_at n + s)) ])
          | false ↦ (λ s. only (ltb m table_count && ltb s 64) (w (table_at m + s)))
        ]) s)
    row m s false q = only_same (ltb m table_count && ltb s 64) _ _ (λ e.
        let l = ltb-true s 64 (and_out (ltb m table_count) (ltb s 64) e).1 in
        let b = eqb-false m n q in put_other w (table_at n + r) v (table_at m + s) (λ z. b (omega arith)))
    row m s true q =
        ap (λ (x : ℕ). only (ltb x table_count && ltb s 64) (put w (table_at n + r) v (table_at x + s))) (eqb-true m n q)
        ∙ read_after w (ltb n table_count && ltb s 64) (table_at n + s) (table_at n + r) v (eqb s r)
        (λ e. let o = eqb-true s r e in (and_in (lt-ltb n table_count hn) (lt-ltb s 64 (omega arith)), omega arith))
        (λ e t z. eqb-false s r e (omega arith))

-- A cell.
pub put_cell : (w : ℕ → ℕ) (p t v : ℕ) → p < 64 → t < 64 → read (put w (cells_at + 64 * p + t) v) ≡ with_cell p t v (read w)
unfolding read
put_cell w p t v hp ht = book_ext _ _
    (λ j. only_same (ltb j head_words) _ _ (λ e. let l = ltb-true j head_words e in put_other w (cells_at + 64 * p + t) v j (λ z. omega arith)))
    (λ m s. only_same (ltb m table_count && ltb s 64) _ _ (λ e.
    let k = and_out (ltb m table_count) (ltb s 64) e in
    let h = ltb-true m table_count k.0 in
    let l = ltb-true s 64 k.1 in put_other w (cells_at + 64 * p + t) v (table_at m + s) (λ z. omega arith)))
    (λ q u. read_after w (ltb q 64 && ltb u 64) (cells_at + 64 * q + u) (cells_at + 64 * p + t) v (eqb q p && eqb u t)
    (λ e.
    let k = and_out (eqb q p) (eqb u t) e in
    let a = eqb-true q p k.0 in
    let b = eqb-true u t k.1 in (and_in (lt-ltb q 64 (omega arith)) (lt-ltb u 64 (omega arith)), omega arith))
    (λ e f z.
    let k = and_out (ltb q 64) (ltb u 64) f in
    let h = ltb-true q 64 k.0 in
    let l = ltb-true u 64 k.1 in
    let a : q ≡ p = omega arith in
    let b : u ≡ t = omega arith in not_both _ (and_in (eq-eqb q p a) (eq-eqb u t b)) e))

-- A store on a slice is a word stored.
pub stored : (l : List ℕ) (i v : ℕ) → i < length l → words (set l i v) ≡ put (words l) i v
stored l i v h = fun_ext (λ j. go j (ℕ_discrete j i))
  where
    go : (j : ℕ) → Dec (j ≡ i) → get_or (set l i v) j 0 ≡ put (words l) i v j
    go j (yes e) = ap (λ (k : ℕ). get_or (set l i v) k 0) e ∙ get_or-set_same l i v 0 h ∙ sym (put_same (words l) i v j e)
    go j (no e) = get_or-set_other l i j v 0 e ∙ sym (put_other (words l) i v j e)

-- The same of a full slice.
module _ (l : List ℕ) (full : Full l) (v : ℕ) where
  pub stored_head : (i : ℕ) → i < head_words → tables (set l i v) ≡ with_head i v (tables l)
  stored_head i h = ap read (stored l i v (omega arith)) ∙ put_head (words l) i v h

  pub stored_row : (n r : ℕ) → n < table_count → r < 64 → tables (set l (table_at n + r) v) ≡ with_row n r v (tables l)
  stored_row n r hn hr = ap read (stored l (table_at n + r) v (omega arith)) ∙ put_row (words l) n r v hn hr

  pub stored_cell : (p t : ℕ) → p < 64 → t < 64 → tables (set l (cells_at + 64 * p + t) v) ≡ with_cell p t v (tables l)
  stored_cell p t hp ht = ap read (stored l (cells_at + 64 * p + t) v (omega arith)) ∙ put_cell (words l) p t v hp ht

-- A table set is read where it was set, and set twice is set once.
pub set_table_row : (d : Book) (n : ℕ) (f : ℕ → ℕ) → (set_table d n f).row n ≡ f
set_table_row d n f = ap (λ (t : Bool). elim t as (λ (x : Bool). ℕ → ℕ) [ true ↦ f | false ↦ d.row n ]) (eq-eqb n n refl)

pub set_table_twice : (d : Book) (n : ℕ) (f g : ℕ → ℕ) → set_table (set_table d n f) n g ≡ set_table d n g
set_table_twice d n f g = book_ext _ _ (λ i. refl) (λ m r. go m r (eqb m n)) (λ p t. refl)
  where
    or_else : Bool → (ℕ → ℕ) → (ℕ → ℕ) → ℕ → ℕ
    or_else t f g = elim t as (λ (x : Bool). ℕ → ℕ) [ true ↦ f | false ↦ g ]

    go : (m r : ℕ) (t : Bool) → or_else t g (or_else t f (d.row m)) r ≡ or_else t g (d.row m) r
    go m r true = refl
    go m r false = refl
