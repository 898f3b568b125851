-- The words of a book and its tables are the same thing: reading and writing undo each other.
-- Every law of a word goes by its place, which is the head, a row of a table, or a cell; the places are divided once, here.
use mathlib.Core.Path.{◌≡◌, sym, ap, ap₂, ◌∙◌, subst, fun_ext}
use mathlib.Core.Logic.{◌⊎◌, inl, inr}
use mathlib.Core.Bool.{Bool, true, false, ◌&&◌}
use Prim.Native.Nat.{ℕ, ◌+◌, ◌-◌, ◌*◌, ◌/◌, ◌%◌, ◌^◌, ◌≤◌, ◌<◌}
use native.Mathlib.Omega.{arith}
use native.Mathlib.Decide.{dec_lt}
use lib.Dec.{ltb}
use lib.Pow.{pow_pos}
use borrow.Author.Tests.{lt-ltb, le-ltb}
use Rattle.sets.proofs.Logic.{and_in, and_fails_l, and_fails_r}
use Rattle.sets.proofs.MaskLaws.{only_yes, only_no}
use Rattle.rules.specs.Book.{Book, book_words, head_words, table_count, cells_at, table_at, in_head, in_table, in_cell, place_of, read, standing, write}
use Rattle.rules.specs.Meaning.{Fits, Sized}

-- Two books with the same head, rows and cells are equal.
pub book_ext : (d e : Book) → ((i : ℕ) → d.head i ≡ e.head i) → ((n r : ℕ) → d.row n r ≡ e.row n r)
    → ((p t : ℕ) → d.cell p t ≡ e.cell p t) → d ≡ e
book_ext d e h r c =
    ap (λ (f : ℕ → ℕ). made f d.row d.cell) (fun_ext h)
    ∙ ap (λ (f : ℕ → ℕ → ℕ). made e.head f d.cell) (fun_ext (λ n. fun_ext (r n)))
    ∙ ap (λ (f : ℕ → ℕ → ℕ). made e.head e.row f) (fun_ext (λ p. fun_ext (c p)))
  where
    made : (ℕ → ℕ) → (ℕ → ℕ → ℕ) → (ℕ → ℕ → ℕ) → Book
    made head row cell = record { head = head; row = row; cell = cell }

-- A choice whose test is known: what is given where it holds, and where it fails.
module _ {A : Type 0} (x y : A) (t : Bool) where
  pub chosen : t ≡ true → ◌≡◌ {A = A} (elim t [ true ↦ x | false ↦ y ]) x
  chosen e = ap (λ (s : Bool). elim s as (λ (z : Bool). A) [ true ↦ x | false ↦ y ]) e

  pub unchosen : t ≡ false → ◌≡◌ {A = A} (elim t [ true ↦ x | false ↦ y ]) y
  unchosen e = ap (λ (s : Bool). elim s as (λ (z : Bool). A) [ true ↦ x | false ↦ y ]) e

-- Each place has its word: word i of the head is itself,
pub place_head : (i : ℕ) → i < head_words → place_of i ≡ in_head i
unfolding place_of
place_head i l = chosen _ _ (ltb i head_words) (lt-ltb i head_words l)

-- row r of table n lies r words behind where the table begins,
pub place_row : (n r : ℕ) → n < table_count → r < 64 → place_of (table_at n + r) ≡ in_table n r
unfolding place_of
place_row n r l m =
    let i = table_at n + r in
    let x : (i - head_words) / 64 ≡ n = omega arith in
    let y : (i - head_words) % 64 ≡ r = omega arith in
    unchosen _ _ (ltb i head_words) (le-ltb i head_words (omega arith)) ∙ chosen _ _ (ltb i cells_at) (lt-ltb i cells_at (omega arith))
    ∙ ap₂ in_table x y

-- and the cells lie order by order.
pub place_cell : (p t : ℕ) → p < 64 → t < 64 → place_of (cells_at + 64 * p + t) ≡ in_cell p t
unfolding place_of
place_cell p t l m =
    let i = cells_at + 64 * p + t in
    let x : (i - cells_at) / 64 ≡ p = omega arith in
    let y : (i - cells_at) % 64 ≡ t = omega arith in
    unchosen _ _ (ltb i head_words) (le-ltb i head_words (omega arith)) ∙ unchosen _ _ (ltb i cells_at) (le-ltb i cells_at (omega arith))
    ∙ ap₂ in_cell x y

-- What holds at every place holds of every word.
pub every_place : (P : ℕ → Type 0) → ((i : ℕ) → i < head_words → P i) → ((n r : ℕ) → n < table_count → r < 64 → P (table_at n + r))
    → ((p t : ℕ) → p < 64 → t < 64 → P (cells_at + 64 * p + t)) → (i : ℕ) → i < book_words → P i
every_place P f g h i l = go (dec_lt i head_words) (dec_lt i cells_at)
  where
    go : Dec (i < head_words) → Dec (i < cells_at) → P i
    go (yes a) b = f i a
    go (no a) (yes b) =
        let e : table_at ((i - head_words) / 64) + (i - head_words) % 64 ≡ i = omega arith in
        subst P e (g ((i - head_words) / 64) ((i - head_words) % 64) (omega arith) (omega arith))
    go (no a) (no b) =
        let e : cells_at + 64 * ((i - cells_at) / 64) + (i - cells_at) % 64 ≡ i = omega arith in
        subst P e (h ((i - cells_at) / 64) ((i - cells_at) % 64) (omega arith) (omega arith))

-- The word that is written at each place is what stands there:
module _ (d : Book) where
  -- in the head;
  pub write_head : (i : ℕ) → i < head_words → write d i ≡ d.head i
  unfolding write
  write_head i h = ap (standing d) (place_head i h)

  -- in a table;
  pub write_row : (n r : ℕ) → n < table_count → r < 64 → write d (table_at n + r) ≡ d.row n r
  unfolding write
  write_row n r h l = ap (standing d) (place_row n r h l)

  -- in a cell.
  pub write_cell : (p t : ℕ) → p < 64 → t < 64 → write d (cells_at + 64 * p + t) ≡ d.cell p t
  unfolding write
  write_cell p t h l = ap (standing d) (place_cell p t h l)

-- A place whose row or column lies outside is no place.
beyond : (x y m n : ℕ) → (m ≤ x) ⊎ (n ≤ y) → (ltb x m && ltb y n) ≡ false
beyond x y m n (inl h) = and_fails_l (ltb x m) (ltb y n) (le-ltb x m h)
beyond x y m n (inr h) = and_fails_r (ltb x m) (ltb y n) (le-ltb y n h)

-- What is read at each place is its word:
module _ (w : ℕ → ℕ) where
  -- in the head;
  pub read_head : (i : ℕ) → i < head_words → (read w).head i ≡ w i
  unfolding read
  read_head i h = only_yes (ltb i head_words) (w i) (lt-ltb i head_words h)

  -- in a table;
  pub read_row : (n r : ℕ) → n < table_count → r < 64 → (read w).row n r ≡ w (table_at n + r)
  unfolding read
  read_row n r h l = only_yes (ltb n table_count && ltb r 64) _ (and_in (lt-ltb n table_count h) (lt-ltb r 64 l))

  -- in a cell.
  pub read_cell : (p t : ℕ) → p < 64 → t < 64 → (read w).cell p t ≡ w (cells_at + 64 * p + t)
  unfolding read
  read_cell p t h l = only_yes (ltb p 64 && ltb t 64) _ (and_in (lt-ltb p 64 h) (lt-ltb t 64 l))

  -- Nothing is read past the head,
  pub read_no_head : (i : ℕ) → head_words ≤ i → (read w).head i ≡ 0
  unfolding read
  read_no_head i h = only_no (ltb i head_words) (w i) (le-ltb i head_words h)

  -- past the nine tables or their rows,
  pub read_no_row : (n r : ℕ) → (table_count ≤ n) ⊎ (64 ≤ r) → (read w).row n r ≡ 0
  unfolding read
  read_no_row n r h = only_no (ltb n table_count && ltb r 64) _ (beyond n r table_count 64 h)

  -- or past the cells.
  pub read_no_cell : (p t : ℕ) → (64 ≤ p) ⊎ (64 ≤ t) → (read w).cell p t ≡ 0
  unfolding read
  read_no_cell p t h = only_no (ltb p 64 && ltb t 64) _ (beyond p t 64 64 h)

-- Nothing stands outside the head and the nine tables; that nothing stands past row 63 is already in `Sized`.
pub record Placed (d : Book) : Type 0 where
  pub head_ends : (i : ℕ) → head_words ≤ i → d.head i ≡ 0
  pub tables_end : (n r : ℕ) → table_count ≤ n → d.row n r ≡ 0

-- A book of 64-bit words has tables of 64 rows of 64 bits ..
pub read_sized : (w : ℕ → ℕ) → Fits w → Sized (read w)
read_sized w fit = record {
  head = record { fits = λ i. head i (dec_lt i head_words); ends = λ i h. read_no_head w i (omega arith) };
  rows = λ n. record { fits = λ r. row n r (dec_lt n table_count) (dec_lt r 64); ends = λ r h. read_no_row w n r (inr h) };
  cells = read_no_cell w;
}
  where
    small : {x y : ℕ} → y ≡ x → x < 2 ^ 64 → y < 2 ^ 64
    small e h = rw e h

    head : (i : ℕ) → Dec (i < head_words) → (read w).head i < 2 ^ 64
    head i (yes h) = small (read_head w i h) (fit i (omega arith))
    head i (no h) = small (read_no_head w i (omega arith)) (pow_pos 64)

    row : (n r : ℕ) → Dec (n < table_count) → Dec (r < 64) → (read w).row n r < 2 ^ 64
    row n r (yes h) (yes l) = small (read_row w n r h l) (fit (table_at n + r) (omega arith))
    row n r (yes h) (no l) = small (read_no_row w n r (inr (omega arith))) (pow_pos 64)
    row n r (no h) l = small (read_no_row w n r (inl (omega arith))) (pow_pos 64)

-- .. and nothing outside its places.
pub read_placed : (w : ℕ → ℕ) → Placed (read w)
read_placed w = record { head_ends = read_no_head w; tables_end = λ n r h. read_no_row w n r (inl h) }

-- A book that is read and written out again is the same words.
pub write_read : (w : ℕ → ℕ) (i : ℕ) → i < book_words → write (read w) i ≡ w i
write_read w =
    every_place (λ i. write (read w) i ≡ w i)
    (λ i h. write_head (read w) i h ∙ read_head w i h)
    (λ n r h l. write_row (read w) n r h l ∙ read_row w n r h l)
    (λ p t h l. write_cell (read w) p t h l ∙ read_cell w p t h l)

-- A book that is written out and read again is the same book.
pub read_write : (d : Book) → Sized d → Placed d → read (write d) ≡ d
read_write d s p =
    book_ext (read (write d)) d
    (λ i. head i (dec_lt i head_words))
    (λ n r. row n r (dec_lt n table_count) (dec_lt r 64))
    (λ q t. cell q t (dec_lt q 64) (dec_lt t 64))
  where
    head : (i : ℕ) → Dec (i < head_words) → (read (write d)).head i ≡ d.head i
    head i (yes h) = read_head (write d) i h ∙ write_head d i h
    head i (no h) = let l : head_words ≤ i = omega arith in read_no_head (write d) i l ∙ sym (p.head_ends i l)

    row : (n r : ℕ) → Dec (n < table_count) → Dec (r < 64) → (read (write d)).row n r ≡ d.row n r
    row n r (yes h) (yes l) = read_row (write d) n r h l ∙ write_row d n r h l
    row n r (yes h) (no l) = let m : 64 ≤ r = omega arith in read_no_row (write d) n r (inr m) ∙ sym ((s.rows n).ends r m)
    row n r (no h) l = let m : table_count ≤ n = omega arith in read_no_row (write d) n r (inl m) ∙ sym (p.tables_end n r m)

    cell : (q t : ℕ) → Dec (q < 64) → Dec (t < 64) → (read (write d)).cell q t ≡ d.cell q t
    cell q t (yes h) (yes l) = read_cell (write d) q t h l ∙ write_cell d q t h l
    cell q t (yes h) (no l) = let m : 64 ≤ t = omega arith in read_no_cell (write d) q t (inr m) ∙ sym (s.cells q t (inr m))
    cell q t (no h) l = let m : 64 ≤ q = omega arith in read_no_cell (write d) q t (inl m) ∙ sym (s.cells q t (inl m))
