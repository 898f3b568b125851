-- What the fixed table of kinds asks for, and that every change keeps the book in its place:
-- 64 rows of 64-bit words in each table, nothing outside, so that the changed book is what its words say.
-- The table is gone through once, in `known_row`; after that a law goes by what a kind does, with the table as a number.
use mathlib.Core.Path.{◌≡◌, refl, sym, ◌∙◌, subst}
use mathlib.Core.Logic.{◌⊎◌, inl, inr}
use mathlib.Core.Bool.{Bool, true, false, ◌&&◌, not, true≢false}
use Prim.Native.Nat.{ℕ, suc, ◌^◌, ◌≤◌, ◌<◌}
use native.Mathlib.Omega.{arith}
use native.Mathlib.Decide.{dec_lt}
use lib.Dec.{ltb, eqb}
use lib.ListN.{length}
use lib.Pow.{pow_pos}
use borrow.Author.Tests.{eqb-true, eqb-false, ltb-true}
use Rattle.sets.specs.Mask.{bit, with, without, within}
use Rattle.sets.proofs.Logic.{and_out, refute}
use Rattle.sets.proofs.MaskLaws.{with_lt, without_lt, within_lt, bit_lt, both_out}
use Rattle.rules.specs.Book.{Book, head_words, table_count, tasks, SME, DME, RB, SB, juniors, tasks_of, roles_of, active, orders, read, write}
use Rattle.rules.specs.Trade.{role_group}
use Rattle.rules.specs.Requests.{Request, define, relate, assign, activate, open_order, allocate, close_order, take_back, unrelate, Needs, unused, in_range}
use Rattle.rules.specs.Requests.{a_task, a_role, a_subject, an_open_order, a_task_mask, Row, asks, no_row, table, row_of, is_open, fits, set_row, add_to}
use Rattle.rules.specs.Requests.{take_from, set_head, set_table, set_order, set_active, role_hand, subject_hand, stamped_cell}
use Rattle.rules.specs.Requests.{allocated, change}
use Rattle.rules.specs.Numbers.{accepted, refusal, blind}
use Rattle.rules.specs.Meaning.{Tall, Sized}
use Rattle.rules.proofs.Upto.{Upto, start, ◌next◌, upto_at}
use Rattle.rules.proofs.TableLaws.{no_kind_past}
use Rattle.rules.proofs.NumberLaws.{Fitting, refusal_out}
use Rattle.rules.proofs.BookLaws.{unchosen, Placed, read_placed, read_write}

-- What kinds 8, 9, 10 assign and 15, 16, 17 take back: the table, what is held, and who holds it.
pub data Held : ℕ → Needs → Needs → Type 0 where
  a_task_lem : Held tasks_of a_task a_role
  a_junior : Held juniors a_role a_role
  a_role_lem : Held roles_of a_role a_subject

-- A row of the table, by what its kind does.
pub data Known : Row → Type 0 where
  no_kind : Known no_row
  defines : (n : ℕ) → n < 3 → Known (asks (define n) in_range unused unused)
  relates : (n : ℕ) → n < 4 → Known (asks (relate n) a_task a_task unused)
  assigns : {n : ℕ} {x y : Needs} → Held n x y → Known (asks (assign n) x y unused)
  activates : Known (asks activate a_role a_subject unused)
  opens : Known (asks open_order in_range unused a_task_mask)
  allocates : Known (asks allocate a_task an_open_order a_subject)
  closes : Known (asks close_order an_open_order unused unused)
  takes_back : {n : ℕ} {x y : Needs} → Held n x y → Known (asks (take_back n) x y unused)
  unrelates : (n : ℕ) → n < 4 → Known (asks (unrelate n) a_task a_task unused)

-- Every kind has such a row; outside 1..21 it is that of no kind.
pub known_row : (k : ℕ) → Known (row_of k)
unfolding row_of table
known_row k = go (dec_lt k (length table))
  where
    rows : Upto (λ k. Known (row_of k)) (length table)
    rows =
        start next no_kind
        next defines 0 (omega arith) next defines 1 (omega arith) next defines 2 (omega arith)
        next relates SME (omega arith) next relates DME (omega arith) next relates RB (omega arith) next relates SB (omega arith)
        next assigns a_task_lem next assigns a_junior next assigns a_role_lem
        next activates next opens next allocates next closes
        next takes_back a_task_lem next takes_back a_junior next takes_back a_role_lem
        next unrelates SME (omega arith) next unrelates DME (omega arith) next unrelates RB (omega arith) next unrelates SB (omega arith)

    go : Dec (k < length table) → Known (row_of k)
    go (yes h) = upto_at rows k h
    go (no h) = subst Known (sym (no_kind_past k (omega arith))) no_kind

-- An argument of this need is a number, not a mask and not unused.
abbrev pub asks_number : Needs → Bool
asks_number unused = false
asks_number in_range = true
asks_number a_task = true
asks_number a_role = true
asks_number a_subject = true
asks_number an_open_order = true
asks_number a_task_mask = false

-- An argument that must be a number, and fits, is below 64.
pub fits_lt : (d : Book) (x : Needs) (v : ℕ) → asks_number x ≡ true → fits d x v ≡ true → v < 64
unfolding fits
fits_lt d unused v n e = absurd (true≢false (sym n))
fits_lt d in_range v n e = ltb-true v 64 e
fits_lt d a_task v n e = ltb-true v 64 (and_out (ltb v 64) (bit (tasks d) v) e).0
fits_lt d a_role v n e = ltb-true v 64 (and_out (ltb v 64) _ e).0
fits_lt d a_subject v n e = ltb-true v 64 (and_out (ltb v 64) _ e).0
fits_lt d an_open_order v n e = ltb-true v 64 (and_out (ltb v 64) (is_open d v) e).0
fits_lt d a_task_mask v n e = absurd (true≢false (sym n))

-- What is held and who holds it are numbers, and the table is no pair table and comes before the active roles.
pub record Holding (n : ℕ) (x y : Needs) : Type 0 where
  pub thing : asks_number x ≡ true
  pub holder : asks_number y ≡ true
  pub no_pairs : n < 4 → ⊥
  pub below : n < active

-- So it is of each of the three tables.
pub held_holding : {n : ℕ} {x y : Needs} → Held n x y → Holding n x y
held_holding a_task_lem = record { thing = refl; holder = refl; no_pairs = λ h. omega arith; below = omega arith }
held_holding a_junior = record { thing = refl; holder = refl; no_pairs = λ h. omega arith; below = omega arith }
held_holding a_role_lem = record { thing = refl; holder = refl; no_pairs = λ h. omega arith; below = omega arith }

-- A statement of rows of which one is changed, from that row and from the others.
pub set_cases : (rows : ℕ → ℕ) (b v : ℕ) (P : ℕ → ℕ → Type 0) → P b v → ((s : ℕ) → (s ≡ b → ⊥) → P s (rows s))
    → (s : ℕ) → P s (set_row rows b v s)
unfolding set_row
set_cases rows b v P p q s = go (eqb s b) refl
  where
    go : (t : Bool) → eqb s b ≡ t → P s (elim t [ true ↦ v | false ↦ rows s ])
    go true e = subst (λ (x : ℕ). P x v) (sym (eqb-true s b e)) p
    go false e = q s (eqb-false s b e)

-- A statement of tables of which one is changed, from that table and from the others.
pub table_cases : (d : Book) (n : ℕ) (f : ℕ → ℕ) (P : ℕ → (ℕ → ℕ) → Type 0) → P n f → ((m : ℕ) → (m ≡ n → ⊥) → P m (d.row m))
    → (m : ℕ) → P m ((set_table d n f).row m)
table_cases d n f P p q m = go (eqb m n) refl
  where
    go : (t : Bool) → eqb m n ≡ t → P m (elim t [ true ↦ f | false ↦ d.row m ])
    go true e = subst (λ (x : ℕ). P x f) (sym (eqb-true m n e)) p
    go false e = q m (eqb-false m n e)

-- A table stays 64 rows of words where one row is set ..
pub set_tall : {rows : ℕ → ℕ} (b v : ℕ) → Tall rows → b < 64 → v < 2 ^ 64 → Tall (set_row rows b v)
set_tall {rows} b v t hb hv = record {
  fits = set_cases rows b v (λ s x. x < 2 ^ 64) hv (λ s n. t.fits s);
  ends = set_cases rows b v (λ s x. 64 ≤ s → x ≡ 0) (λ h. absurd (omega arith)) (λ s n. t.ends s);
}

-- .. where a number is added to a row ..
pub add_tall : {rows : ℕ → ℕ} (b a : ℕ) → Tall rows → b < 64 → a < 64 → Tall (add_to rows b a)
add_tall {rows} b a t hb ha = set_tall b (with (rows b) a) t hb (with_lt (rows b) a (t.fits b) ha)

-- .. and where one is taken from it.
pub take_tall : {rows : ℕ → ℕ} (b a : ℕ) → Tall rows → b < 64 → Tall (take_from rows b a)
take_tall {rows} b a t hb = set_tall b (without (rows b) a) t hb (without_lt (rows b) a (t.fits b))

-- A cell outside the role hand stays as it is.
pub unstamped : (in_role in_subject : Bool) (e c v : ℕ) → in_role ≡ false → stamped_cell in_role in_subject e c v ≡ v
unfolding stamped_cell
unstamped in_role in_subject e c v q = unchosen _ v in_role q

-- A book e after d: with its rows, and with nothing outside its places if d had nothing there.
record Keeps (d e : Book) : Type 0 where
  sized : Sized e
  placed : Placed d → Placed e

-- Each piece that a change is made of keeps the book: one word of the head, one table, one order, some cells.
module _ (d : Book) (s : Sized d) where
  head_keeps : (n a : ℕ) → n < 3 → a < 64 → Keeps d (set_head d (add_to d.head n a))
  head_keeps n a h ha = record {
    sized = record { head = add_tall n a s.head (omega arith) ha; rows = s.rows; cells = s.cells };
    placed = λ p. record {
      head_ends = set_cases d.head n (with (d.head n) a) (λ i x. head_words ≤ i → x ≡ 0) (λ l. absurd (omega arith)) (λ i m. p.head_ends i);
      tables_end = p.tables_end;
    };
  }

  table_keeps : (n : ℕ) (f : ℕ → ℕ) → n < table_count → Tall f → Keeps d (set_table d n f)
  table_keeps n f h t = record {
    sized = record { head = s.head; rows = table_cases d n f (λ m g. Tall g) t (λ m k. s.rows m); cells = s.cells };
    placed = λ p. record {
      head_ends = p.head_ends;
      tables_end = λ m r. table_cases d n f (λ m g. table_count ≤ m → g r ≡ 0) (λ l. absurd (omega arith)) (λ m k. p.tables_end m r) m;
    };
  }

  active_keeps : (a b : ℕ) → a < 64 → b < 64 → Keeps d (set_active d a b)
  active_keeps a b ha hb = table_keeps active _ (omega arith) (set_tall b (suc a) (s.rows active) hb (omega arith))

  order_keeps : (p m : ℕ) → p < 64 → m < 2 ^ 64 → Keeps d (set_order d p m)
  order_keeps p m hp hm = record {
    sized = record { head = s.head; rows = k.sized.rows; cells = λ q t h. cell q t h (eqb q p) };
    placed = λ x. let y = k.placed x in record { head_ends = y.head_ends; tables_end = y.tables_end };
  }
    where
      k : Keeps d (set_table d orders (set_row (d.row orders) p m))
      k = table_keeps orders _ (omega arith) (set_tall p m (s.rows orders) hp hm)

      cell : (q t : ℕ) → (64 ≤ q) ⊎ (64 ≤ t) → (b : Bool) → ◌≡◌ {A = ℕ} (elim b [ true ↦ 0 | false ↦ d.cell q t ]) 0
      cell q t h true = refl
      cell q t h false = s.cells q t h

  -- kind 13 writes only in cells of an order's tasks, which are below 64
  stamp_keeps : (a b c : ℕ) → b < 64 → Keeps d (allocated d a b c)
  unfolding role_hand
  stamp_keeps a b c hb = record {
    sized = record { head = s.head; rows = s.rows; cells = λ p t h. untouched p t h ∙ s.cells p t h };
    placed = λ p. record { head_ends = p.head_ends; tables_end = p.tables_end };
  }
    where
      outside : (p t : ℕ) → (64 ≤ p) ⊎ (64 ≤ t) → p ≡ b → t < 64 → ⊥
      outside p t (inl h) q l = omega arith
      outside p t (inr h) q l = omega arith

      elsewhere : (p t : ℕ) → (64 ≤ p) ⊎ (64 ≤ t) → (eqb p b && bit (role_hand d a b) t) ≡ false
      elsewhere p t h = refute _ (λ e.
          let x = and_out (eqb p b) (bit (role_hand d a b) t) e in
          let y = both_out (role_group d a) (d.row orders b) t x.1 in
          outside p t h (eqb-true p b x.0) (bit_lt (d.row orders b) t ((s.rows orders).fits b) y.1))

      untouched : (p t : ℕ) → (64 ≤ p) ⊎ (64 ≤ t) → (allocated d a b c).cell p t ≡ d.cell p t
      untouched p t h =
          unstamped (eqb p b && bit (role_hand d a b) t) (bit (subject_hand d a b) t) (d.row active c) c (d.cell p t) (elsewhere p t h)

-- Every change whose arguments fit keeps the book in its place.
module _ (d : Book) (s : Sized d) (a b c : ℕ) where
  change_keeps : {row : Row} → Known row → Fitting d row a b c → Keeps d (change d row.deed a b c)
  unfolding change fits
  change_keeps no_kind f = record { sized = s; placed = λ p. p }
  change_keeps (defines n h) f = head_keeps d s n a h (fits_lt d in_range a refl f.first)
  change_keeps (relates n h) f =
      let ha = fits_lt d a_task a refl f.first in
      let hb = fits_lt d a_task b refl f.second in
      table_keeps d s n _ (omega arith) (add_tall b a (add_tall a b (s.rows n) ha hb) hb ha)
  change_keeps (assigns {n = n} {x = x} {y = y} h) f =
      let k = held_holding h in
      let low = k.below in
      table_keeps d s n _ (omega arith)
      (add_tall b a (s.rows n) (fits_lt d y b k.holder f.second) (fits_lt d x a k.thing f.first))
  change_keeps activates f = active_keeps d s a b (fits_lt d a_role a refl f.first) (fits_lt d a_subject b refl f.second)
  change_keeps opens f =
      let known = (and_out (not (eqb c 0)) (within c (tasks d)) f.third).1 in
      order_keeps d s a c (fits_lt d in_range a refl f.first) (within_lt c (tasks d) (s.head.fits 0) known)
  change_keeps allocates f = stamp_keeps d s a b c (fits_lt d an_open_order b refl f.second)
  change_keeps closes f = order_keeps d s a 0 (fits_lt d an_open_order a refl f.first) (pow_pos 64)
  change_keeps (takes_back {n = n} {x = x} {y = y} h) f =
      let k = held_holding h in
      let low = k.below in
      table_keeps d s n _ (omega arith) (take_tall b a (s.rows n) (fits_lt d y b k.holder f.second))
  change_keeps (unrelates n h) f =
      let ha = fits_lt d a_task a refl f.first in
      let hb = fits_lt d a_task b refl f.second in
      table_keeps d s n _ (omega arith) (take_tall a b (take_tall b a (s.rows n) hb) ha)

-- The blind change of a request that is not refused: 64 rows of 64-bit words in each table ..
module _ {d : Book} (q : Request) (s : Sized d) (e : refusal d q ≡ accepted) where
  blind_keeps : Keeps d (blind d q)
  unfolding blind
  blind_keeps = let u = refusal_out d q e in change_keeps d s q.a q.b q.c (known_row q.kind) u.fitting

  pub blind_sized : Sized (blind d q)
  blind_sized = blind_keeps.sized

  -- .. and nothing outside its places.
  blind_placed : Placed d → Placed (blind d q)
  blind_placed = blind_keeps.placed

-- The changed book of a book of words is what its own words say.
pub changed_book : (w : ℕ → ℕ) (q : Request) → Sized (read w) → refusal (read w) q ≡ accepted → read (write (blind (read w) q)) ≡ blind (read w) q
changed_book w q s e = read_write (blind (read w) q) (blind_sized q s e) (blind_placed q s e (read_placed w))
