-- Well-formed: no word is bad exactly where the document's statements hold of the tables, each thing named being defined.
-- First of one word, by its place; then of a table; then of the book.
use mathlib.Core.Path.{◌≡◌, refl, sym, ap, ◌∙◌, subst}
use mathlib.Core.Logic.{◌↔◌, inl, inr}
use mathlib.Core.Bool.{Bool, true, false}
use Prim.Native.Nat.{ℕ, zero, suc, ◌+◌, ◌-◌, ◌*◌, ◌^◌, ◌<◌}
use native.Mathlib.Omega.{arith}
use native.Mathlib.Decide.{dec_lt}
use lib.Dec.{ltb, eqb}
use borrow.Author.Tests.{eqb-true, eqb-false, lt-ltb}
use Rattle.sets.specs.Mask.{bit}
use Rattle.sets.proofs.Logic.{and_out, and_in, not_both}
use Rattle.sets.proofs.MaskLaws.{bit_lt, none_zero, zero_none}
use Rattle.chains.specs.Relation.{In, Step}
use Rattle.rules.specs.Book.{Book, book_words, head_words, table_count, cells_at, table_at, Place, place_of, standing, role_in, subject_in}
use Rattle.rules.specs.Book.{tasks, roles, subjects, SME, DME, RB, SB, juniors, tasks_of, roles_of, active, orders}
use Rattle.rules.specs.Book.{bad_mask, names, bad_active, bad_cell, row_tests, bad_row, bad_cell_at, bad_at, bad, first_bad}
use Rattle.rules.specs.Meaning.{Tall, Sized, Between, CellWord, Formed}
use Rattle.rules.proofs.Upto.{Upto, start, ◌next◌, upto_at}
use Rattle.rules.proofs.Exactly.{Exactly, itself, exactly_eqb, exactly_within, Unless, unless_as, unless_not, unless_holds, unless_or, unless_found}
use Rattle.rules.proofs.BookLaws.{place_head, place_row, place_cell, every_place}
use Rattle.rules.proofs.TradeLaws.{step_from}

-- A word of 0 is never bad; another is if the test t says so.
abbrev pub bad_word : ℕ → Bool → Bool
bad_word v t = elim (eqb v 0) [ true ↦ false | false ↦ t ]

-- So it is bad unless what the test asks holds where the word is above 0.
unless_zero : (v : ℕ) {t : Bool} {P : Type 0} → Unless t P → Unless (bad_word v t) (0 < v → P)
unless_zero v {t} {P} x = record { means = out (eqb v 0) refl; fails = into (eqb v 0) refl }
  where
    out : (b : Bool) → eqb v 0 ≡ b → ◌≡◌ {A = Bool} (elim b [ true ↦ false | false ↦ t ]) false → 0 < v → P
    out true e q h = let z = eqb-true v 0 e in absurd (omega arith)
    out false e q h = x.means q

    into : (b : Bool) → eqb v 0 ≡ b → (0 < v → P) → ◌≡◌ {A = Bool} (elim b [ true ↦ false | false ↦ t ]) false
    into true e f = refl
    into false e f = let z = eqb-false v 0 e in x.fails (f (omega arith))

-- A mask v in a row of a thing that is defined or not, which may name the things of J.
mask_word : (defined : Bool) (J v : ℕ) → J < 2 ^ 64 → v < 2 ^ 64
    → Unless (bad_word v (bad_mask defined J v)) ((j : ℕ) → In v j → (defined ≡ true) × In J j)
unfolding bad_mask
mask_word defined J v h_j hv =
    unless_as (λ f j e. let x = f (some j e) in (x.0, x.1 j e)) (λ f h. (known defined refl f h, λ j e. (f j e).1))
    (unless_zero v (unless_or (unless_not (itself defined)) (unless_not (exactly_within v J hv h_j))))
  where
    some : (j : ℕ) → In v j → 0 < v
    some j e = go (dec_lt 0 v)
      where
        go : Dec (0 < v) → 0 < v
        go (yes h) = h
        go (no h) = absurd (zero_none j (omega arith) e)

    known : (b : Bool) → defined ≡ b → ((j : ℕ) → In v j → (defined ≡ true) × In J j) → 0 < v → defined ≡ true
    known true e f h = e
    known false e f h = let z = none_zero v hv (λ j p. not_both defined (f j p).0 e) in absurd (omega arith)

-- A number that is 0, or one more than a member of m.
exactly_names : (m v : ℕ) → m < 2 ^ 64 → Exactly (names m v) ((r : ℕ) → v ≡ suc r → In m r)
unfolding names
exactly_names m zero h = record { means = λ e r q. absurd (omega arith); holds = λ f. refl }
exactly_names m (suc v) h = record {
  means = λ e r q. (let z : v ≡ r = omega arith in subst (In m) z (and_out (ltb v 64) (bit m v) e).1);
  holds = λ f. and_in (lt-ltb v 64 (bit_lt m v h (f v refl))) (f v refl);
}

-- An active role v of a subject that is defined or not, of the roles R.
active_word : (defined : Bool) (R v : ℕ) → R < 2 ^ 64 → Unless (bad_word v (bad_active defined R v)) ((r : ℕ) → v ≡ suc r → (defined ≡ true) × In R r)
unfolding bad_active
active_word defined R v h_r =
    unless_as (λ f r q. let x = f (omega arith) in (x.0, x.1 r q)) (λ f h. ((f (v - 1) (omega arith)).0, λ r q. (f r q).1))
    (unless_zero v (unless_or (unless_not (itself defined)) (unless_not (exactly_names R v h_r))))

-- A cell v of task t in an order of the tasks O.
cell_word : (R S O t v : ℕ) → R < 2 ^ 64 → S < 2 ^ 64 → Unless (bad_word v (bad_cell (bit O t) R S v)) (CellWord R S O t v)
unfolding bad_cell
cell_word R S O t v h_r h_s =
    unless_as out into
    (unless_zero v (unless_or (unless_not (itself (bit O t))) (unless_or (unless_not (exactly_names R (role_in v) h_r))
    (unless_or (unless_not (exactly_names S (subject_in v) h_s)) (unless_holds (exactly_eqb (role_in v) 0))))))
  where
    Parts : Type 0
    Parts = In O t × (((r : ℕ) → role_in v ≡ suc r → In R r) × (((s : ℕ) → subject_in v ≡ suc s → In S s) × (role_in v ≡ 0 → ⊥)))

    positive : (role_in v ≡ 0 → ⊥) → 0 < role_in v
    positive f = go (dec_lt 0 (role_in v))
      where
        go : Dec (0 < role_in v) → 0 < role_in v
        go (yes h) = h
        go (no h) = absurd (f (omega arith))

    out : (0 < v → Parts) → CellWord R S O t v
    out f = record {
      in_order = λ h. (f h).0;
      role = λ r q. (f (omega arith)).1.0 r q;
      subject = λ s q. (let x = f (omega arith) in (x.1.1.0 s q, positive x.1.1.1));
    }

    into : CellWord R S O t v → 0 < v → Parts
    into c h = (c.in_order h, (c.role, (λ s q. (c.subject s q).0, λ z. (let x = (c.subject (subject_in v - 1) (omega arith)).1 in omega arith))))

-- The test of the word at each place:
module _ (d : Book) where
  -- it asks of word i what is asked at its place,
  bad_at_lem : (i : ℕ) {place : Place} → place_of i ≡ place → bad d i ≡ bad_word (standing d place) (bad_at d place)
  unfolding bad
  bad_at_lem i e = ap (λ (x : Place). bad_word (standing d x) (bad_at d x)) e

  -- in the head,
  pub bad_head : (i : ℕ) → i < head_words → bad d i ≡ bad_word (d.head i) (eqb i 3)
  unfolding bad_at
  bad_head i h = bad_at_lem i (place_head i h)

  -- in a table,
  pub bad_row_lem : (n r : ℕ) → n < table_count → r < 64 → bad d (table_at n + r) ≡ bad_word (d.row n r) (bad_row d n r)
  unfolding bad_at
  bad_row_lem n r h l = bad_at_lem (table_at n + r) (place_row n r h l)

  -- in a cell.
  pub bad_cell_lem : (p t : ℕ) → p < 64 → t < 64 → bad d (cells_at + 64 * p + t) ≡ bad_word (d.cell p t) (bad_cell_at d p t)
  unfolding bad_at
  bad_cell_lem p t h l = bad_at_lem (cells_at + 64 * p + t) (place_cell p t h l)

-- A table of masks: each row is a good word exactly where its steps join defined things ..
module _ (I J : ℕ) {rows : ℕ → ℕ} (t : Tall rows) (h_j : J < 2 ^ 64) where
  mask_row : (r : ℕ) → Unless (bad_word (rows r) (bad_mask (bit I r) J (rows r))) ((j : ℕ) → Step rows r j → In I r × In J j)
  mask_row r = mask_word (bit I r) J (rows r) h_j (t.fits r)

  -- .. and where all rows are, the table is well-formed.
  between_out : ((r : ℕ) → r < 64 → bad_word (rows r) (bad_mask (bit I r) J (rows r)) ≡ false) → Between I J rows
  between_out f i j e = (mask_row i).means (f i (step_from t i j e)) j e

-- The whole book.
module _ (d : Book) (s : Sized d) where
  head_lt : (i : ℕ) → d.head i < 2 ^ 64
  head_lt i = s.head.fits i

  -- A row of the active roles, of the orders, and a cell, are good words exactly where their statements hold.
  active_row : (r : ℕ)
      → Unless (bad_word (d.row active r) (bad_active (bit (subjects d) r) (roles d) (d.row active r)))
      ((q : ℕ) → d.row active r ≡ suc q → In (subjects d) r × In (roles d) q)
  active_row r = active_word (bit (subjects d) r) (roles d) (d.row active r) (head_lt 1)

  order_row : (p : ℕ)
      → Unless (bad_word (d.row orders p) (bad_mask true (tasks d) (d.row orders p))) ((t : ℕ) → Step (d.row orders) p t → (true ≡ true) × In (tasks d) t)
  order_row p = mask_word true (tasks d) (d.row orders p) (head_lt 0) ((s.rows orders).fits p)

  cell_at : (p t : ℕ) → Unless (bad_word (d.cell p t) (bad_cell_at d p t)) (CellWord (roles d) (subjects d) (d.row orders p) t (d.cell p t))
  unfolding bad_cell_at
  cell_at p t = cell_word (roles d) (subjects d) (d.row orders p) t (d.cell p t) (head_lt 1) (head_lt 2)

  -- Where no word is bad, the book is well-formed ..
  formed_out : ((i : ℕ) → i < book_words → bad d i ≡ false) → Formed d
  unfolding bad_row row_tests
  formed_out good = record {
    gap = gap;
    sme = between_out (tasks d) (tasks d) (s.rows SME) (head_lt 0) (row SME (omega arith));
    dme = between_out (tasks d) (tasks d) (s.rows DME) (head_lt 0) (row DME (omega arith));
    rb = between_out (tasks d) (tasks d) (s.rows RB) (head_lt 0) (row RB (omega arith));
    sb = between_out (tasks d) (tasks d) (s.rows SB) (head_lt 0) (row SB (omega arith));
    juniors_formed = between_out (roles d) (roles d) (s.rows juniors) (head_lt 1) (row juniors (omega arith));
    tasks_formed = between_out (roles d) (tasks d) (s.rows tasks_of) (head_lt 0) (row tasks_of (omega arith));
    roles_formed = between_out (subjects d) (roles d) (s.rows roles_of) (head_lt 1) (row roles_of (omega arith));
    active_formed = λ b r q. (active_row b).means (row active (omega arith) b (low_row b r q (dec_lt b 64))) r q;
    orders_formed = λ p t e. ((order_row p).means (row orders (omega arith) p (step_from (s.rows orders) p t e)) t e).1;
    cells_formed = λ p t. cell p t (dec_lt p 64) (dec_lt t 64);
  }
    where
      row : (n : ℕ) → n < table_count → (r : ℕ) → r < 64 → bad_word (d.row n r) (bad_row d n r) ≡ false
      row n h r l = sym (bad_row_lem d n r h l) ∙ good (table_at n + r) (omega arith)

      gap : d.head 3 ≡ 0
      gap = go (dec_lt 0 (d.head 3))
        where
          go : Dec (0 < d.head 3) → d.head 3 ≡ 0
          go (no h) = omega arith
          go (yes h) = absurd ((unless_zero (d.head 3) (unless_holds (itself true))).means (sym (bad_head d 3 (omega arith)) ∙ good 3 (omega arith)) h refl)

      low_row : (b r : ℕ) → d.row active b ≡ suc r → Dec (b < 64) → b < 64
      low_row b r q (yes l) = l
      low_row b r q (no l) = let z = (s.rows active).ends b (omega arith) in absurd (omega arith)

      empty : (p t : ℕ) → d.cell p t ≡ 0 → CellWord (roles d) (subjects d) (d.row orders p) t (d.cell p t)
      empty p t z = record { in_order = λ h. absurd (omega arith); role = λ r e. absurd (omega arith); subject = λ b e. absurd (omega arith) }

      cell : (p t : ℕ) → Dec (p < 64) → Dec (t < 64) → CellWord (roles d) (subjects d) (d.row orders p) t (d.cell p t)
      cell p t (no h) l = empty p t (s.cells p t (inl (omega arith)))
      cell p t (yes h) (no l) = empty p t (s.cells p t (inr (omega arith)))
      cell p t (yes h) (yes l) = (cell_at p t).means (sym (bad_cell_lem d p t h l) ∙ good (cells_at + 64 * p + t) (omega arith))

  -- .. and where it is well-formed, no word is bad.
  formed_in : Formed d → (i : ℕ) → i < book_words → bad d i ≡ false
  unfolding bad_row row_tests
  formed_in f =
      every_place (λ i. bad d i ≡ false)
      (λ i h. bad_head d i h ∙ head i)
      (λ n r h l. bad_row_lem d n r h l ∙ upto_at (nine r) n h)
      (λ p t h l. bad_cell_lem d p t h l ∙ (cell_at p t).fails (f.cells_formed p t))
    where
      head : (i : ℕ) → bad_word (d.head i) (eqb i 3) ≡ false
      head i = (unless_zero (d.head i) (unless_holds (exactly_eqb i 3))).fails (λ h e. let z : d.head i ≡ 0 = ap d.head e ∙ f.gap in omega arith)

      nine : (r : ℕ) → Upto (λ n. bad_word (d.row n r) (bad_row d n r) ≡ false) table_count
      nine r =
          start next (mask_row (tasks d) (tasks d) (s.rows SME) (head_lt 0) r).fails (f.sme r)
          next (mask_row (tasks d) (tasks d) (s.rows DME) (head_lt 0) r).fails (f.dme r)
          next (mask_row (tasks d) (tasks d) (s.rows RB) (head_lt 0) r).fails (f.rb r)
          next (mask_row (tasks d) (tasks d) (s.rows SB) (head_lt 0) r).fails (f.sb r)
          next (mask_row (roles d) (roles d) (s.rows juniors) (head_lt 1) r).fails (f.juniors_formed r)
          next (mask_row (roles d) (tasks d) (s.rows tasks_of) (head_lt 0) r).fails (f.tasks_formed r)
          next (mask_row (subjects d) (roles d) (s.rows roles_of) (head_lt 1) r).fails (f.roles_formed r)
          next (active_row r).fails (f.active_formed r)
          next (order_row r).fails (λ t e. (refl, f.orders_formed r t e))

  -- So no word is bad exactly where the book is well-formed ..
  pub no_bad_word : ((i : ℕ) → i < book_words → bad d i ≡ false) ↔ Formed d
  no_bad_word = (formed_out, formed_in)

  -- .. and the search for a bad word finds one unless it is.
  pub well_formed : Unless (ltb (first_bad d) book_words) (Formed d)
  unfolding first_bad
  well_formed = unless_as (λ g. formed_out (λ i h. g i (omega arith) h)) (λ f i l h. formed_in f i h) (unless_found book_words 0 (bad d))
