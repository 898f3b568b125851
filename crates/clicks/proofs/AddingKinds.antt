-- Kinds 4 to 10 add what `Joins` says, whatever the book, and the kinds that take back take just that away. Whether such a request is refused
-- depends on what it would add, and on what books beside each other have in common. After this file nothing goes by kinds any more: what is
-- said of one request, or of two, is said of what joins.
use mathlib.Core.Path.{◌≡◌, refl, sym, ap, ◌∙◌, subst, subst₂}
use mathlib.Core.Logic.{◌⊎◌, inl, inr}
use mathlib.Core.Bool.{◌&&◌, not}
use Prim.Native.Nat.{ℕ, ◌+◌, ◌-◌, ◌≤◌, ◌<◌}
use native.Mathlib.Omega.{arith}
use lib.Dec.{ltb, eqb}
use Rattle.sets.specs.Mask.{bit, within}
use Rattle.sets.proofs.Logic.{not_both, refute}
use Rattle.chains.specs.Relation.{Relation, Step}
use Rattle.chains.proofs.RelationLaws.{Tied, old, there, back, Under, old_step, new_step}
use Rattle.rules.specs.Book.{Book}
use Rattle.rules.specs.Requests.{Request, relate, assign, take_back, unrelate, Needs, unused, in_range, a_task, a_role, a_subject, an_open_order, a_task_mask}
use Rattle.rules.specs.Requests.{Row, asks, table, row_of, is_open, fits, add_to, take_from, add_pair, take_pair, change}
use Rattle.rules.specs.Numbers.{accepted, open_refusal, state_refusal, refusal, blind}
use Rattle.rules.specs.Meaning.{Sized}
use Rattle.rules.proofs.Upto.{Upto, start, ◌next◌, upto_at}
use Rattle.rules.proofs.NumberLaws.{given_out, given_in, lowest_out, lowest_in, Fitting, refusal_out, refusal_in}
use Rattle.rules.proofs.ChangeLaws.{Held, a_task_lem, a_junior, a_role_lem, held_holding, fits_lt}
use Rattle.demands.proofs.RowChanges.{add_gets, pair_adds, take_old, take_gone, take_kept, pair_old, pair_gone, pair_kept}
use Rattle.demands.proofs.Fewer.{Beside}
use Rattle.clicks.specs.Clicks.{Adding, kind_back, NamesSame, TakesBack, adds_to, JoinsRow, Joins}
use Rattle.clicks.proofs.Growth.{Grown, Shrunk, grown_as, shrunk_as, Turns, table_grown, table_shrunk}

-- A kind of 4 to 10, by its row of the fixed table and the row of the kind that takes back: a pair, or what somebody holds.
data Adder (k : ℕ) : Row → Row → Type 0 where
  pairs : adds_to k < 4 → k < 8 → Adder k (asks (relate (adds_to k)) a_task a_task unused) (asks (unrelate (adds_to k)) a_task a_task unused)
  holds : {x y : Needs} → Held (adds_to k) x y → (k < 8 → ⊥) → Adder k (asks (assign (adds_to k)) x y unused) (asks (take_back (adds_to k)) x y unused)

-- Each of the seven is one.
adder : (k : ℕ) → 4 ≤ k → k ≤ 10 → Adder k (row_of k) (row_of (kind_back k))
unfolding row_of table
adder k h l =
    let e : 4 + (k - 4) ≡ k = omega arith in
    subst (λ (x : ℕ). Adder x (row_of x) (row_of (kind_back x))) e (upto_at seven (k - 4) (omega arith))
  where
    seven : Upto (λ i. Adder (4 + i) (row_of (4 + i)) (row_of (kind_back (4 + i)))) 7
    seven =
        start next pairs (omega arith) (omega arith) next pairs (omega arith) (omega arith) next pairs (omega arith) (omega arith)
        next pairs (omega arith) (omega arith)
        next holds a_task_lem (λ h. omega arith) next holds a_junior (λ h. omega arith) next holds a_role_lem (λ h. omega arith)

-- Arguments that fit one book fit a book beside it.
fits_beside : {d d' : Book} → Beside d d' → (x : Needs) (v : ℕ) → fits d' x v ≡ fits d x v
unfolding fits is_open
fits_beside s unused v = refl
fits_beside s in_range v = refl
fits_beside s a_task v = ap (λ (f : ℕ → ℕ). ltb v 64 && bit (f 0) v) s.heads
fits_beside s a_role v = ap (λ (f : ℕ → ℕ). ltb v 64 && bit (f 1) v) s.heads
fits_beside s a_subject v = ap (λ (f : ℕ → ℕ). ltb v 64 && bit (f 2) v) s.heads
fits_beside s an_open_order v = ap (λ (f : ℕ → ℕ). ltb v 64 && not (eqb (f v) 0)) s.opened
fits_beside s a_task_mask v = ap (λ (f : ℕ → ℕ). not (eqb v 0) && within v (f 0)) s.heads

-- So do all three.
fitting_beside : {d d' : Book} → Beside d d' → {row : Row} {a b c : ℕ} → Fitting d row a b c → Fitting d' row a b c
fitting_beside s f = record { first = fits_beside s _ _ ∙ f.first; second = fits_beside s _ _ ∙ f.second; third = fits_beside s _ _ ∙ f.third }

-- Where 7 is not told of one book it is not told of a book beside it.
still_shut : {d d' : Book} → Beside d d' → open_refusal d ≡ accepted → open_refusal d' ≡ accepted
unfolding is_open
still_shut {d} {d'} s e =
    lowest_in 7 (is_open d') accepted (λ p l. ap (λ (f : ℕ → ℕ). not (eqb (f p) 0)) s.opened ∙ (lowest_out 7 (is_open d) accepted e).0 p l) refl

-- A request, by the rows of its kind and of the kind that takes back.
module _ (q : Request) where
  abbrev t : ℕ
  t = adds_to q.kind

  abbrev a : ℕ
  a = q.a

  abbrev b : ℕ
  b = q.b

  abbrev c : ℕ
  c = q.c

  -- Of a pair the added steps are the two between a and b,
  pair_split : {X : Relation} {u v : ℕ} → q.kind < 8 → Tied X a b u v → X u v ⊎ JoinsRow q u v
  pair_split l (old e) = inl e
  pair_split l there = inr (inr (l, refl, refl))
  pair_split l back = inr (inl (refl, refl))

  pair_join : {X : Relation} {u v : ℕ} → X u v ⊎ JoinsRow q u v → Tied X a b u v
  pair_join (inl e) = old e
  pair_join (inr (inl (x, y))) = rw x (rw y back)
  pair_join (inr (inr (l, x, y))) = rw x (rw y there)

  -- of what somebody holds the one from b to a.
  one_split : {X : Relation} {u v : ℕ} → Under X b a u v → X u v ⊎ JoinsRow q u v
  one_split (old_step e) = inl e
  one_split new_step = inr (inl (refl, refl))

  one_join : {X : Relation} {u v : ℕ} → (q.kind < 8 → ⊥) → X u v ⊎ JoinsRow q u v → Under X b a u v
  one_join n (inl e) = old_step e
  one_join n (inr (inl (x, y))) = rw x (rw y new_step)
  one_join n (inr (inr (l, x, y))) = absurd (n l)

  -- So the book grows by what joins ..
  grown : {row back : Row} → Adder q.kind row back → (d : Book) → Grown d (change d row.deed a b c) (Joins q)
  unfolding change
  grown (pairs h l) d =
      let x = pair_adds (d.row t) a b in
      table_grown d t (add_pair (d.row t) a b) (JoinsRow q) (omega arith) (λ u v e. pair_split l (x.out u v e)) (λ u v e. x.into u v (pair_join e))
  grown (holds held n) d =
      let x = add_gets (d.row t) b a in
      table_grown d t (add_to (d.row t) b a) (JoinsRow q) (held_holding held).below (λ u v e. one_split (x.out u v e)) (λ u v e. x.into u v (one_join n e))

  -- .. and loses it again by the kind that takes back.
  shrunk : {row back : Row} → Adder q.kind row back → (d : Book) → Sized d → a < 64 → b < 64 → Shrunk d (change d back.deed a b c) (Joins q)
  unfolding change
  shrunk (pairs h l) d sized ha hb =
      let rows = d.row t in
      table_shrunk d t (take_pair rows a b) (JoinsRow q) (omega arith)
      (λ u v e. (pair_old rows a b u v e, λ x. parted (pair_gone rows a b ha hb u v e) x))
      (λ u v e k. pair_kept rows a b (sized.rows t) ha hb u v e (λ x y. k (inl (x, y))) (λ x y. k (inr (l, x, y))))
    where
      parted : {u v : ℕ} → (u ≡ b → v ≡ a → ⊥) × (u ≡ a → v ≡ b → ⊥) → JoinsRow q u v → ⊥
      parted (f, g) (inl (x, y)) = f x y
      parted (f, g) (inr (l, x, y)) = g x y
  shrunk (holds held n) d sized ha hb =
      let rows = d.row t in
      table_shrunk d t (take_from rows b a) (JoinsRow q) (held_holding held).below
      (λ u v e. (take_old rows b a u v e, λ x. one (take_gone rows b a ha u v e) x))
      (λ u v e k. take_kept rows b a (sized.rows t) ha u v e (λ x y. k (inl (x, y))))
    where
      one : {u v : ℕ} → (u ≡ b → v ≡ a → ⊥) → JoinsRow q u v → ⊥
      one f (inl (x, y)) = f x y
      one f (inr (l, x, y)) = absurd (n l)

  -- In a pair table what joins runs both ways.
  turned : {row back : Row} → Adder q.kind row back → Turns (Joins q)
  turned (pairs h l) n g u v (e, inl (x, y)) = (e, inr (l, y, x))
  turned (pairs h l) n g u v (e, inr (k, x, y)) = (e, inl (y, x))
  turned (holds held k) n g u v (e, x) = absurd ((held_holding held).no_pairs (omega (arith, e)))

  -- Where the request is not refused, none of what joins is there, if the pair tables run both ways: 5 asks for one of a pair.
  fresh : {row back : Row} → Adder q.kind row back → (d : Book) → Turns (λ n. Step (d.row n)) → state_refusal d row.deed a b c ≡ accepted
      → (n u v : ℕ) → Joins q n u v → Step (d.row n) u v → ⊥
  unfolding state_refusal
  fresh (pairs h l) d turns e n u v (p, new) i = go new (subst (λ (m : ℕ). Step (d.row m) u v) p i)
    where
      none : Step (d.row t) a b → ⊥
      none j = not_both _ j (given_out (bit (d.row t a) b) 5 _ _ e).0

      go : JoinsRow q u v → Step (d.row t) u v → ⊥
      go (inl (x, y)) j = none (turns t h b a (subst₂ (Step (d.row t)) x y j))
      go (inr (k, x, y)) j = none (subst₂ (Step (d.row t)) x y j)
  fresh (holds held k) d turns e n u v (p, new) i = go new (subst (λ (m : ℕ). Step (d.row m) u v) p i)
    where
      go : JoinsRow q u v → Step (d.row t) u v → ⊥
      go (inl (x, y)) j = not_both _ (subst₂ (Step (d.row t)) x y j) (given_out (bit (d.row t b) a) 5 _ _ e).0
      go (inr (l, x, y)) j = k l

  -- Not refused on one book, it is not refused on a book beside it that has none of what joins ..
  refit : {row back : Row} → Adder q.kind row back → {d d' : Book} → Beside d d' → state_refusal d row.deed a b c ≡ accepted
      → ((n u v : ℕ) → Joins q n u v → Step (d'.row n) u v → ⊥) → state_refusal d' row.deed a b c ≡ accepted
  unfolding state_refusal
  refit (pairs h l) {d} {d'} s e none =
      given_in (bit (d'.row t a) b) _ _ (refute _ (none t a b (refl, inr (l, refl, refl)))) (still_shut s (given_out (bit (d.row t a) b) 5 _ _ e).1)
  refit (holds held n) {d} {d'} s e none = given_in (bit (d'.row t b) a) _ _ (refute _ (none t b a (refl, inl (refl, refl)))) refl

  -- Where a pair is not refused, no order is open.
  shut : {row back : Row} → Adder q.kind row back → (d : Book) → state_refusal d row.deed a b c ≡ accepted → q.kind < 8 → open_refusal d ≡ accepted
  unfolding state_refusal
  shut (pairs h l) d e k = (given_out (bit (d.row t a) b) 5 _ _ e).1
  shut (holds held n) d e k = absurd (n k)

  -- So once it is made, taking it back is not refused: what is asked for is there, and for a pair no order is open.
  refit_back : {row back : Row} → Adder q.kind row back → {d d' : Book} → Grown d d' (Joins q) → (q.kind < 8 → open_refusal d ≡ accepted)
      → state_refusal d' back.deed a b c ≡ accepted
  unfolding state_refusal
  refit_back (pairs h l) g closed = given_in _ _ _ (ap not (g.new t a b (refl, inr (l, refl, refl)))) (still_shut g.beside (closed l))
  refit_back (holds held n) g closed = given_in _ _ _ (ap not (g.new t b a (refl, inl (refl, refl)))) refl

  -- What is fit for it is fit for one that takes it back,
  back_fits : {row back : Row} → Adder q.kind row back → {d : Book} → Fitting d row a b c → (p : Request) → NamesSame q p
      → Fitting d back p.a p.b p.c
  unfolding fits
  back_fits (pairs h l) {d} f p (inl (x, y)) = record { first = ap (fits d a_task) x ∙ f.first; second = ap (fits d a_task) y ∙ f.second; third = refl }
  back_fits (pairs h l) {d} f p (inr (m, x, y)) = record { first = ap (fits d a_task) x ∙ f.second; second = ap (fits d a_task) y ∙ f.first; third = refl }
  back_fits (holds {x = s} {y = r} held n) {d} f p (inl (x, y)) =
      record { first = ap (fits d s) x ∙ f.first; second = ap (fits d r) y ∙ f.second; third = refl }
  back_fits (holds held n) f p (inr (m, x, y)) = absurd (n m)

  -- and two numbers below 64.
  numbers : {row back : Row} → Adder q.kind row back → {d : Book} → Fitting d back a b c → (a < 64) × (b < 64)
  numbers (pairs h l) {d} f = (fits_lt d a_task a refl f.first, fits_lt d a_task b refl f.second)
  numbers (holds {x = x} {y = y} held n) {d} f =
      let k = held_holding held in
      (fits_lt d x a k.thing f.first, fits_lt d y b k.holder f.second)

-- the numbers of p, for the kind of q
abbrev twin : Request → Request → Request
twin q p = record { kind = q.kind; a = p.a; b = p.b; c = p.c }

-- Who names the same is named the same.
names_turn : (q p : Request) → NamesSame q p → NamesSame (twin q p) q
names_turn q p (inl (x, y)) = inl (sym x, sym y)
names_turn q p (inr (l, x, y)) = inr (l, sym y, sym x)

-- What joins by the numbers of q joins by those of p.
joins_twin : (q p : Request) → NamesSame q p → (n u v : ℕ) → Joins q n u v → Joins (twin q p) n u v
joins_twin q p names n u v (k, new) = (k, go names new)
  where
    go : NamesSame q p → JoinsRow q u v → JoinsRow (twin q p) u v
    go (inl (x, y)) (inl (i, j)) = inl (i ∙ sym y, j ∙ sym x)
    go (inl (x, y)) (inr (l, i, j)) = inr (l, i ∙ sym x, j ∙ sym y)
    go (inr (m, x, y)) (inl (i, j)) = inr (m, i ∙ sym x, j ∙ sym y)
    go (inr (m, x, y)) (inr (l, i, j)) = inl (i ∙ sym y, j ∙ sym x)

-- A request of kinds 4 to 10:
module _ (q : Request) (adding : Adding q) where
  -- it is one of the two families;
  adds : Adder q.kind (row_of q.kind) (row_of (kind_back q.kind))
  adds = adder q.kind adding.0 adding.1

  -- the changed book has grown by what joins;
  pub blind_grown : (d : Book) → Grown d (blind d q) (Joins q)
  unfolding blind
  blind_grown d = grown q adds d

  -- what joins runs both ways in a pair table;
  pub joins_turn : Turns (Joins q)
  joins_turn = turned q adds

  -- where it is not refused, none of what joins is there;
  pub not_there : (d : Book) → Turns (λ n. Step (d.row n)) → refusal d q ≡ accepted → (n u v : ℕ) → Joins q n u v → Step (d.row n) u v → ⊥
  not_there d turns e = fresh q adds d turns (refusal_out d q e).state

  -- not refused on one book, it is not refused on a book beside it that has none of what joins.
  pub unrefused_beside : {d d' : Book} → Beside d d' → refusal d q ≡ accepted → ((n u v : ℕ) → Joins q n u v → Step (d'.row n) u v → ⊥)
      → refusal d' q ≡ accepted
  unrefused_beside {d} {d'} s e none =
      let u = refusal_out d q e in
      refusal_in d' q (record { fitting = fitting_beside s u.fitting; state = refit q adds s u.state none })

  -- A request that takes it back, on the changed book:
  module _ (p : Request) (takes : TakesBack q p) (d : Book) (e : refusal d q ≡ accepted) where
    -- what would join by its numbers is what joins by q,
    to : (n u v : ℕ) → Joins q n u v → Joins (twin q p) n u v
    to n u v = joins_twin q p takes.1 n u v

    from : (n u v : ℕ) → Joins (twin q p) n u v → Joins q n u v
    from n u v = joins_twin (twin q p) q (names_turn q p takes.1) n u v

    -- its row is that of the kind that takes back,
    takes_row : row_of (kind_back q.kind) ≡ row_of p.kind
    takes_row = ap row_of (sym takes.0)

    -- what it names is fit for it,
    back_fitting : Fitting (blind d q) (row_of (kind_back q.kind)) p.a p.b p.c
    back_fitting = back_fits q adds (fitting_beside (blind_grown d).beside (refusal_out d q e).fitting) p takes.1

    -- so it is not refused,
    pub back_unrefused : refusal (blind d q) p ≡ accepted
    back_unrefused =
        let state = refit_back (twin q p) adds (grown_as to from (blind_grown d)) (shut q adds d (refusal_out d q e).state) in
        refusal_in (blind d q) p (record {
          fitting = subst (λ (row : Row). Fitting (blind d q) row p.a p.b p.c) takes_row back_fitting;
          state = subst (λ (row : Row). state_refusal (blind d q) row.deed p.a p.b p.c ≡ accepted) takes_row state;
        })

    -- and what joined is lost.
    pub back_shrunk : Sized (blind d q) → Shrunk (blind d q) (blind (blind d q) p) (Joins q)
    unfolding blind
    back_shrunk sized =
        let n = numbers (twin q p) adds back_fitting in
        subst (λ (row : Row). Shrunk (blind d q) (change (blind d q) row.deed p.a p.b p.c) (Joins q)) takes_row
        (shrunk_as from to (shrunk (twin q p) adds (blind d q) sized n.0 n.1))
