-- Each rule's test holds exactly where its sentence over relations does, and the audit answers 0 exactly of the sound books.
-- Rules that say the same of several tables, of roles and subjects, of groups and rows, are one law.
use mathlib.Core.Path.{◌≡◌, refl, sym, ◌∙◌, subst}
use mathlib.Core.Logic.{inl, inr}
use mathlib.Core.Bool.{Bool, true, false, not}
use Prim.Native.Nat.{ℕ, suc, ◌+◌, ◌-◌, ◌^◌, ◌≤◌, ◌<◌}
use native.Mathlib.Omega.{arith}
use lib.Dec.{ltb}
use Rattle.sets.specs.Mask.{bit}
use Rattle.sets.specs.Search.{all}
use Rattle.chains.specs.Relation.{Relation, Subset, Step, Chain, Reaches}
use Rattle.rules.specs.Book.{Book, book_words, tasks, SME, DME, RB, SB, juniors, orders, role_in, subject_in, first_bad}
use Rattle.rules.specs.Trade.{Owner, role, subject, owned_tasks, reach, subject_group, role_group}
use Rattle.rules.specs.Requests.{is_open}
use Rattle.rules.specs.Numbers.{accepted, held_by}
use Rattle.rules.specs.Audit.{of_four, not_own, symmetric, apart, pair_free, owner_free, held_anywhere, hands_apart, in_orders, hands_together}
use Rattle.rules.specs.Audit.{rules, kept_at, broken, rule_count, first_broken, audit}
use Rattle.rules.specs.Meaning.{Tall, Sized, Formed, NoneOwn, Symmetric, Disjoint, NoCycle, PairFree, Both, HandsApart, Excludes}
use Rattle.rules.specs.Meaning.{OwnedFrom, OwnersFree, Pairs, Sound, OfFour, Keeps}
use Rattle.rules.proofs.Upto.{Upto, start, ◌next◌, upto_at}
use Rattle.rules.proofs.Exactly.{Exactly, itself, exactly_same, exactly_as, exactly_and, exactly_not, exactly_implies, exactly_eqb}
use Rattle.rules.proofs.Exactly.{exactly_all, exactly_both, exactly_meet, Unless, unless_found, unless_as, unless_not}
use Rattle.rules.proofs.NumberLaws.{given_out, given_in}
use Rattle.rules.proofs.TradeLaws.{Shows, rows_show, step_from, step_to, subject_group_lem, role_group_lem, reach_shows, owner_shows, role_lt, subject_lt}
use Rattle.rules.proofs.HeldLaws.{Holds, held_shows, HoldsAnywhere, anywhere_shows, open_order_lem, hand_lt}
use Rattle.rules.proofs.WordLaws.{well_formed}

-- A test of all numbers 0 to 63 says it of each.
abbrev Always : (ℕ → Bool) → Type 0 → Type 0
Always f P = Exactly (all 64 f) P

-- A test is what fails where it fails.
pub not_not : (t : Bool) → t ≡ not (not t)
not_not true = refl
not_not false = refl

-- Rules 1 and 6: nothing is related to itself. Of rows these are the tasks in their own row, of `reach` the cycles.
none_own : {R : Relation} {sets : ℕ → ℕ} → Shows R sets → ((i j : ℕ) → R i j → i < 64) → Always (not_own sets) (NoneOwn R)
unfolding not_own
none_own {sets = sets} s from =
    exactly_as (λ f i e. f i (from i i e) e) (λ f i h. f i)
    (exactly_all 64 (λ i. not (bit (sets i) i)) (λ i h. exactly_not (s.says i i h)))

-- Rule 2: the rows are symmetric.
symmetric_rows : {rows : ℕ → ℕ} → Tall rows → Always (symmetric rows) (Symmetric (Step rows))
unfolding symmetric
symmetric_rows {rows} t =
    exactly_as (λ f u v e. f u (step_from t u v e) v (step_to t u v e) e) (λ f u h v l. f u v)
    (exactly_all 64 _ (λ u h. exactly_all 64 _ (λ v l. exactly_implies (itself (bit (rows u) v)) (itself (bit (rows v) u)))))

-- Rules 3, 4 and 5: no row meets the set of its number.
apart_sets : {rows sets : ℕ → ℕ} {R : Relation} → Tall rows → Shows R sets → Always (apart rows sets) (Disjoint (Step rows) R)
unfolding apart
apart_sets {rows} {sets} t s =
    exactly_as (λ f u v e r. f u (step_from t u v e) (v, e, (s.says u v (step_from t u v e)).holds r))
    (λ f u h x. f u x.0 x.1 ((s.says u x.0 h).means x.2))
    (exactly_all 64 _ (λ u h. exactly_not (exactly_meet (rows u) (sets u) (t.fits u) (s.fits u h))))

-- A set that holds no pair of the rows.
pub pair_free_lem : {rows : ℕ → ℕ} (m : ℕ) (O : Subset) → Tall rows → m < 2 ^ 64 → ((t : ℕ) → Exactly (bit m t) (O t))
    → Exactly (pair_free rows m) (PairFree (Step rows) O)
unfolding pair_free
pair_free_lem {rows} m O t hm o =
    exactly_as (λ f u v e p q. f u (step_from t u v e) (p, (v, e, (o v).holds q)))
    (λ f u h x. f u x.1.0 x.1.1 x.0 ((o x.1.0).means x.1.2))
    (exactly_all 64 _ (λ u h. exactly_not (exactly_and (o u) (exactly_meet (rows u) m (t.fits u) hm))))

-- Rules 1 and 2: what is asked of each of the four pair tables.
of_four_lem : (f : (ℕ → ℕ) → ℕ → Bool) (P : (ℕ → ℕ) → Type 0) (d : Book) → ((n : ℕ) → Always (f (d.row n)) (P (d.row n))) → Always (of_four f d) (OfFour P d)
of_four_lem f P d x =
    exactly_both 64 (f (d.row SME)) _ (x SME) (exactly_both 64 (f (d.row DME)) _ (x DME) (exactly_both 64 (f (d.row RB)) (f (d.row SB)) (x RB) (x SB)))

module _ (d : Book) (s : Sized d) where
  -- Rule 6: no role reaches itself.
  no_cycle : Always (not_own (reach d)) (NoCycle (Step (d.row juniors)))
  no_cycle = none_own (reach_shows d s) first
    where
      first : (i j : ℕ) → Reaches (Step (d.row juniors)) i j → i < 64
      first i j x = go x.before j x.way x.last
        where
          go : (m q : ℕ) → Chain (Step (d.row juniors)) i m → Step (d.row juniors) m q → i < 64
          go m q Chain.stay e = step_from (s.rows juniors) i q e
          go m q (Chain.more {j = k} c f) e = go k m c f

  -- Rules 7 and 8, of every owner whose start is a word.
  owners_free : (begin : Owner) → ((o : ℕ) → o < 64 → begin o < 2 ^ 64) → Always (owner_free d begin) (OwnersFree d begin)
  unfolding owner_free
  owners_free begin fit =
      exactly_all 64 _ (λ o h. pair_free_lem (owned_tasks d (begin o)) (OwnedFrom d (begin o)) (s.rows SME) (o_shows.fits o h) (λ t. o_shows.says o t h))
    where
      o_shows : Shows (λ o. OwnedFrom d (begin o)) (λ o. owned_tasks d (begin o))
      o_shows = owner_shows d s begin fit

  -- Rule 10: what is asked of every task u, beside every task v, in every order p that has both.
  in-orders : (f : ℕ → ℕ → ℕ → ℕ → Bool) {P : ℕ → ℕ → ℕ → Type 0} → ((p u v : ℕ) → u < 64 → Exactly (f u p u v) (P p u v))
      → Always (λ u. in_orders (f u) d u) ((p u v : ℕ) → Both (d.row orders) p u v → P p u v)
  unfolding in_orders
  in-orders f x =
      exactly_as
      (λ g p u v b. g u (step_to o p u b.0) p (step_from o p u b.0) b.0 v (step_to o p v b.1) b.1)
      (λ g u hu p hp a v hv b. g p u v (a, b))
      (exactly_all 64 _ (λ u hu. exactly_all 64 _ (λ p hp. exactly_implies (itself (bit (d.row orders p) u))
      (exactly_all 64 _ (λ v hv. exactly_implies (itself (bit (d.row orders p) v)) (x p u v hu))))))
    where
      o : Tall (d.row orders)
      o = s.rows orders

  -- Rule 9 in a well-formed book, where every S is one of the 64 subjects that are asked: two cells with the same S above 0 are two tasks
  -- that this subject holds, in one order or another for SME, in one order for DME.
  hands_apart_lem : Formed d → Always (hands_apart d) (HandsApart (d.row orders) d.cell (Excludes (d.row SME) (d.row DME)))
  unfolding hands_apart
  hands_apart_lem f = exactly_as out into
      (exactly_all 64 _ (λ c h. exactly_and
      (pair_free_lem (held_anywhere d c) (HoldsAnywhere d c) (s.rows SME) ((anywhere_shows d s).fits c h) (λ t. (anywhere_shows d s).says c t h))
      (exactly_all 64 _ (λ p hp. exactly_implies (itself (is_open d p))
      (pair_free_lem (held_by d p c) (Holds d p c) (s.rows DME) ((held_shows d s p).fits c h) (λ t. (held_shows d s p).says c t h))))))
    where
      Apart : ℕ → Type 0
      Apart c =
          PairFree (Step (d.row SME)) (HoldsAnywhere d c) × ((p : ℕ) → p < 64 → is_open d p ≡ true → PairFree (Step (d.row DME)) (Holds d p c))

      into : HandsApart (d.row orders) d.cell (Excludes (d.row SME) (d.row DME)) → (c : ℕ) → c < 64 → Apart c
      into g c h = (
        λ u v x (p, (i, e)) (q, (j, k)). g p q u v i j (inl x) (e ∙ sym k) (omega (arith, e)),
        λ p hp q u v x (i, e) (j, k). g p p u v i j (inr (refl, x)) (e ∙ sym k) (omega (arith, e)),
      )

      out : ((c : ℕ) → c < 64 → Apart c) → HandsApart (d.row orders) d.cell (Excludes (d.row SME) (d.row DME))
      out g p q u v i j x e h =
          let c = subject_in (d.cell p u) - 1 in
          let mine : subject_in (d.cell p u) ≡ suc c = omega arith in
          meets c mine (g c (hand_lt d s f p u c mine)) x
        where
          meets : (c : ℕ) → subject_in (d.cell p u) ≡ suc c → Apart c → Excludes (d.row SME) (d.row DME) p q u v → ⊥
          meets c mine free (inl y) = free.0 u v y (p, (i, mine)) (q, (j, sym e ∙ mine))
          meets c mine free (inr (r, y)) =
              free.1 p (step_from (s.rows orders) p u i) (open_order_lem d p u i) u v y (i, mine) (subst (λ (z : ℕ). Holds d z c v) (sym r) (j, sym e ∙ mine))

  -- Rule 10, of the subject groups and the role groups.
  hands_together_lem : Always (λ u. in_orders (hands_together d (subject_group d u) (role_group d u)) d u) (Keeps d 10)
  hands_together_lem =
      exactly_as (λ f. (λ p u v b. (f p u v b).0, λ p u v b. (f p u v b).1)) (λ f p u v b. (f.0 p u v b, f.1 p u v b))
      (in-orders (λ u. hands_together d (subject_group d u) (role_group d u)) (λ p u v h. exactly_and
      (exactly_implies ((subject_group_lem d s).says u v h) (exactly_eqb (subject_in (d.cell p u)) (subject_in (d.cell p v))))
      (exactly_implies ((role_group_lem d s).says u v h) (exactly_eqb (role_in (d.cell p u)) (role_in (d.cell p v))))))

-- In a well-formed book:
module _ (d : Book) (s : Sized d) (formed : Formed d) where
  -- The test of each rule holds exactly where its sentence does.
  pub keeps_exactly : (n : ℕ) → n ≤ rule_count → Always (kept_at d n) (Keeps d n)
  unfolding kept_at rules
  keeps_exactly n h = upto_at ten n (omega arith)
    where
      ten : Upto (λ n. Always (kept_at d n) (Keeps d n)) (rule_count + 1)
      ten =
          start next exactly_as (λ f. tt) (λ f i h. refl) (exactly_all 64 _ (λ i h. itself true))
          next of_four_lem not_own (λ rows. NoneOwn (Step rows)) d (λ n. none_own (rows_show (s.rows n)) (step_from (s.rows n)))
          next of_four_lem symmetric (λ rows. Symmetric (Step rows)) d (λ n. symmetric_rows (s.rows n))
          next apart_sets (s.rows SME) (rows_show (s.rows DME))
          next apart_sets (s.rows SME) (role_group_lem d s)
          next apart_sets (s.rows DME) (subject_group_lem d s)
          next no_cycle d s
          next owners_free d s role (role_lt d s)
          next owners_free d s (subject d) (subject_lt d s)
          next hands_apart_lem d s formed
          next hands_together_lem d s

  -- So a rule is broken unless it is kept.
  pub broken_unless : (n : ℕ) → n ≤ rule_count → Unless (broken d n) (Keeps d n)
  unfolding broken
  broken_unless n h = unless_not (keeps_exactly n h)

  -- And a test that holds exactly where it is kept says that it is not broken.
  pub tells_kept : (n : ℕ) → n ≤ rule_count → {t : Bool} → Exactly t (Keeps d n) → t ≡ not (broken d n)
  unfolding broken
  tells_kept n h x = exactly_same x (keeps_exactly n h) ∙ not_not (all 64 (kept_at d n))

  -- The search for a broken rule finds one unless all ten are kept.
  pub none_broken : Unless (ltb (first_broken d) (rule_count + 1)) ((n : ℕ) → 1 ≤ n → n ≤ rule_count → Keeps d n)
  unfolding first_broken
  none_broken =
      unless_as (λ f n l h. (broken_unless n h).means (f n l (omega arith))) (λ f n l h. (broken_unless n (omega arith)).fails (f n l (omega arith)))
      (unless_found rule_count 1 (broken d))

-- The audit answers 0 exactly where no word is bad and no rule is broken.
pub audit_out : (d : Book) → audit d ≡ accepted → (ltb (first_bad d) book_words ≡ false) × (ltb (first_broken d) (rule_count + 1) ≡ false)
unfolding audit
audit_out d e =
    let x = given_out (ltb (first_bad d) book_words) 2 _ _ e in
    let y = given_out (ltb (first_broken d) (rule_count + 1)) (40 + first_broken d) _ accepted x.1 in
    (x.0, y.0)

-- .. and back.
pub audit_in : (d : Book) → ltb (first_bad d) book_words ≡ false → ltb (first_broken d) (rule_count + 1) ≡ false → audit d ≡ accepted
unfolding audit
audit_in d e f = given_in (ltb (first_bad d) book_words) _ _ e (given_in (ltb (first_broken d) (rule_count + 1)) _ accepted f refl)

-- A sound book is well-formed.
pub sound_formed : (d : Book) → Sound d → Formed d
sound_formed d x = record {
  gap = x.gap;
  sme = x.bindings.sme.formed;
  dme = x.bindings.dme.formed;
  rb = x.bindings.rb.formed;
  sb = x.bindings.sb.formed;
  juniors_formed = x.ranks.juniors_formed;
  tasks_formed = x.ranks.tasks_formed;
  roles_formed = x.ranks.roles_formed;
  active_formed = x.ranks.active_formed;
  orders_formed = x.orders.orders_formed;
  cells_formed = x.orders.cells_formed;
}

-- A well-formed book that keeps all ten rules is sound ..
kept_sound : (d : Book) → Formed d → ((n : ℕ) → 1 ≤ n → n ≤ rule_count → Keeps d n) → Sound d
kept_sound d f k =
    let r1 = k 1 (omega arith) (omega arith) in
    let r2 = k 2 (omega arith) (omega arith) in
    let r10 = k 10 (omega arith) (omega arith) in
    record {
      gap = f.gap;
      bindings = record {
        sme = record { formed = f.sme; rule1 = r1.0; rule2 = r2.0 };
        dme = record { formed = f.dme; rule1 = r1.1.0; rule2 = r2.1.0 };
        rb = record { formed = f.rb; rule1 = r1.1.1.0; rule2 = r2.1.1.0 };
        sb = record { formed = f.sb; rule1 = r1.1.1.1; rule2 = r2.1.1.1 };
        rule3 = k 3 (omega arith) (omega arith);
        rule4 = k 4 (omega arith) (omega arith);
        rule5 = k 5 (omega arith) (omega arith);
      };
      ranks = record {
        juniors_formed = f.juniors_formed;
        tasks_formed = f.tasks_formed;
        roles_formed = f.roles_formed;
        active_formed = f.active_formed;
        rule6 = k 6 (omega arith) (omega arith);
      };
      orders = record {
        orders_formed = f.orders_formed;
        cells_formed = f.cells_formed;
        rule9 = k 9 (omega arith) (omega arith);
        rule10_subject = r10.0;
        rule10_role = r10.1;
      };
      rule7 = k 7 (omega arith) (omega arith);
      rule8 = k 8 (omega arith) (omega arith);
    }

-- .. and a sound book keeps them.
sound_kept : (d : Book) → Sound d → (n : ℕ) → n ≤ rule_count → Keeps d n
sound_kept d x n h = upto_at ten n (omega arith)
  where
    each : (P : (ℕ → ℕ) → Type 0) → ((rows : ℕ → ℕ) → Pairs (tasks d) rows → P rows) → OfFour P d
    each P f = (f _ x.bindings.sme, (f _ x.bindings.dme, (f _ x.bindings.rb, f _ x.bindings.sb)))

    ten : Upto (Keeps d) (rule_count + 1)
    ten =
        start next tt
        next each _ (λ rows y. y.rule1)
        next each _ (λ rows y. y.rule2)
        next x.bindings.rule3
        next x.bindings.rule4
        next x.bindings.rule5
        next x.ranks.rule6
        next x.rule7
        next x.rule8
        next x.orders.rule9
        next (x.orders.rule10_subject, x.orders.rule10_role)

module _ (d : Book) (s : Sized d) where
  -- A book that passes the audit is sound ..
  pub audit_sound : audit d ≡ accepted → Sound d
  audit_sound e =
      let a = audit_out d e in
      let f = (well_formed d s).means a.0 in
      kept_sound d f ((none_broken d s f).means a.1)

  -- .. and a sound book passes the audit.
  pub sound_audit : Sound d → audit d ≡ accepted
  sound_audit x =
      let f = sound_formed d x in
      audit_in d ((well_formed d s).fails f) ((none_broken d s f).fails (λ n l h. sound_kept d x n h))
