-- One row of a table changed: the steps that there are before and after. The changes are those of the
-- requests: a bit added to a row, both bits of a pair added, a bit taken back, both bits of a pair taken back.
use mathlib.Core.Path.{◌≡◌, refl, sym, ap, ◌∙◌, subst}
use mathlib.Core.Logic.{◌⊎◌, inl, inr}
use mathlib.Core.Bool.{Bool, true, false, not}
use Prim.Native.Nat.{ℕ, ◌<◌}
use native.Mathlib.Omega.{arith}
use lib.Dec.{eqb}
use borrow.Author.Tests.{eqb-true, eq-eqb, ne_eqb}
use Rattle.sets.specs.Mask.{bit, with, without}
use Rattle.sets.proofs.Logic.{and_out, and_in, not_in, not_out}
use Rattle.sets.proofs.MaskLaws.{in_with, with_old, with_out, without_old, bit_without}
use Rattle.chains.specs.Relation.{Relation, In, Step}
use Rattle.chains.proofs.RelationLaws.{Tied, old, there, back, Under, old_step, new_step}
use Rattle.rules.specs.Book.{Book}
use Rattle.rules.specs.Requests.{set_row, add_to, take_from, add_pair, take_pair, set_table}
use Rattle.rules.specs.Meaning.{Tall, Symmetric, Between, Pairs}
use Rattle.rules.proofs.ChangeLaws.{set_cases, table_cases, take_tall}
use Rattle.rules.proofs.TradeLaws.{step_to}
use Rattle.demands.proofs.PairRules.{Adds}

-- Row r is now v.
module _ (rows : ℕ → ℕ) (r v : ℕ) where
  -- The row itself is v.
  pub set_same : set_row rows r v r ≡ v
  unfolding set_row
  set_same = ap (λ (t : Bool). elim t as (λ (x : Bool). ℕ) [ true ↦ v | false ↦ rows r ]) (eq-eqb r r refl)

  -- Another row is as it was.
  pub set_other : (s : ℕ) → (s ≡ r → ⊥) → set_row rows r v s ≡ rows s
  unfolding set_row
  set_other s n = ap (λ (t : Bool). elim t as (λ (x : Bool). ℕ) [ true ↦ v | false ↦ rows s ]) (ne_eqb s r n)

-- The relation X' is X with a step from b to a.
pub record Gets (b a : ℕ) (X X' : Relation) : Type 0 where
  pub out : (u v : ℕ) → X' u v → Under X b a u v
  pub into : (u v : ℕ) → Under X b a u v → X' u v

-- Number a is added to row b.
module _ (rows : ℕ → ℕ) (b a : ℕ) where
  -- The old steps stay.
  pub add_old : (u v : ℕ) → Step rows u v → Step (add_to rows b a) u v
  add_old = set_cases rows b (with (rows b) a) (λ s x. (v : ℕ) → Step rows s v → In x v) (with_old (rows b) a) (λ s n v e. e)

  -- The step from b to a is there.
  pub add_new : Step (add_to rows b a) b a
  add_new = subst (λ (x : ℕ). In x a) (sym (set_same rows b (with (rows b) a))) (in_with (rows b) a)

  -- The steps afterwards are the old ones and that from b to a.
  pub add_gets : Gets b a (Step rows) (Step (add_to rows b a))
  add_gets = record { out = out; into = into }
    where
      new : (v : ℕ) → In (rows b) v ⊎ (a ≡ v) → Under (Step rows) b a b v
      new v (inl e) = old_step e
      new v (inr e) = subst (λ (x : ℕ). Under (Step rows) b a b x) e new_step

      out : (u v : ℕ) → Step (add_to rows b a) u v → Under (Step rows) b a u v
      out = set_cases rows b (with (rows b) a) (λ s x. (v : ℕ) → In x v → Under (Step rows) b a s v)
          (λ v e. new v (with_out (rows b) a v e))
          (λ s n v e. old_step e)

      into : (u v : ℕ) → Under (Step rows) b a u v → Step (add_to rows b a) u v
      into u v (old_step e) = add_old u v e
      into u v new_step = add_new

  -- A well-formed table stays so where b and a are defined.
  pub add_between : (I J : ℕ) → Between I J rows → In I b → In J a → Between I J (add_to rows b a)
  add_between I J formed db da u v e = go u v (add_gets.out u v e)
    where
      go : (u v : ℕ) → Under (Step rows) b a u v → In I u × In J v
      go u v (old_step q) = formed u v q
      go u v new_step = (db, da)

-- Both bits of the pair a, b are added.
module _ (rows : ℕ → ℕ) (a b : ℕ) where
  -- The steps afterwards are the old ones and the two of the pair.
  pub pair_adds : Adds a b (Step rows) (Step (add_pair rows a b))
  pair_adds = record { out = λ u v e. second u v ((add_gets (add_to rows a b) b a).out u v e); into = into }
    where
      first : (u v : ℕ) → Under (Step rows) a b u v → Tied (Step rows) a b u v
      first u v (old_step e) = old e
      first u v new_step = there

      second : (u v : ℕ) → Under (Step (add_to rows a b)) b a u v → Tied (Step rows) a b u v
      second u v (old_step e) = first u v ((add_gets rows a b).out u v e)
      second u v new_step = back

      into : (u v : ℕ) → Tied (Step rows) a b u v → Step (add_pair rows a b) u v
      into u v (old e) = add_old (add_to rows a b) b a u v (add_old rows a b u v e)
      into u v there = add_old (add_to rows a b) b a a b (add_new rows a b)
      into u v back = add_new (add_to rows a b) b a

  -- A pair table stays one where a and b are two defined tasks ..
  pub pair_table : (T : ℕ) → Pairs T rows → In T a → In T b → (a ≡ b → ⊥) → Pairs T (add_pair rows a b)
  pair_table T was da db two = record {
    formed = add_between (add_to rows a b) b a T T (add_between rows a b T T was.formed da db) db da;
    rule1 = λ t e. own t t refl (pair_adds.out t t e);
    rule2 = λ u v e. pair_adds.into v u (turned u v (pair_adds.out u v e));
  }
    where
      own : (u v : ℕ) → u ≡ v → Tied (Step rows) a b u v → ⊥
      own u v q (old e) = was.rule1 u (subst (λ (x : ℕ). Step rows u x) (sym q) e)
      own u v q there = two q
      own u v q back = two (sym q)

      turned : (u v : ℕ) → Tied (Step rows) a b u v → Tied (Step rows) a b v u
      turned u v (old e) = old (was.rule2 u v e)
      turned u v there = back
      turned u v back = there

  -- .. and a task beside itself breaks rule 1.
  pub pair_two : (T : ℕ) → Pairs T (add_pair rows a b) → a ≡ b → ⊥
  pair_two T now q = now.rule1 a (subst (λ (x : ℕ). Step (add_pair rows a b) a x) (sym q) (pair_adds.into a b there))

-- Number a is taken from row b: no step is new.
pub take_old : (rows : ℕ → ℕ) (b a u v : ℕ) → Step (take_from rows b a) u v → Step rows u v
take_old rows b a = set_cases rows b (without (rows b) a) (λ s x. (v : ℕ) → In x v → Step rows s v) (without_old (rows b) a) (λ s n v e. e)

-- A number that was taken from a set is not in it ..
without_gone : (m a : ℕ) → a < 64 → In (without m a) a → ⊥
without_gone m a h e = not_out (eqb a a) (and_out (bit m a) (not (eqb a a)) (sym (bit_without m a a h h) ∙ e)).1 (eq-eqb a a refl)

-- .. and another that was in it still is.
without_kept : (m a i : ℕ) → a < 64 → i < 64 → In m i → (i ≡ a → ⊥) → In (without m a) i
without_kept m a i h l e n = bit_without m a i h l ∙ and_in e (not_in (eqb a i) (λ q. n (sym (eqb-true a i q))))

-- the step from u to v is not that from b to a
abbrev Other : ℕ → ℕ → Relation
Other b a u v = u ≡ b → v ≡ a → ⊥

-- What that leaves of the table.
module _ (rows : ℕ → ℕ) (b a : ℕ) where
  -- The step from b to a is gone ..
  pub take_gone : a < 64 → (u v : ℕ) → Step (take_from rows b a) u v → Other b a u v
  take_gone ha =
      set_cases rows b (without (rows b) a) (λ s x. (v : ℕ) → In x v → Other b a s v)
      (λ v e p q. without_gone (rows b) a ha (subst (In (without (rows b) a)) q e))
      (λ s n v e p q. n p)

  -- .. and every other is kept.
  pub take_kept : Tall rows → a < 64 → (u v : ℕ) → Step rows u v → Other b a u v → Step (take_from rows b a) u v
  take_kept tall ha =
      set_cases rows b (without (rows b) a) (λ s x. (v : ℕ) → Step rows s v → Other b a s v → In x v)
      (λ v e f. without_kept (rows b) a v ha (step_to tall b v e) e (f refl))
      (λ s n v e f. e)

-- Both bits of the pair a, b are taken.
module _ (rows : ℕ → ℕ) (a b : ℕ) where
  -- No step is new ..
  pub pair_old : (u v : ℕ) → Step (take_pair rows a b) u v → Step rows u v
  pair_old u v e = take_old rows b a u v (take_old (take_from rows b a) a b u v e)

  -- .. the two of the pair are gone ..
  pub pair_gone : a < 64 → b < 64 → (u v : ℕ) → Step (take_pair rows a b) u v → Other b a u v × Other a b u v
  pair_gone ha hb u v e =
      let once = take_from rows b a in
      (take_gone rows b a ha u v (take_old once a b u v e), take_gone once a b hb u v e)

  -- .. every other is kept ..
  pub pair_kept : Tall rows → a < 64 → b < 64 → (u v : ℕ) → Step rows u v → Other b a u v → Other a b u v → Step (take_pair rows a b) u v
  pair_kept tall ha hb u v e f g = take_kept (take_from rows b a) a b (take_tall b a tall hb) hb u v (take_kept rows b a tall ha u v e f) g

  -- .. and a table that ran both ways still does.
  pub pair_turns : Tall rows → a < 64 → b < 64 → Symmetric (Step rows) → Symmetric (Step (take_pair rows a b))
  pair_turns tall ha hb turn u v e =
      let gone = pair_gone ha hb u v e in
      pair_kept tall ha hb v u (turn u v (pair_old u v e)) (λ p q. gone.1 q p) (λ p q. gone.0 q p)

-- Where one table is set, those after it stay.
pub table_before : (d : Book) (n k : ℕ) (f : ℕ → ℕ) → n < k → (set_table d n f).row k ≡ d.row k
table_before d n k f h = table_cases d n f (λ m g. n < m → g ≡ d.row m) (λ l. absurd (omega arith)) (λ m e l. refl) k h
