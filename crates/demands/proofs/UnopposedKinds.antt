-- Kinds that meet no conflict, since they touch nothing that a rule reads: the book stays sound whatever they change.
-- 1 to 3 define more, 11 writes an active role, and 12 and 14 leave an order with empty cells.
use mathlib.Core.Path.{◌≡◌, refl, sym, ◌∙◌, subst}
use mathlib.Core.Bool.{Bool, true, false}
use mathlib.Core.List.{[]}
use Prim.Native.Nat.{ℕ, suc, ◌<◌}
use native.Mathlib.Omega.{arith}
use lib.Dec.{eqb}
use borrow.Author.Tests.{eqb-true}
use Rattle.sets.proofs.MaskLaws.{zero_none}
use Rattle.chains.specs.Relation.{Relation, In, Chain}
use Rattle.rules.specs.Book.{Book, tasks, roles, subjects, SME, DME, RB, SB, juniors, tasks_of, roles_of, active, orders, role_in, subject_in}
use Rattle.rules.specs.Requests.{Deed, define, activate, open_order, close_order, set_row, add_to, set_order, change}
use Rattle.rules.specs.Numbers.{first_of, conflicts}
use Rattle.rules.specs.Meaning.{Between, OneValue, CellWord, Pairs, Sound}
use Rattle.rules.proofs.ChangeLaws.{set_cases}
use Rattle.demands.proofs.HeldHands.{hands_stay}
use Rattle.demands.proofs.RowChanges.{set_other, add_old}
use Rattle.demands.proofs.Tables.{SubjectBound, RoleBound}
use Rattle.demands.proofs.Conflicts.{Exact}

-- Where a kind has no conflicts, it is exact if the changed book is sound.
pub unopposed : (d : Book) (deed : Deed) (a b c : ℕ) → conflicts deed c ≡ [] → Sound (change d deed a b c) → Exact d deed a b c
unfolding first_of
unopposed d deed a b c none sound = (λ e. sound, λ s. rw none refl)

-- An empty cell is well-formed in any order.
pub empty_cell : (R S O t : ℕ) → CellWord R S O t 0
empty_cell R S O t = record { in_order = λ h. absurd (omega arith); role = λ r e. absurd (omega arith); subject = λ s e. absurd (omega arith) }

-- A sound book, and any arguments.
module _ (d : Book) (sound : Sound d) (a b c : ℕ) where
  -- Kinds 1 to 3: a mask of the head grows. Nothing well-formed becomes bad by it, and no rule reads it.
  module _ (n : ℕ) (hn : n < 3) where
    -- What was defined still is.
    grown : (i t : ℕ) → In (d.head i) t → In (add_to d.head n a i) t
    grown = add_old d.head n a

    -- Rows of things i with masks of things j stay well-formed ..
    still_between : (i j : ℕ) (rows : ℕ → ℕ) → Between (d.head i) (d.head j) rows → Between (add_to d.head n a i) (add_to d.head n a j) rows
    still_between i j rows formed u v e = let w = formed u v e in (grown i u w.0, grown j v w.1)

    -- .. and so do the pair tables.
    still_pairs : (rows : ℕ → ℕ) → Pairs (tasks d) rows → Pairs (add_to d.head n a 0) rows
    still_pairs rows was = record { formed = still_between 0 0 rows was.formed; rule1 = was.rule1; rule2 = was.rule2 }

    -- So the book stays sound.
    pub define_exact : Exact d (define n) a b c
    unfolding change conflicts
    define_exact = unopposed d (define n) a b c refl (record {
      gap = set_other d.head n _ 3 (λ e. omega arith) ∙ sound.gap;
      bindings = record {
        sme = still_pairs (d.row SME) sound.bindings.sme;
        dme = still_pairs (d.row DME) sound.bindings.dme;
        rb = still_pairs (d.row RB) sound.bindings.rb;
        sb = still_pairs (d.row SB) sound.bindings.sb;
        rule3 = sound.bindings.rule3;
        rule4 = sound.bindings.rule4;
        rule5 = sound.bindings.rule5;
      };
      ranks = record {
        juniors_formed = still_between 1 1 (d.row juniors) sound.ranks.juniors_formed;
        tasks_formed = still_between 1 0 (d.row tasks_of) sound.ranks.tasks_formed;
        roles_formed = still_between 2 1 (d.row roles_of) sound.ranks.roles_formed;
        active_formed = λ s r e. (let w = sound.ranks.active_formed s r e in (grown 2 s w.0, grown 1 r w.1));
        rule6 = sound.ranks.rule6;
      };
      orders = record {
        orders_formed = λ p t e. grown 0 t (sound.orders.orders_formed p t e);
        cells_formed = λ p t. (let w = sound.orders.cells_formed p t in record {
          in_order = w.in_order;
          role = λ r e. grown 1 r (w.role r e);
          subject = λ s e. (grown 2 s (w.subject s e).0, (w.subject s e).1);
        });
        rule9 = sound.orders.rule9;
        rule10_subject = sound.orders.rule10_subject;
        rule10_role = sound.orders.rule10_role;
      };
      rule7 = sound.rule7;
      rule8 = sound.rule8;
    })

  -- Kind 11: no rule reads the active role.
  pub activate_exact : In (roles d) a → In (subjects d) b → Exact d activate a b c
  unfolding change conflicts
  activate_exact da db = unopposed d activate a b c refl (record {
    gap = sound.gap;
    bindings = sound.bindings;
    ranks = record {
      juniors_formed = sound.ranks.juniors_formed;
      tasks_formed = sound.ranks.tasks_formed;
      roles_formed = sound.ranks.roles_formed;
      active_formed = set_cases (d.row active) b (suc a) (λ s v. (r : ℕ) → v ≡ suc r → In (subjects d) s × In (roles d) r)
          (λ r e. (db, (let same : a ≡ r = omega arith in subst (λ (x : ℕ). In (roles d) x) same da))) (λ s n. sound.ranks.active_formed s);
      rule6 = sound.ranks.rule6;
    };
    orders = sound.orders;
    rule7 = sound.rule7;
    rule8 = sound.rule8;
  })

  -- Kinds 12 and 14: order p has the tasks m, and all its cells are 0, so rules 9 and 10 hold in it.
  module _ (p m : ℕ) (defined : (t : ℕ) → In m t → In (tasks d) t) where
    -- What holds of the order with empty cells, and of the others as they were, holds of every order.
    by_order : (P : ℕ → ℕ → (ℕ → ℕ) → Type 0) → P p m (λ t. 0) → ((q : ℕ) → P q (d.row orders q) (d.cell q))
        → (q : ℕ) → P q (set_row (d.row orders) p m q) ((set_order d p m).cell q)
    unfolding set_row
    by_order P new old q = go (eqb q p) refl
      where
        go : (s : Bool) → eqb q p ≡ s → P q (elim s [ true ↦ m | false ↦ d.row orders q ]) (λ t. elim s [ true ↦ 0 | false ↦ d.cell q t ])
        go true e = subst (λ (x : ℕ). P x m (λ t. 0)) (sym (eqb-true q p e)) new
        go false e = old q

    -- Empty cells have all the same value, so rule 10 stays as it was.
    one_value : (E : Relation) (value : ℕ → ℕ) → OneValue (d.row orders) d.cell E value
        → OneValue (set_row (d.row orders) p m) (set_order d p m).cell E value
    one_value E value = by_order (λ q o k. (u v : ℕ) → In o u × In o v → Chain E u v → value (k u) ≡ value (k v)) (λ u v both k. refl)

    -- What is held now was held before: in this order nothing is, and the others are as they were.
    still_held : (q t : ℕ) → In (set_row (d.row orders) p m q) t → 0 < subject_in ((set_order d p m).cell q t)
        → In (d.row orders q) t × (subject_in ((set_order d p m).cell q t) ≡ subject_in (d.cell q t))
    still_held =
        by_order (λ q o k. (t : ℕ) → In o t → 0 < subject_in (k t) → In (d.row orders q) t × (subject_in (k t) ≡ subject_in (d.cell q t)))
        (λ t i h. absurd (omega arith)) (λ q t i h. (i, refl))

    -- So the book stays sound.
    order_set : Sound (set_order d p m)
    order_set = record {
      gap = sound.gap;
      bindings = sound.bindings;
      ranks = sound.ranks;
      orders = record {
        orders_formed = by_order (λ q o k. (t : ℕ) → In o t → In (tasks d) t) defined sound.orders.orders_formed;
        cells_formed =
            by_order (λ q o k. (t : ℕ) → CellWord (roles d) (subjects d) o t (k t))
            (empty_cell (roles d) (subjects d) m) sound.orders.cells_formed;
        rule9 = hands_stay (record { held = still_held; excluded = λ q r u v x. x }) sound.orders.rule9;
        rule10_subject = one_value (SubjectBound d) subject_in sound.orders.rule10_subject;
        rule10_role = one_value (RoleBound d) role_in sound.orders.rule10_role;
      };
      rule7 = sound.rule7;
      rule8 = sound.rule8;
    }

  -- Kind 12, where the mask names defined tasks.
  pub open_exact : ((t : ℕ) → In c t → In (tasks d) t) → Exact d open_order a b c
  unfolding change conflicts
  open_exact defined = unopposed d open_order a b c refl (order_set a c defined)

  -- Kind 14.
  pub close_exact : Exact d close_order a b c
  unfolding change conflicts
  close_exact = unopposed d close_order a b c refl (order_set a 0 (λ t e. absurd (zero_none t refl e)))
