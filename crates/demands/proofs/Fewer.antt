-- The rules forbid. All that they ask for is that a pair runs both ways. So a sound book stays sound where steps are left out of its
-- tables, as long as its pair tables still run both ways: of fewer steps there are fewer pairs, and chains lead to no more.
-- How many steps are left out, and which of tables 0 to 6 lose them, does not matter.
use mathlib.Core.Path.{◌≡◌, refl, sym, ap, ◌∙◌, subst}
use mathlib.Core.Logic.{inl, inr}
use Prim.Native.Nat.{ℕ, ◌<◌}
use native.Mathlib.Omega.{arith}
use Rattle.chains.specs.Relation.{In, Step}
use Rattle.chains.proofs.RelationLaws.{chain_map}
use Rattle.rules.specs.Book.{Book, tasks, roles, subjects, SME, DME, RB, SB, juniors, tasks_of, roles_of, active, orders}
use Rattle.rules.specs.Trade.{role}
use Rattle.rules.specs.Meaning.{Symmetric, OwnedFrom, Pairs, Mixed, Ranks, Excludes, Orders, Sound}
use Rattle.demands.proofs.Owners.{owned_map}
use Rattle.demands.proofs.HeldHands.{hands_stay}

-- Two books that differ in tables 0 to 6 alone: the same things are defined, active, open and in whose hands.
pub record Beside (d d' : Book) : Type 0 where
  pub heads : d'.head ≡ d.head
  pub cells : d'.cell ≡ d.cell
  pub actives : d'.row active ≡ d.row active
  pub opened : d'.row orders ≡ d.row orders

-- Beside d, d' has no step that d has not, and its pair tables run both ways.
pub record Fewer (d d' : Book) : Type 0 where
  pub beside : Beside d d'
  pub steps : (n u v : ℕ) → Step (d'.row n) u v → Step (d.row n) u v
  pub turns : (n : ℕ) → n < 4 → Symmetric (Step (d'.row n))

-- a book with other tables
abbrev with_tables : Book → (ℕ → ℕ → ℕ) → Book
with_tables d rows = record { head = d.head; row = rows; cell = d.cell }

-- Of other tables with fewer steps, where all else is the same.
module _ (d : Book) (rows : ℕ → ℕ → ℕ) (sound : Sound d) (fewer : (n u v : ℕ) → Step (rows n) u v → Step (d.row n) u v) where
  -- What binds for the role did so before ..
  binds : (u v : ℕ) → Mixed (rows SB) (rows RB) u v → Mixed (d.row SB) (d.row RB) u v
  binds u v (inl e) = inl (fewer SB u v e)
  binds u v (inr e) = inr (fewer RB u v e)

  -- .. and so did what excludes.
  excludes : (p q u v : ℕ) → Excludes (rows SME) (rows DME) p q u v → Excludes (d.row SME) (d.row DME) p q u v
  excludes p q u v (inl e) = inl (fewer SME u v e)
  excludes p q u v (inr (r, e)) = inr (r, fewer DME u v e)

  -- Rules 1 and 2, of a pair table.
  pairs_fewer : (n : ℕ) → Symmetric (Step (rows n)) → Pairs (tasks d) (d.row n) → Pairs (tasks d) (rows n)
  pairs_fewer n turn was = record {
    formed = λ u v e. was.formed u v (fewer n u v e);
    rule1 = λ t e. was.rule1 t (fewer n t t e);
    rule2 = turn;
  }

  -- Rule 6.
  ranks_fewer : Ranks (tasks d) (roles d) (subjects d) (rows juniors) (rows tasks_of) (rows roles_of) (d.row active)
  ranks_fewer = let was = sound.ranks in record {
    juniors_formed = λ u v e. was.juniors_formed u v (fewer juniors u v e);
    tasks_formed = λ u v e. was.tasks_formed u v (fewer tasks_of u v e);
    roles_formed = λ u v e. was.roles_formed u v (fewer roles_of u v e);
    active_formed = was.active_formed;
    rule6 = λ r w. was.rule6 r (record { before = w.before; way = chain_map (fewer juniors) w.way; last = fewer juniors w.before r w.last });
  }

  -- Rules 9 and 10.
  orders_fewer : Orders (tasks d) (roles d) (subjects d) (rows SME) (rows DME) (rows RB) (rows SB) (d.row orders) d.cell
  orders_fewer = let was = sound.orders in record {
    orders_formed = was.orders_formed;
    cells_formed = was.cells_formed;
    rule9 = hands_stay (record { held = λ p t i h. (i, refl); excluded = excludes }) was.rule9;
    rule10_subject = λ p u v both c. was.rule10_subject p u v both (chain_map (fewer SB) c);
    rule10_role = λ p u v both c. was.rule10_role p u v both (chain_map binds c);
  }

  -- Rules 7 and 8: who starts with no role more owns no task more.
  own_fewer : (m' m : ℕ) → ((r : ℕ) → In m' r → In m r) → (t : ℕ) → OwnedFrom (with_tables d rows) m' t → OwnedFrom d m t
  own_fewer m' m start = owned_map (fewer juniors) (fewer tasks_of) start

  -- So the book with these tables is sound.
  tables_fewer : ((n : ℕ) → n < 4 → Symmetric (Step (rows n))) → rows active ≡ d.row active → rows orders ≡ d.row orders → Sound (with_tables d rows)
  tables_fewer turns actives opened = let was = sound.bindings in record {
    gap = sound.gap;
    bindings = record {
      sme = pairs_fewer SME (turns SME (omega arith)) was.sme;
      dme = pairs_fewer DME (turns DME (omega arith)) was.dme;
      rb = pairs_fewer RB (turns RB (omega arith)) was.rb;
      sb = pairs_fewer SB (turns SB (omega arith)) was.sb;
      rule3 = λ u v x y. was.rule3 u v (fewer SME u v x) (fewer DME u v y);
      rule4 = λ u v x c. was.rule4 u v (fewer SME u v x) (chain_map binds c);
      rule5 = λ u v y c. was.rule5 u v (fewer DME u v y) (chain_map (fewer SB) c);
    };
    ranks = subst (λ (f : ℕ → ℕ). Ranks (tasks d) (roles d) (subjects d) (rows juniors) (rows tasks_of) (rows roles_of) f) (sym actives) ranks_fewer;
    orders =
        subst (λ (f : ℕ → ℕ). Orders (tasks d) (roles d) (subjects d) (rows SME) (rows DME) (rows RB) (rows SB) f d.cell) (sym opened) orders_fewer;
    rule7 = λ o h u v x p q. (let own = own_fewer (role o) (role o) (λ r e. e) in sound.rule7 o h u v (fewer SME u v x) (own u p) (own v q));
    rule8 = λ o h u v x p q.
        (let own = own_fewer (rows roles_of o) (d.row roles_of o) (fewer roles_of o) in sound.rule8 o h u v (fewer SME u v x) (own u p) (own v q));
  }

-- A sound book stays sound where steps are left out.
pub sound_fewer : (d d' : Book) → Fewer d d' → Sound d → Sound d'
sound_fewer d d' less sound =
    let same : with_tables d d'.row ≡ d' =
    ap (λ (f : ℕ → ℕ). made f d.cell) (sym less.beside.heads) ∙ ap (made d'.head) (sym less.beside.cells) in
    subst Sound same (tables_fewer d d'.row sound less.steps less.turns less.beside.actives less.beside.opened)
  where
    made : (ℕ → ℕ) → (ℕ → ℕ → ℕ) → Book
    made head cell = record { head = head; row = d'.row; cell = cell }
