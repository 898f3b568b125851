-- The blank book is sound: every run of requests starts from a book that passes the audit.
use mathlib.Core.Path.{◌≡◌, refl, sym, subst}
use mathlib.Core.Bool.{Bool, true, false, ◌&&◌}
use Prim.Native.Nat.{ℕ}
use native.Mathlib.Omega.{arith}
use lib.Dec.{ltb}
use Rattle.sets.specs.Mask.{only}
use Rattle.sets.proofs.MaskLaws.{zero_none}
use Rattle.chains.specs.Relation.{Step}
use Rattle.rules.specs.Book.{table_count, SME, DME, RB, SB, juniors, tasks_of, roles_of, active, orders, blank, read}
use Rattle.rules.specs.Meaning.{CellWord, Pairs, Sound}
use Rattle.demands.proofs.UnopposedKinds.{empty_cell}

-- It has no step at all, so no rule has anything to forbid.
pub blank_sound : Sound blank
unfolding read
blank_sound = record {
  gap = refl;
  bindings = record {
    sme = none SME;
    dme = none DME;
    rb = none RB;
    sb = none SB;
    rule3 = λ u v e. absurd (no_step SME u v e);
    rule4 = λ u v e. absurd (no_step SME u v e);
    rule5 = λ u v e. absurd (no_step DME u v e);
  };
  ranks = record {
    juniors_formed = λ i j e. absurd (no_step juniors i j e);
    tasks_formed = λ i j e. absurd (no_step tasks_of i j e);
    roles_formed = λ i j e. absurd (no_step roles_of i j e);
    active_formed = λ s r e. (let z : blank.row active s ≡ 0 = no_row active s in absurd (omega arith));
    rule6 = λ r w. no_step juniors w.before r w.last;
  };
  orders = record {
    orders_formed = λ p t e. absurd (no_step orders p t e);
    cells_formed = λ p t. subst (λ (x : ℕ). CellWord 0 0 (blank.row orders p) t x) (sym (no_cell p t)) (empty_cell 0 0 (blank.row orders p) t);
    rule9 = λ p q u v i. absurd (no_step orders p u i);
    rule10_subject = λ p u v both. absurd (no_step orders p u both.0);
    rule10_role = λ p u v both. absurd (no_step orders p u both.0);
  };
  rule7 = λ o h u v x. absurd (no_step SME u v x);
  rule8 = λ o h u v x. absurd (no_step SME u v x);
}
  where
    nothing : (t : Bool) → only t 0 ≡ 0
    nothing true = refl
    nothing false = refl

    no_row : (n r : ℕ) → blank.row n r ≡ 0
    no_row n r = nothing (ltb n table_count && ltb r 64)

    no_cell : (p t : ℕ) → blank.cell p t ≡ 0
    no_cell p t = nothing (ltb p 64 && ltb t 64)

    no_step : (n u v : ℕ) → Step (blank.row n) u v → ⊥
    no_step n u v e = zero_none v (no_row n u) e

    none : (n : ℕ) → Pairs 0 (blank.row n)
    none n = record { formed = λ i j e. absurd (no_step n i j e); rule1 = λ t e. no_step n t t e; rule2 = λ u v e. absurd (no_step n u v e) }
