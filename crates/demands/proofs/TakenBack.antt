-- Kinds 15 to 17 and 18 to 21: what 8 to 10 and 4 to 7 added is taken back. No conflict is met, since the book then has fewer steps:
-- one law serves the seven tables. Of a pair both bits go, so that its table still runs both ways.
use mathlib.Core.Path.{refl}
use Prim.Native.Nat.{ℕ, zero, suc, ◌<◌}
use native.Mathlib.Omega.{arith}
use lib.Dec.{eqb}
use borrow.Author.Tests.{ne_eqb}
use Rattle.chains.specs.Relation.{Step}
use Rattle.rules.specs.Book.{Book, tasks, active, orders}
use Rattle.rules.specs.Requests.{Needs, take_back, unrelate, take_from, take_pair, set_table, change}
use Rattle.rules.specs.Numbers.{conflicts}
use Rattle.rules.specs.Meaning.{Symmetric, Sized, Pairs, Sound}
use Rattle.rules.proofs.BookLaws.{unchosen}
use Rattle.rules.proofs.ChangeLaws.{Held, held_holding, table_cases}
use Rattle.demands.proofs.RowChanges.{take_old, pair_old, pair_turns}
use Rattle.demands.proofs.Conflicts.{Exact}
use Rattle.demands.proofs.UnopposedKinds.{unopposed}
use Rattle.demands.proofs.Fewer.{Beside, sound_fewer}

-- Where one of tables 0 to 6 is changed, nothing else is.
pub table_beside : (d : Book) (n : ℕ) (f : ℕ → ℕ) → n < active → Beside d (set_table d n f)
table_beside d n f h = record {
  heads = refl;
  cells = refl;
  actives = unchosen f (d.row active) (eqb active n) (ne_eqb active n (λ e. omega arith));
  opened = unchosen f (d.row orders) (eqb orders n) (ne_eqb orders n (λ e. omega arith));
}

-- The pair tables of a sound book.
pub pairs_of : (d : Book) → Sound d → (n : ℕ) → n < 4 → Pairs (tasks d) (d.row n)
pairs_of d sound zero h = sound.bindings.sme
pairs_of d sound (suc zero) h = sound.bindings.dme
pairs_of d sound (suc (suc zero)) h = sound.bindings.rb
pairs_of d sound (suc (suc (suc zero))) h = sound.bindings.sb
pairs_of d sound (suc (suc (suc (suc n)))) h = absurd (omega arith)

-- A sound book stays sound where one of these tables has fewer steps, and still runs both ways if it is a pair table.
table_fewer : (d : Book) → Sound d → (n : ℕ) (f : ℕ → ℕ) → n < active → ((u v : ℕ) → Step f u v → Step (d.row n) u v)
    → (n < 4 → Symmetric (Step f)) → Sound (set_table d n f)
table_fewer d sound n f h fewer turn = sound_fewer d (set_table d n f)
    (record {
      beside = table_beside d n f h;
      steps = table_cases d n f (λ m g. (u v : ℕ) → Step g u v → Step (d.row m) u v) fewer (λ m k u v e. e);
      turns = table_cases d n f (λ m g. m < 4 → Symmetric (Step g)) turn (λ m k l. (pairs_of d sound m l).rule2);
    })
    sound

module _ (d : Book) (sound : Sound d) (a b c : ℕ) where
  -- Kinds 15 to 17: one bit is taken from a table that is no pair table.
  pub take_exact : {n : ℕ} {x y : Needs} → Held n x y → Exact d (take_back n) a b c
  unfolding change conflicts
  take_exact {n} held =
      let k = held_holding held in
      unopposed d (take_back n) a b c refl
      (table_fewer d sound n (take_from (d.row n) b a) k.below (take_old (d.row n) b a) (λ h. absurd (k.no_pairs h)))

  -- Kinds 18 to 21: both bits of a pair are.
  pub unrelate_exact : Sized d → a < 64 → b < 64 → (n : ℕ) → n < 4 → Exact d (unrelate n) a b c
  unfolding change conflicts
  unrelate_exact sized ha hb n h =
      unopposed d (unrelate n) a b c refl
      (table_fewer d sound n (take_pair (d.row n) a b) (omega arith) (pair_old (d.row n) a b)
      (λ l. pair_turns (d.row n) a b (sized.rows n) ha hb (pairs_of d sound n h).rule2))
