-- The code's three tables are the definition's.
use mathlib.Core.Path.{◌≡◌, refl}
use Prim.Native.Nat.{ℕ, zero, suc, ◌<◌}
use native.Mathlib.Omega.{arith}
use Rattle.std.specs.Prelude.{slice_index_or}
use Rattle.book.specs.declared.Table.TheVariants.{Sme}
use Rattle.book.specs.Tables.{number}
use Rattle.desk.specs.declared.TheConstants.{STAFF}
use Rattle.desk.specs.Tables.{staff_tables, staff_table}
use Rattle.desk.proofs.staff_table.Goals as goal

at_place : (k : ℕ) → k < 3 → number (slice_index_or STAFF k Sme) ≡ staff_table k
unfolding staff_tables staff_table
at_place zero h = refl
at_place (suc zero) h = refl
at_place (suc (suc zero)) h = refl
at_place (suc (suc (suc k))) h = absurd (omega arith)

pub returns : goal.returns
returns c = at_place c.args.place (omega arith)
