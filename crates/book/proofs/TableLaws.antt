-- A table of the code is one of the nine.
use mathlib.Core.Path.{◌≡◌, refl, sym, ap, ◌∙◌}
use Prim.Native.Nat.{ℕ, zero, suc, ◌<◌}
use native.Mathlib.Omega.{arith}
use Rattle.rules.specs.Book.{table_count}
use Rattle.std.specs.Prelude.{slice_index_or}
use Rattle.book.specs.declared.TheConstants.{TABLES}
use Rattle.book.specs.declared.Table.{Table}
use Rattle.book.specs.declared.Table.TheVariants.{Sme, Dme, Rb, Sb, Juniors, TasksOf, RolesOf, Active, Orders}
use Rattle.book.specs.Tables.{number}

pub number_lt : (t : Table) → number t < table_count
number_lt Sme = omega arith
number_lt Dme = omega arith
number_lt Rb = omega arith
number_lt Sb = omega arith
number_lt Juniors = omega arith
number_lt TasksOf = omega arith
number_lt RolesOf = omega arith
number_lt Active = omega arith
number_lt Orders = omega arith

-- All nine stand in their order.
pub table_at_place : (k : ℕ) → k < table_count → number (slice_index_or TABLES k Sme) ≡ k
table_at_place zero h = refl
table_at_place (suc zero) h = refl
table_at_place (suc (suc zero)) h = refl
table_at_place (suc (suc (suc zero))) h = refl
table_at_place (suc (suc (suc (suc zero)))) h = refl
table_at_place (suc (suc (suc (suc (suc zero))))) h = refl
table_at_place (suc (suc (suc (suc (suc (suc zero)))))) h = refl
table_at_place (suc (suc (suc (suc (suc (suc (suc zero))))))) h = refl
table_at_place (suc (suc (suc (suc (suc (suc (suc (suc zero)))))))) h = refl
table_at_place (suc (suc (suc (suc (suc (suc (suc (suc (suc k))))))))) h = absurd (omega arith)

at_number : (t : Table) → slice_index_or TABLES (number t) Sme ≡ t
at_number Sme = refl
at_number Dme = refl
at_number Rb = refl
at_number Sb = refl
at_number Juniors = refl
at_number TasksOf = refl
at_number RolesOf = refl
at_number Active = refl
at_number Orders = refl

-- No two of them have one number.
pub number_one : (t u : Table) → number t ≡ number u → t ≡ u
number_one t u e = sym (at_number t) ∙ ap (λ (k : ℕ). slice_index_or TABLES k Sme) e ∙ at_number u
