-- The four tables in the definition's order: what the closure answers of each is what the rule asks in it.
use mathlib.Core.Path.{ap₂}
use mathlib.Core.Bool.{◌&&◌}
use Rattle.book.specs.declared.Table.TheVariants.{Sme, Dme, Rb, Sb}
use Rattle.table_rules.proofs.is_kept_in_four.Goals as goal

pub returns : goal.returns
returns g c d rule t asks =
    ap₂ ◌&&◌ (asks Sme _ c.is_kept_in.ensures)
    (ap₂ ◌&&◌ (asks Dme _ c.is_kept_in-2.ensures) (ap₂ ◌&&◌ (asks Rb _ c.is_kept_in-3.ensures) (asks Sb _ c.is_kept_in-4.ensures)))
