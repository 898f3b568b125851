-- The code's table is the rules' table, row by row: the image of the whole is computed here and compared once.
use mathlib.Core.Path.{refl, sym, ap, ◌∙◌}
use mathlib.Core.List.{map}
use Rattle.std.proofs.lemmas.Bool.{ltb-true, ltb-false}
use Rattle.std.proofs.lemmas.Option.{slice_get_read, get_or_from_slice_get}
use Rattle.rules.specs.Requests.{row_of, table, no_row}
use Rattle.rules.proofs.TableLaws.{no_kind_past}
use Rattle.ask.specs.Arguments.{asked}
use Rattle.ask.proofs.ArgumentLaws.{get_d_map}
use Rattle.ask.proofs.row_of.Goals as goal

pub returns-in-Some : goal.returns-in-Some
unfolding row_of table
returns-in-Some c =
    let found = c.in-Some.ensures.lookup in
    let read = slice_get_read (map asked table) 22 c.args.kind _ refl (ltb-true _ _ (sym found.0)) found.1 in
    sym (get_or_from_slice_get (map asked table) c.args.kind _ (asked no_row) read) ∙ get_d_map asked table c.args.kind no_row

pub returns-in-None : goal.returns-in-None
unfolding table
returns-in-None c = sym (ap asked (no_kind_past c.args.kind (ltb-false _ _ (sym c.in-None.ensures.lookup.0))))
