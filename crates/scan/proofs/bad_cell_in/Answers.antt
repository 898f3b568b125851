-- Where all cells are 0, none is bad; else they are asked one by one.
use mathlib.Core.Path.{refl, sym, ◌∙◌}
use native.Mathlib.Omega.{arith}
use Rattle.sets.proofs.SearchLaws.{lowest_end}
use Rattle.rules.proofs.WordLaws.{bad_cell_lem}
use Rattle.book.specs.Slice.{tables}
use Rattle.scan.specs.Blocks.{cell_bad}
use Rattle.scan.proofs.BadLaws.{zero_word}
use Rattle.scan.proofs.BlockLaws.{cells_none}
use Rattle.scan.proofs.bad_cell_in.Goals as goal

pub returns-then-joined_cells-eq0 : goal.returns-then-joined_cells-eq0
returns-then-joined_cells-eq0 c =
    let s = c.args in
    let d = tables s.book.now in
    let none = cells_none (d.cell s.order) 64 (omega arith) (sym c.joined_cells.ensures ∙ c.if-joined_cells-eq0.true) in
    sym (lowest_end 64 (cell_bad d s.order) (λ t h. bad_cell_lem d s.order t (omega arith) h ∙ zero_word _ refl (none t h)))
