-- What the search through the rows finds is the lowest bad one.
use mathlib.Core.Path.{◌≡◌}
use mathlib.Core.Bool.{true, false}
use Rattle.std.proofs.Common.{rules}
use Rattle.std.proofs.lemmas.Iterator.{first_from_Range}
use Rattle.book.specs.Tables.{number}
use Rattle.book.specs.Slice.{tables}
use Rattle.scan.specs.Blocks.{mask_bad}
use Rattle.scan.proofs.BlockLaws.{found_lowest}
use Rattle.scan.proofs.bad_mask_in.Goals as goal

pub returns : goal.returns
returns c =
    let s = c.args in
    let f = mask_bad (tables s.book.now) (number s.table) s.owners s.known in
    found_lowest f _
    (first_from_Range _ _ _ _ (λ i. f i ≡ true) (λ i. f i ≡ false) c.find.ensures.ran (λ x q e. search rules) (λ x q e. (search rules, search rules)))
