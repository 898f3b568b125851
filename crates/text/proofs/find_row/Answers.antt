-- The rows are tested one by one.
use Rattle.std.proofs.Common.{◌+◌, ◌*◌, ◌≡◌, true, false}
use borrow.Author.Rules.{rules}
use borrow.Author.Tests.{tests}
use Rattle.std.proofs.lemmas.Iterator.{first_from_Range}
use Rattle.text.specs.Rows.{is_row, find_row}
use Rattle.text.proofs.RowLaws.{find_range}
use Rattle.text.proofs.find_row.Goals as goal

pub returns : goal.returns
unfolding find_row
returns c =
    let s = c.args in
    let fits = λ (n : _). is_row s.rows.now (s.first + n * s.width) s.width s.word.now in
    find_range s.count fits c.find.result
    (first_from_Range _ _ _ c.find.result (λ n. fits n ≡ true) (λ n. fits n ≡ false) c.find.ensures.ran
    (λ x q k. search (rules, tests)) (λ x q k. search (rules, tests)))
