-- Each answer from what has been read by then.
use mathlib.Core.Path.{sym, ◌∙◌}
use Rattle.book.specs.Tables.{number}
use Rattle.book.specs.Slice.{tables}
use Rattle.pairs.proofs.PairAnswers.{pair_set, pair_free_lem}
use Rattle.pairs.proofs.pair_refusal.Goals as goal

pub returns-then-is_in_row : goal.returns-then-is_in_row
returns-then-is_in_row c =
    let s = c.args in
    pair_set (tables s.book.now) (number s.table) s.a s.b 0 (sym c.is_in_row.ensures ∙ c.if-is_in_row.true)

pub returns : goal.returns
returns c =
    let s = c.args in
    pair_free_lem (tables s.book.now) (number s.table) s.a s.b 0 (sym c.is_in_row.ensures ∙ c.if-is_in_row.false)
    c.open_refusal.ensures
