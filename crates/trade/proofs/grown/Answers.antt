-- One more step along the rows of the book, from the fresh members; what it adds is followed along the same rows, laid side by side.
use mathlib.Core.Path.{sym, ap, ◌∙◌}
use lib.Bits.{bit_or}
use Rattle.rules.specs.Trade.{mixed}
use Rattle.book.specs.Slice.{words, tables}
use Rattle.trade.proofs.MixedLaws.{widen_same, close_same, close_none, close_still, close_on, frontier}
use borrow.Author.Rules.{rules}
use Rattle.book.specs.Tables.{number}
use Rattle.trade.proofs.grown.Goals as goal

pub returns-then-steps-eq0 : goal.returns-then-steps-eq0
returns-then-steps-eq0 c = close_none _ _ _ c.if-steps-eq0.true

pub returns-then-more-eq0 : goal.returns-then-more-eq0
returns-then-more-eq0 c =
    let s = c.args in
    let step = ap (bit_or s.set) c.joined_rows.ensures ∙ c.requires in
    close_still (mixed (tables s.book.now) (number s.first) (number s.second)) s.set _ (search rules) (search rules) step s.steps
    c.if-steps-eq0.false c.if-more-eq0.true

pub widened-requires : goal.widened-requires
widened-requires c =
    let s = c.args in
    let j = c.joined_rows in
    let laid = c.mixed_rows-rows in
    let rows = mixed (tables s.book.now) (number s.first) (number s.second) in
    let step = ap (bit_or s.set) j.ensures ∙ c.requires ∙ sym (widen_same (words laid.result) rows laid.ensures s.set) in
    frontier (words laid.result) s.set _ (search rules) (search rules) step

pub returns : goal.returns
returns c =
    let s = c.args in
    let laid = c.mixed_rows-rows in
    let rows = mixed (tables s.book.now) (number s.first) (number s.second) in
    let step = ap (bit_or s.set) c.joined_rows.ensures ∙ c.requires in
    c.widened.ensures
    ∙ close_same (words laid.result) rows laid.ensures _ _
    ∙ close_on rows s.set _ (search rules) (search rules) step s.steps
    c.if-steps-eq0.false c.if-more-eq0.false
