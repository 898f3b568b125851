-- The first step of the closure, from all members; after it the members that it added are enough.
use mathlib.Core.Path.{ap, ◌∙◌}
use lib.Bits.{bit_or}
use Rattle.chains.specs.Closure.{widen}
use Rattle.rules.specs.Trade.{mixed}
use Rattle.book.specs.Slice.{tables}
use Rattle.trade.proofs.MixedLaws.{close_none, close_still, close_on, frontier}
use borrow.Author.Rules.{rules}
use Rattle.book.specs.Tables.{number}
use Rattle.trade.proofs.spread.Goals as goal

pub returns-then-steps-eq0 : goal.returns-then-steps-eq0
returns-then-steps-eq0 c = close_none _ _ _ c.if-steps-eq0.true

pub returns-then-more-eq0 : goal.returns-then-more-eq0
unfolding widen
returns-then-more-eq0 c =
    let s = c.args in
    let step = ap (bit_or s.set) c.joined_rows.ensures in
    close_still (mixed (tables s.book.now) (number s.first) (number s.second)) s.set _ (search rules) (search rules) step s.steps
    c.if-steps-eq0.false c.if-more-eq0.true

pub grown-requires : goal.grown-requires
unfolding widen
grown-requires c =
    let s = c.args in
    let j = c.joined_rows in
    let rows = mixed (tables s.book.now) (number s.first) (number s.second) in
    frontier rows s.set _ (search rules) (search rules) (ap (bit_or s.set) j.ensures)

pub returns : goal.returns
unfolding widen
returns c =
    let s = c.args in
    let rows = mixed (tables s.book.now) (number s.first) (number s.second) in
    let step = ap (bit_or s.set) c.joined_rows.ensures in
    c.grown.ensures ∙ close_on rows s.set _ (search rules) (search rules) step s.steps c.if-steps-eq0.false c.if-more-eq0.false
