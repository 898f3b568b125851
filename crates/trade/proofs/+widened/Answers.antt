use mathlib.Core.Path.{ap, ◌∙◌}
use native.Mathlib.Omega.{arith}
use lib.Bits.{bit_or}
use Rattle.book.specs.Slice.{words}
use Rattle.trade.proofs.MixedLaws.{close_none, close_still, close_on, frontier}
use borrow.Author.Rules.{rules}
use Rattle.trade.proofs.+widened.Goals as goal

pub returns-then-steps-eq0 : goal.returns-then-steps-eq0
returns-then-steps-eq0 t c = close_none _ _ _ c.if-steps-eq0.true

pub returns-then-more-eq0 : goal.returns-then-more-eq0
returns-then-more-eq0 t c =
    let s = c.args in
    let step = ap (bit_or s.set) c.joined_of.ensures ∙ c.requires in
    close_still (words s.rows.now) s.set _ (search rules) (search rules) step s.steps c.if-steps-eq0.false c.if-more-eq0.true

pub widened-requires : goal.widened-requires
widened-requires t c =
    let s = c.args in
    let j = c.joined_of in
    let step = ap (bit_or s.set) j.ensures ∙ c.requires in
    (omega (arith, c.decreases), frontier (words s.rows.now) s.set _ (search rules) (search rules) step)

pub returns : goal.returns
returns t c =
    let s = c.args in
    let step = ap (bit_or s.set) c.joined_of.ensures ∙ c.requires in
    c.widened.ensures
    ∙ close_on (words s.rows.now) s.set _ (search rules) (search rules) step s.steps c.if-steps-eq0.false c.if-more-eq0.false
