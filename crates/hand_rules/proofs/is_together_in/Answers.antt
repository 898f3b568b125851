-- An order without u asks nothing; one with u asks it of each group that u is the lowest of.
use mathlib.Core.Path.{◌∙◌}
use Rattle.sets.specs.Search.{all}
use Rattle.book.specs.Slice.{tables}
use Rattle.hand_rules.specs.Hands.{same_hand}
use Rattle.hand_rules.proofs.is_together_in.Goals as goal

pub returns-then-not-has : goal.returns-then-not-has
returns-then-not-has c = rw (← c.row-tasks.ensures, ← c.has.ensures, c.if-not-has.true)

pub returns : goal.returns
returns c =
    let s = c.args in
    let e = c.if-not-has.false in
    rw (← c.row-tasks.ensures, ← c.has.ensures, e)
    (c.is_together.ensures ∙ (λ i. all 64 (same_hand (tables s.book.now) s.order
    (c.from_lowest.ensures i) (c.from_lowest-2.ensures i) (c.cell.ensures i))))
