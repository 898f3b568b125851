-- Who is bound to nobody is a group alone; else the groups are handed on.
use mathlib.Core.Path.{sym, ap, ap₂, ◌∙◌}
use Prim.Native.Nat.{ℕ}
use native.Mathlib.Omega.{arith}
use Rattle.sets.proofs.MaskLaws.{zero_none}
use Rattle.sets.specs.Search.{all}
use Rattle.chains.specs.Closure.{close}
use Rattle.rules.specs.Book.{RB, SB}
use Rattle.rules.specs.Trade.{mixed}
use Rattle.rules.proofs.BookLaws.{read_sized}
use Rattle.rules.proofs.TradeLaws.{mixed_in}
use Rattle.book.specs.Slice.{words, tables}
use Rattle.trade.proofs.MixedLaws.{around}
use Rattle.hand_rules.specs.Hands.{together_in, bound_together}
use Rattle.hand_rules.proofs.TogetherLaws.{bound_alone}
use Rattle.hand_rules.proofs.is_bound_together.Goals as goal

pub returns-then-mixed_row-eq0 : goal.returns-then-mixed_row-eq0
returns-then-mixed_row-eq0 c =
    let s = c.args in
    let d = tables s.book.now in
    let sized = read_sized (words s.book.now) (λ i h. c.fits-book i) in
    let empty = sym c.mixed_row.ensures ∙ c.if-mixed_row-eq0.true in
    sym (bound_alone d sized s.u (omega arith) (λ v e. zero_none v empty (mixed_in (d.row SB) (d.row RB) s.u v e)))

pub returns : goal.returns
unfolding bound_together
returns c =
    let s = c.args in
    let d = tables s.book.now in
    let sized = read_sized (words s.book.now) (λ i h. c.fits-book i) in
    let narrow = c.subject_group-subjects.ensures in
    let wide = c.bound_with.ensures ∙ ap (close 64 (mixed d SB RB)) narrow ∙ around d sized s.u (omega arith) in
    c.is_together_with.ensures ∙ ap₂ (λ (x y : ℕ). all 64 (together_in d x y s.u)) narrow wide
