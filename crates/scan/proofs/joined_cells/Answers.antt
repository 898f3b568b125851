use mathlib.Core.Path.{◌≡◌, refl, ap, ◌∙◌}
use Prim.Native.Nat.{ℕ, ◌-◌, ◌^◌}
use native.Mathlib.Omega.{arith}
use Rattle.sets.specs.Mask.{joined}
use Rattle.book.specs.Slice.{tables}
use Rattle.scan.proofs.BlockLaws.{cells_on}
use Rattle.scan.proofs.joined_cells.Goals as goal

pub loop-t-init : goal.loop-t-init
unfolding joined
loop-t-init c = (omega arith, refl)

pub loop-t-preserved : goal.loop-t-preserved
loop-t-preserved c =
    let s = c.args in
    let l = c.loop-t in
    (omega arith, cells_on ((tables s.book.now).cell s.order) l.t (omega arith) l.invariant.1 c.cell-any.ensures)

pub returns : goal.returns
returns c =
    let s = c.args in
    let l = c.loop-t in
    let whole : l.t ≡ 64 = omega (arith, l.invariant.0) in
    l.invariant.1 ∙ ap (λ (n : ℕ). joined n ((tables s.book.now).cell s.order) (2 ^ 64 - 1 - 0)) whole
