use mathlib.Core.Path.{sym, ap, ◌∙◌}
use mathlib.Core.Bool.{not}
use Prim.Native.Nat.{ℕ}
use native.Mathlib.Omega.{arith}
use lib.Dec.{eqb}
use borrow.Author.Tests.{eq-eqb, ne_eqb}
use Rattle.sets.proofs.SearchLaws.{search_on, search_at, search_out}
use Rattle.rules.specs.Requests.{is_open}
use Rattle.book.specs.Slice.{tables}
use Rattle.search.proofs.lowest_open.Goals as goal

pub returns-then-row-ne0 : goal.returns-then-row-ne0
unfolding is_open
returns-then-row-ne0 c =
    let d = tables c.args.book.now in
    let opened = ap (λ (m : ℕ). not (eqb m 0)) (sym c.row.ensures) ∙ ap not (ne_eqb _ 0 c.if-row-ne0.true) in
    (omega arith, sym (search_at (is_open d) (omega arith) c.loop-p.invariant.1 opened))

pub loop-p-preserved : goal.loop-p-preserved
unfolding is_open
loop-p-preserved c =
    let d = tables c.args.book.now in
    let shut = ap (λ (m : ℕ). not (eqb m 0)) (sym c.row.ensures) ∙ ap not (eq-eqb _ 0 c.if-row-ne0.false) in
    (omega arith, search_on (is_open d) (omega arith) c.loop-p.invariant.1 shut)

pub returns : goal.returns
returns c = sym (search_out (is_open (tables c.args.book.now)) (omega arith) (omega arith) c.loop-p.invariant.1)
