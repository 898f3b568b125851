-- Who starts with a role above b and with one that owns a clashing task has a clash; the lowest of them is the one, and all that it owns of the
-- clashing tasks is the clash.
use mathlib.Core.Path.{◌≡◌, sym, ap, ap₂, ◌∙◌}
use mathlib.Core.Bool.{Bool}
use Prim.Native.Nat.{ℕ, ◌^◌, ◌<◌}
use native.Mathlib.Omega.{arith}
use lib.Bits.{bit_and}
use Rattle.sets.specs.Mask.{meet, picked}
use Rattle.sets.specs.Search.{lowest}
use Rattle.sets.proofs.SearchLaws.{lowest_passes}
use Rattle.rules.specs.Book.{SME}
use Rattle.rules.specs.Trade.{owned_tasks}
use Rattle.rules.proofs.BookLaws.{read_sized}
use Rattle.book.specs.Slice.{words, tables}
use Rattle.owners.specs.Owners.{clashes_below}
use Rattle.owners.specs.Rising.{above, owners_of, all_clashing, starts_in_both}
use Rattle.owners.proofs.ClashLaws.{clash_at}
use Rattle.owners.proofs.RisingLaws.{no_clashing, no_holders, no_owner, first_owner, whole_clash_lem}
use borrow.Author.Rules.{rules}
use Rattle.owners.proofs.first_clash.Goals as goal

pub returns-then-all_clashing-eq0 : goal.returns-then-all_clashing-eq0
returns-then-all_clashing-eq0 c =
    let s = c.args in
    let d = tables s.book.now in
    let sized = read_sized (words s.book.now) (λ i h. c.fits-book i) in
    no_clashing d sized c.requires.0.1 s.owner s.b s.gain (omega arith) (search rules)
    (sym (c.meeting-all_clashing.ensures ∙ ap (λ (m : ℕ). picked (λ t. meet (d.row SME t) s.gain) m) c.head.ensures) ∙ c.if-all_clashing-eq0.true)

pub returns-then-holders-eq0 : goal.returns-then-holders-eq0
returns-then-holders-eq0 c =
    let s = c.args in
    let d = tables s.book.now in
    let sized = read_sized (words s.book.now) (λ i h. c.fits-book i) in
    let some = c.meeting-all_clashing.ensures
    ∙ ap (λ (m : ℕ). picked (λ t. meet (d.row SME t) s.gain) m) c.head.ensures in
    no_holders d sized c.requires.0.1 s.owner s.b s.gain (omega arith) (search rules)
    (sym (c.owners_of-holders.ensures ∙ ap (owners_of d) some) ∙ c.if-holders-eq0.true)

pub returns-in_err-o : goal.returns-in_err-o
returns-in_err-o c =
    let s = c.args in
    let d = tables s.book.now in
    let sized = read_sized (words s.book.now) (λ i h. c.fits-book i) in
    let some = c.meeting-all_clashing.ensures ∙ ap (λ (x : ℕ). picked (λ t. meet (d.row SME t) s.gain) x) c.head.ensures in
    let up = c.above.ensures ∙ ap (above d) c.alone.ensures in
    c.from_residual.ensures
    ∙ no_owner d sized c.requires.0.1 s.owner s.b s.gain (omega arith) (search rules)
    (rw (up, c.owners_of-holders.ensures ∙ ap (owners_of d) some) at c.in_err-o.ensures)

pub returns : goal.returns
returns c =
    let s = c.args in
    let d = tables s.book.now in
    let sized = read_sized (words s.book.now) (λ i h. c.fits-book i) in
    let some = c.meeting-all_clashing.ensures ∙ ap (λ (x : ℕ). picked (λ t. meet (d.row SME t) s.gain) x) c.head.ensures in
    let up = c.above.ensures ∙ ap (above d) c.alone.ensures in
    let o = c.in_ok-o.o in
    let l : o < 64 = c.in_ok-o.ensures.0 in
    let starts : ℕ → Bool = starts_in_both d s.owner (above d (2 ^ s.b)) (owners_of d (all_clashing d s.gain)) in
    let at : lowest starts ≡ o = rw (up, c.owners_of-holders.ensures ∙ ap (owners_of d) some) at c.in_ok-o.ensures.1 in
    let holds = ap starts (sym at) ∙ lowest_passes 64 0 starts (omega (arith, at)) in
    clash_at (clashes_below d s.owner s.b s.gain) o _ l
    (sym at ∙ first_owner d sized c.requires.0.1 s.owner s.b s.gain (omega arith) (search rules))
    (ap₂ bit_and (c.owned_tasks-owned.ensures ∙ ap (owned_tasks d) c.start_of.ensures) some
    ∙ whole_clash_lem d sized c.requires.0.1 s.owner s.b s.gain (omega arith) (search rules) o l holds)
