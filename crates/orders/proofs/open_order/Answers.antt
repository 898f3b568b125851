-- Refused where the order has a mask; else it is opened.
use mathlib.Core.Path.{◌≡◌, refl, sym, ap, ◌∙◌}
use mathlib.Core.Bool.{true, false, not}
use native.Mathlib.Omega.{arith}
use borrow.Author.Tests.{eq-eqb, ne_eqb}
use Rattle.rules.specs.Requests.{open_order, is_open, change}
use Rattle.rules.specs.Numbers.{accepted, state_refusal, conflicts, first_of}
use Rattle.book.specs.Slice.{tables, Full}
use Rattle.answers.specs.declared.Refusal.TheVariants.{AlreadySet}
use Rattle.deeds.proofs.OutcomeLaws.{decide_refused, decide_conflict, settled_kept, settled_changed}
use Rattle.deeds.proofs.CascadeLaws.{given_yes, given_no}
use Rattle.orders.proofs.open_order.Goals as goal

pub returns-then-row-ne0 : goal.returns-then-row-ne0
unfolding state_refusal is_open
returns-then-row-ne0 c =
    let s = c.args in
    let d = tables s.book.now in
    let mask = c.row.ensures in
    let full : Full s.book.now = omega arith in
    let is_set : is_open d s.a ≡ true = ap not (ne_eqb _ 0 (λ z. c.if-row-ne0.true (mask ∙ z))) in
    settled_kept (decide_refused d open_order s.a 0 s.c AlreadySet (given_yes _ _ accepted is_set)) full

pub returns : goal.returns
unfolding state_refusal is_open conflicts first_of change
returns c =
    let s = c.args in
    let d = tables s.book.now in
    let mask = c.row.ensures in
    let unset : is_open d s.a ≡ false = ap not (eq-eqb _ 0 (sym mask ∙ c.if-row-ne0.false)) in
    let stored = c.set_order.ensures in
    settled_changed (decide_conflict d open_order s.a 0 s.c (given_no _ _ _ unset refl) refl) stored.0 stored.1
