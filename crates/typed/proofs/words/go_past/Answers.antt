use mathlib.Core.Path.{refl, sym, ◌∙◌}
use native.Mathlib.Omega.{arith}
use Rattle.typed.proofs.WordLaws.{past_on, past_stops, past_out}
use borrow.Author.Rules.{rules}
use mathlib.Core.Path.{◌≡◌}
use lib.ListN.{length}
use Rattle.typed.proofs.words.go_past.Goals as goal

pub loop-i-init : goal.loop-i-init
loop-i-init c = (omega arith, search rules, refl, refl)

pub returns-then-not-is_of : goal.returns-then-not-is_of
returns-then-not-is_of c =
    let l = c.loop-i in
    let other = sym c.is_of.ensures ∙ c.if-not-is_of.true in
    (sym (past_stops _ l.i _ (omega arith) refl _ other) ∙ l.invariant.3, l.invariant.0, l.invariant.1)

pub loop-i-preserved : goal.loop-i-preserved
loop-i-preserved c =
    let l = c.loop-i in
    let same = sym c.is_of.ensures ∙ c.if-not-is_of.false in
    (omega arith, omega arith, l.invariant.2, sym (past_on _ l.i _ (omega arith) refl _ same) ∙ l.invariant.3)

pub returns : goal.returns
returns c =
    let l = c.loop-i in
    let last : l.i ≡ length c.args.line.now = omega arith in
    (sym last ∙ sym (past_out _ l.i _ (omega arith)) ∙ l.invariant.3, omega arith, omega arith)
