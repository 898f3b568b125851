use mathlib.Core.Path.{refl, sym, ◌∙◌}
use native.Mathlib.Omega.{arith}
use Rattle.decimal.proofs.DecimalLaws.{fits, known_digit, past_digit, no_digit, at_end}
use Rattle.decimal.proofs.read.Goals as goal

pub loop-byte-init : goal.loop-byte-init
loop-byte-init c = (0, sym (fits 0 (omega arith)), refl)

pub returns-then-not-is_ascii_digit : goal.returns-then-not-is_ascii_digit
returns-then-not-is_ascii_digit c =
    let l = c.loop-byte in
    let other = sym (known_digit _) ∙ sym c.is_ascii_digit.ensures.value ∙ c.if-not-is_ascii_digit.true in
    sym (no_digit _ l.byte-index (omega arith) l.invariant.0 other) ∙ l.invariant.2

pub loop-byte-preserved : goal.loop-byte-preserved
loop-byte-preserved c =
    let l = c.loop-byte in
    let digit = sym (known_digit _) ∙ sym c.is_ascii_digit.ensures.value ∙ c.if-not-is_ascii_digit.false in (
      _,
      c.put-front.ensures l.invariant.0 l.invariant.1,
      rw c.from.ensures (sym (past_digit _ l.byte-index (omega arith) l.invariant.0 digit) ∙ l.invariant.2),
    )

pub returns : goal.returns
returns c = let l = c.loop-byte in l.invariant.1 ∙ sym (at_end _ l.byte-index l.invariant.0 (omega arith)) ∙ l.invariant.2
