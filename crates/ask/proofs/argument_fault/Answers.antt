-- The first that does not fit, in the order a, b, c, from what has been read by then.
use mathlib.Core.Path.{ap}
use mathlib.Core.Bool.{not}
use native.Mathlib.Omega.{arith}
use Rattle.book.specs.Slice.{tables}
use Rattle.ask.proofs.ArgumentLaws.{first_at_fault, second_at_fault, third_at_fault, none_at_fault}
use Rattle.ask.proofs.argument_fault.Goals as goal

pub returns-then-not-is_fit : goal.returns-then-not-is_fit
returns-then-not-is_fit c =
    let s = c.args in (
      omega arith,
      first_at_fault (tables s.book.now) s.kind s.a s.b s.c c.row_of-first.ensures
          c.is_fit.ensures (ap not c.if-not-is_fit.true),
    )

pub returns-then-not-is_fit-2 : goal.returns-then-not-is_fit-2
returns-then-not-is_fit-2 c =
    let s = c.args in (
      omega arith,
      second_at_fault (tables s.book.now) s.kind s.a s.b s.c c.row_of-first.ensures
          c.is_fit.ensures (ap not c.if-not-is_fit.false)
          c.is_fit-2.ensures (ap not c.if-not-is_fit-2.true),
    )

pub returns-then-not-is_fit-3 : goal.returns-then-not-is_fit-3
returns-then-not-is_fit-3 c =
    let s = c.args in (
      omega arith,
      third_at_fault (tables s.book.now) s.kind s.a s.b s.c c.row_of-first.ensures
          c.is_fit.ensures (ap not c.if-not-is_fit.false)
          c.is_fit-2.ensures (ap not c.if-not-is_fit-2.false)
          c.is_fit-3.ensures (ap not c.if-not-is_fit-3.true),
    )

pub returns : goal.returns
returns c =
    let s = c.args in
    none_at_fault (tables s.book.now) s.kind s.a s.b s.c c.row_of-first.ensures
    c.is_fit.ensures (ap not c.if-not-is_fit.false)
    c.is_fit-2.ensures (ap not c.if-not-is_fit-2.false)
    c.is_fit-3.ensures (ap not c.if-not-is_fit-3.false)
