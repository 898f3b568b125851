-- The arm taken says which rule it is. Rule 10 lies above 2, so that 2 is kept.
use mathlib.Core.Path.{sym, ap, ◌∙◌}
use mathlib.Core.Bool.{not}
use native.Mathlib.Omega.{arith}
use Rattle.rules.specs.Audit.{broken}
use Rattle.rules.proofs.AuditLaws.{not_not}
use Rattle.book.specs.Slice.{tables}
use borrow.Author.Rules.{rules}
use Rattle.audit.proofs.is_broken.Goals as goal

pub are_together-requires : goal.are_together-requires
are_together-requires c = (search rules, c.requires.2 (omega (arith, c.in-10.is)))

pub is_kept-requires : goal.is_kept-requires
is_kept-requires c = (search rules, omega (arith, c.in_default.in_default-own.rest))

pub returns-in-9 : goal.returns-in-9
returns-in-9 c =
    let d = tables c.args.book.now in
    rw c.in-9.is (ap not c.are_apart.ensures ∙ sym (not_not (broken d 9)))

pub returns-in-10 : goal.returns-in-10
returns-in-10 c =
    let d = tables c.args.book.now in
    rw c.in-10.is (ap not c.are_together.ensures ∙ sym (not_not (broken d 10)))

pub returns-in_default : goal.returns-in_default
returns-in_default c =
    let s = c.args in
    ap not c.is_kept.ensures ∙ sym (not_not (broken (tables s.book.now) s.rule))
