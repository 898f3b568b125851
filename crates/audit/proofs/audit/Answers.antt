-- Each answer after those before it failed; a book without a bad word is well-formed.
use borrow.Author.Tests.{eq-eqb, ne_eqb, lt-ltb}
use Rattle.rules.specs.Numbers.{given}
use Rattle.rules.specs.Audit.{audit, audited}
use Rattle.scan.proofs.FormedLaws.{scanned}
use Rattle.audit.proofs.audit.Goals as goal

pub returns-in_default : goal.returns-in_default
unfolding audited audit given
returns-in_default c = rw (ne_eqb _ _ c.in_default.ensures.1)

pub returns-in-Some : goal.returns-in-Some
unfolding audited audit given
returns-in-Some c =
    let whole = c.in-Ok.ensures.1 in
    let bad = c.in-Some.ensures in
    rw (eq-eqb _ _ whole.long, ← whole.same, bad.1, lt-ltb _ _ bad.0)

pub lowest_broken-requires : goal.lowest_broken-requires
lowest_broken-requires c =
    let whole = c.in-Ok.ensures.1 in
    rw whole.same
    (scanned c.args.words.now whole.long (λ i h. (c.type_inv.words i).fits) (rw whole.same at c.in_default-first_bad.ensures))

pub returns-in-Some-lowest_broken : goal.returns-in-Some-lowest_broken
unfolding audited audit given
returns-in-Some-lowest_broken c =
    let whole = c.in-Ok.ensures.1 in
    let rule = c.in-Some-lowest_broken.ensures in
    rw (eq-eqb _ _ whole.long, ← whole.same, c.in_default-first_bad.ensures, rule.1, lt-ltb _ _ rule.0)

pub returns-in-None : goal.returns-in-None
unfolding audited audit given
returns-in-None c =
    let whole = c.in-Ok.ensures.1 in
    rw (eq-eqb _ _ whole.long, ← whole.same, c.in_default-first_bad.ensures, c.in-None.ensures)
