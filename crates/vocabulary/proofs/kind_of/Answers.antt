-- Each arm of the match is a range of rows.
use native.Mathlib.Omega.{arith}
use Rattle.vocabulary.proofs.VocabularyLaws.{names_own, names_none, names_again, names_person, names_no_row}
use Rattle.vocabulary.proofs.kind_of.Goals as goal

pub returns-in-10 : goal.returns-in-10
returns-in-10 c = let e = names_person c.args.row c.in-10.is in (omega arith, e)

pub returns-in-6-to-9 : goal.returns-in-6-to-9
returns-in-6-to-9 c = let e = names_again c.args.row (omega arith) (omega arith) in (omega arith, e)

pub returns-in-11-to-31 : goal.returns-in-11-to-31
returns-in-11-to-31 c = let e = names_own c.args.row (omega arith) (omega arith) in (omega arith, e)

pub returns-in_default : goal.returns-in_default
returns-in_default c = let e = names_none c.args.row (omega arith) in λ l. omega arith

pub returns-in_default-2 : goal.returns-in_default-2
returns-in_default-2 c = let e = names_no_row c.args.row (omega (arith, c.in_default.in_default-own.rest)) in λ l. omega arith
