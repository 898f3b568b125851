-- Each row is the sort of the definition.
use mathlib.Core.Path.{refl, ◌∙◌}
use native.Mathlib.Omega.{arith}
use Rattle.std.proofs.Common.{◌≡◌, None}
use borrow.Author.Rules.{rules}
use Rattle.typed.specs.Grammar.{sort_at}
use Rattle.typed.proofs.GrammarLaws.{sort_of_row, person_row, no_row}
use Rattle.typed.proofs.sort_of.Goals as goal

pub returns-in_err-find_row : goal.returns-in_err-find_row
returns-in_err-find_row c =
    let e : c.from_residual.result ≡ None = search rules in
    let n = c.in_err-find_row.ensures in e ∙ no_row _ (omega arith) ∙ sort_of_row c.args.word.now _ refl

pub returns-in-0 : goal.returns-in-0
unfolding sort_at
returns-in-0 c = let a = c.in_ok-find_row.ensures in sort_of_row c.args.word.now 0 (omega arith)

pub returns-in-1 : goal.returns-in-1
unfolding sort_at
returns-in-1 c = let a = c.in_ok-find_row.ensures in sort_of_row c.args.word.now 1 (omega arith)

pub returns-in-3 : goal.returns-in-3
unfolding sort_at
returns-in-3 c = let a = c.in_ok-find_row.ensures in sort_of_row c.args.word.now 3 (omega arith)

pub returns-in_default : goal.returns-in_default
returns-in_default c =
    let a = c.in_ok-find_row.ensures in
    person_row c.in_ok-find_row.field-0 (λ h. omega arith) (λ h. omega arith) (λ h. omega arith) (omega arith) ∙ sort_of_row c.args.word.now _ a.1
