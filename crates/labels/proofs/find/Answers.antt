-- What can have no name is found nowhere; else the rows of the sort are searched.
use Rattle.std.proofs.Common.{sym, ◌∙◌, arith, ◌≡◌, None}
use borrow.Author.Rules.{rules}
use Rattle.labels.specs.Names.{sort_number}
use Rattle.labels.proofs.NameLaws.{found_sort, found_no_name, found_row}
use Rattle.labels.proofs.find.Goals as goal

pub returns-in_err-first : goal.returns-in_err-first
returns-in_err-first c =
    let e : c.from_residual.result ≡ None = search rules in
    rw e (λ l. c.in_err-first.ensures (found_sort c.args.names.now (sort_number c.args.sort) c.args.word.now l, omega arith))

pub returns-then-is_name : goal.returns-then-is_name
returns-then-is_name c =
    let name = sym c.is_name.ensures ∙ c.if-is_name.true in
    rw (sym (found_row c.args.names.now (sort_number c.args.sort) _ c.in_ok-first.first (omega arith) name (omega arith))) c.find_row.ensures

pub returns-else-is_name : goal.returns-else-is_name
returns-else-is_name c =
    let z = found_no_name c.args.names.now (sort_number c.args.sort) _ (sym c.is_name.ensures ∙ c.if-is_name.false) in
    λ l. omega arith
