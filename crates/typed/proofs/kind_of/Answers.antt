-- What is no word of the panel names no kind.
use native.Mathlib.Omega.{arith}
use Rattle.std.proofs.Common.{◌≡◌, None}
use borrow.Author.Rules.{rules}
use Rattle.vocabulary.specs.Vocabulary.{row_for}
use Rattle.vocabulary.proofs.VocabularyLaws.{names_no_row}
use Rattle.typed.proofs.kind_of.Goals as goal

pub returns-in_err-find : goal.returns-in_err-find
returns-in_err-find c =
    let e : c.from_residual.result ≡ None = search rules in
    let n = c.in_err-find.ensures in
    let z = names_no_row (row_for c.args.word.now) (omega arith) in
    rw e (λ l. omega arith)
