-- The first blank, or the end of the row, is where the name ends.
use Rattle.std.proofs.Common.{◌∙◌, ◌≡◌}
use borrow.Author.Rules.{rules}
use borrow.Author.Tests.{tests}
use Rattle.std.proofs.lemmas.Iterator.{first_from_Range}
use Rattle.labels.specs.Names.{sort_number, name_letter}
use Rattle.labels.proofs.NameLaws.{first_blank}
use Rattle.labels.proofs.length_of.Goals as goal

pub returns : goal.returns
returns c =
    let a = c.args in
    let letter = name_letter a.names.now (sort_number a.sort) a.n in
    c.unwrap_or.ensures
    ∙ first_blank a.names.now (sort_number a.sort) a.n c.find.result
    (first_from_Range _ _ _ c.find.result (λ k. letter k ≡ 32) (λ k. letter k ≡ 32 → ⊥) c.find.ensures.ran
    (λ x q k. search (rules, tests)) (λ x q k. search (rules, tests)))
