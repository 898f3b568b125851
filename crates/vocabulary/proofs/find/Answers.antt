-- The words are tested one by one.
use Rattle.std.proofs.Common.{sym, ◌∙◌, ◌+◌, ◌*◌, ◌≡◌, true, false}
use borrow.Author.Rules.{rules}
use borrow.Author.Tests.{tests}
use Rattle.std.proofs.lemmas.Iterator.{first_from_Range}
use Rattle.text.specs.Rows.{is_row, find_row}
use Rattle.text.proofs.RowLaws.{find_range}
use Rattle.vocabulary.specs.Vocabulary.{words, rows_of, row_for, word_of}
use Rattle.vocabulary.proofs.VocabularyLaws.{known_row}
use Rattle.vocabulary.proofs.find.Goals as goal

pub returns : goal.returns
unfolding row_for find_row
returns c =
    let word = c.args.text.now in
    let fits = λ (n : _). is_row (rows_of words) (0 + n * 16) 16 word in
    find_range 32 fits c.find.result
    (first_from_Range _ _ _ c.find.result (λ n. fits n ≡ true) (λ n. fits n ≡ false) c.find.ensures.ran
    (λ x q k. let h : is_row (word_of x) 0 16 word ≡ true = search (rules, tests) in sym (known_row x word) ∙ h)
    (λ x q k. let h : is_row (word_of x) 0 16 word ≡ false = search (rules, tests) in (search rules, sym (known_row x word) ∙ h)))
