-- The letters are tested one by one, as far as the row goes.
use Rattle.std.proofs.Common.{refl, arith, ◌∙◌, ◌+◌}
use lib.Dec.{eqb}
use borrow.Author.Rules.{rules}
use borrow.Author.Tests.{tests}
use Rattle.std.proofs.lemmas.Iterator.{YieldsList-from_range}
use Rattle.std.proofs.lemmas.Iterator.Search.{all_from_yields_List}
use Rattle.text.specs.Rows.{letter_at, same_letters}
use Rattle.text.proofs.RowLaws.{all_range}
use Rattle.text.proofs.same_letters.Goals as goal

pub returns : goal.returns
unfolding same_letters
returns c =
    let s = c.args in
    let same = λ (i : _). eqb (letter_at s.rows.now (s.start + i)) (letter_at s.word.now i) in
    all_from_yields_List same _ _ c.all.result c.all.ensures.ran (YieldsList-from_range 0 s.width s.width refl (omega arith)) (λ x b q k. search (rules, tests))
    ∙ all_range s.width same
