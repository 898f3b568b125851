-- The bytes are tested one by one.
use Rattle.std.proofs.Common.{◌∙◌}
use borrow.Author.Rules.{rules}
use borrow.Author.Tests.{tests}
use Rattle.std.proofs.lemmas.Iterator.{YieldsList-from_slice}
use Rattle.std.proofs.lemmas.Iterator.Search.{all_from_yields_List}
use Rattle.labels.specs.Names.{is_name_byte}
use Rattle.labels.proofs.NameLaws.{bytes_listed}
use Rattle.labels.proofs.has_name_bytes.Goals as goal

pub returns : goal.returns
returns c =
    all_from_yields_List is_name_byte _ _ c.all.result c.all.ensures.ran (YieldsList-from_slice c.args.word.now (cc)) (λ x b q k. search (rules, tests))
    ∙ bytes_listed c.args.word.now
