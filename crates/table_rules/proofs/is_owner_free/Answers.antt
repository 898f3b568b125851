-- What is owned holds no SME pair.
use mathlib.Core.Path.{ap, ◌∙◌}
use Rattle.rules.specs.Book.{SME}
use Rattle.rules.specs.Trade.{owned_tasks}
use Rattle.rules.specs.Audit.{pair_free, owner_free}
use Rattle.book.specs.Slice.{tables}
use Rattle.table_rules.proofs.is_owner_free.Goals as goal

pub returns : goal.returns
unfolding owner_free
returns c =
    let d = tables c.args.book.now in
    c.is_pair_free.ensures ∙ ap (pair_free (d.row SME))
    (c.owned_tasks-owned.ensures ∙ ap (owned_tasks d) c.start_of.ensures)
