-- An empty row meets no group; else the group is made.
use mathlib.Core.Path.{sym, ◌∙◌}
use Rattle.rules.specs.Audit.{apart}
use Rattle.book.specs.Tables.{number}
use Rattle.book.specs.Slice.{tables}
use Rattle.audit.proofs.UndefinedLaws.{apart_none}
use Rattle.audit.proofs.is_apart_from.Goals as goal

pub returns-then-row-eq0 : goal.returns-then-row-eq0
returns-then-row-eq0 g c groups told =
    let s = c.args in
    sym (apart_none ((tables s.book.now).row (number s.table)) s.x (sym c.row.ensures ∙ c.if-row-eq0.true) groups)

pub returns : goal.returns
unfolding apart
returns g c groups told = rw (← told c.group.result c.group.ensures) c.is_apart.ensures
