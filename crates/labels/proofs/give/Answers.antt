-- Each return has its law; only in one case is a row written.
use Rattle.std.proofs.Common.{sym, ◌∙◌, arith}
use Rattle.labels.proofs.NameLaws.{name_fits, kept_unless_whole, kept_unless_thing, kept_unless_name, row_put, given_row}
use Rattle.labels.proofs.give.Goals as goal

pub returns-then-names-ne-SIZE : goal.returns-then-names-ne-SIZE
returns-then-names-ne-SIZE c = kept_unless_whole _ _ _ _ c.if-names-ne-SIZE.true

pub returns-in_default : goal.returns-in_default
returns-in_default c = kept_unless_thing _ _ _ _ c.in_default.ensures

pub fill-requires : goal.fill-requires
fill-requires c = (omega arith, name_fits _ (sym c.is_name.ensures ∙ c.if-is_name.true))

pub returns-then-is_name : goal.returns-then-is_name
returns-then-is_name c =
    let a = c.in-Some.ensures in
    let name = sym c.is_name.ensures ∙ c.if-is_name.true in
    row_put _ _ _ _ c.fill.ensures ∙ given_row _ _ _ _ c.if-names-ne-SIZE.false a.0.0 _ a.0.1 name a.1

pub returns-else-is_name : goal.returns-else-is_name
returns-else-is_name c = kept_unless_name _ _ _ _ (sym c.is_name.ensures ∙ c.if-is_name.false)
