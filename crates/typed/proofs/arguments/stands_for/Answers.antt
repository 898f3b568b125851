-- A name of the sort, or a number.
use mathlib.Core.Path.{◌∙◌}
use Rattle.typed.proofs.ArgumentLaws.{by_name, by_number_lem}
use Rattle.typed.proofs.arguments.stands_for.Goals as goal

pub returns-then-has_names-is_name : goal.returns-then-has_names-is_name
returns-then-has_names-is_name c = c.called.ensures ∙ by_name _ _ _ _ _ c.has_names.ensures c.is_name.ensures c.if-has_names-is_name.true

pub returns : goal.returns
returns c = c.counted.ensures ∙ by_number_lem _ _ _ _ _ c.has_names.ensures c.is_name.ensures c.if-has_names-is_name.false
