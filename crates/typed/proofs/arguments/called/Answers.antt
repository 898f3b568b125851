-- What is found stands for the thing; where nothing is, the name is unknown.
use mathlib.Core.Path.{◌∙◌}
use Rattle.typed.proofs.ArgumentLaws.{called_found}
use Rattle.typed.proofs.arguments.called.Goals as goal

pub returns : goal.returns
returns c = c.ok_or.ensures.value ∙ called_found _ _ _ _ c.find.ensures
