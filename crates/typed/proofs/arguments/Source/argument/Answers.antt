-- Each sort that is wanted is read in its own way.
use mathlib.Core.Path.{◌∙◌}
use Rattle.typed.specs.Arguments.{argument_at}
use Rattle.typed.proofs.ArgumentLaws.{want_thing}
use Rattle.typed.proofs.arguments.Source.argument.Goals as goal

pub returns-in-Unused : goal.returns-in-Unused
unfolding argument_at
returns-in-Unused c = rw c.in-Unused.is

pub returns-in-Any : goal.returns-in-Any
unfolding argument_at
returns-in-Any c = rw c.in-Any.is c.number.ensures

pub returns-in-Mask : goal.returns-in-Mask
unfolding argument_at
returns-in-Mask c = rw c.in-Mask.is c.mask.ensures

pub returns-in-Task : goal.returns-in-Task
returns-in-Task c = c.thing.ensures ∙ want_thing _ _ _ _ _ c.in-Task.is
