-- The arguments of each kind suit what the table asks: computed.
use mathlib.Core.Path.{refl}
use Rattle.sets.specs.Search.{all}
use Rattle.rules.specs.Computed.{computed}
use Rattle.typed.specs.Arguments.{wanted}
use Rattle.panel.specs.Suits.{same_sort, suits, kind_suits, kind_count, EachSuits}

pub each_suits : EachSuits
unfolding computed all wanted same_sort suits kind_suits kind_count
each_suits = refl
