-- In each round the same lies above; the last one adds nothing, so then that is the set itself. A round that adds makes the mask larger.
use mathlib.Core.Path.{◌≡◌}
use Prim.Native.Nat.{◌-◌, ◌^◌, ◌<◌}
use Rattle.book.specs.Slice.{tables}
use Rattle.owners.specs.Rising.{above, Raised}
use Rattle.owners.proofs.above.Given as goal

abbrev pub invariant-loop-more : goal.invariant-loop-more
invariant-loop-more l = (l.more < 2 ^ 64) × (above (tables l.book) l.all ≡ above (tables l.book) l.set) × Raised (tables l.book) l.all l.more

abbrev pub decreases-loop-more : goal.decreases-loop-more
decreases-loop-more l = 2 ^ 64 - l.all
