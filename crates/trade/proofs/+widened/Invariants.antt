-- One call is one step of the closure; the remaining steps fall.
use Rattle.trade.proofs.+widened.Given as goal

abbrev pub decreases-widened : goal.decreases-widened
decreases-widened l = l.steps
