-- Asked, or only tried.
use Rattle.typed.specs.Grammar.{asked}
use Rattle.typed.proofs.ask.Goals as goal

pub returns-then-trial : goal.returns-then-trial
unfolding asked
returns-then-trial c = rw (asked, c.if-trial.true)

pub returns : goal.returns
unfolding asked
returns c = rw (asked, c.if-trial.false)
