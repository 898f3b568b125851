-- The arm taken says which command the line is, and each arm does what that command says.
use mathlib.Core.Path.{refl, sym, ◌∙◌, ap}
use Rattle.replay.specs.declared.doing.Outcome.TheVariants.{Answered, Audited}
use Rattle.replay.proofs.doing.obey.Goals as goal

pub returns-in-New : goal.returns-in-New
returns-in-New c =
    rw (sym c.read.ensures ∙ c.in-New.is) (refl, c.clear.ensures)

pub returns-in-Word : goal.returns-in-Word
returns-in-Word c =
    rw (sym c.read.ensures ∙ c.in-Word.is) (refl, c.store.ensures)

pub returns-in-Request : goal.returns-in-Request
returns-in-Request c =
    rw (sym c.read.ensures ∙ c.in-Request.is) (ap Answered c.ask.ensures.value, c.ask.ensures.changed)

pub returns-in-Audit : goal.returns-in-Audit
returns-in-Audit c = rw (sym c.read.ensures ∙ c.in-Audit.is) (ap Audited c.inspect.ensures, refl)

pub returns-in-Other : goal.returns-in-Other
returns-in-Other c = rw (sym c.read.ensures ∙ c.in-Other.is) (refl, refl)
