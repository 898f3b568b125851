-- The arm taken says which line it is: a request is answered by the request entry, and every other line leaves the book.
use mathlib.Core.Path.{refl}
use Rattle.panel.proofs.ActLaws.{copied_asked, acts_kept}
use Rattle.panel.proofs.acting.act.Goals as goal

pub returns-in-Ask : goal.returns-in-Ask
returns-in-Ask c = rw c.in-Ask.is (_, refl, c.request.ensures)

pub returns-in-Try : goal.returns-in-Try
returns-in-Try c =
    rw c.in-Try.is (
      refl,
      _,
      refl,
      λ same. (_, copied_asked _ _ _ _ _ (c.copy.ensures same) c.request-in-Try.ensures),
    )

pub returns-in_default : goal.returns-in_default
returns-in_default c = acts_kept _ _ c.args.line c.in_default.not-Ask c.in_default.not-Try
