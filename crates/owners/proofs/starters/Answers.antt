-- A role starts with itself, a subject with the roles in its row.
use mathlib.Core.Path.{sym, ap, ◌∙◌}
use Prim.Native.Nat.{ℕ}
use Rattle.sets.specs.Mask.{meet, picked}
use Rattle.rules.specs.Book.{roles_of}
use Rattle.book.specs.Slice.{tables}
use Rattle.owners.specs.Rising.{starters}
use Rattle.owners.specs.declared.Owner.{Owner}
use Rattle.owners.proofs.starters.Goals as goal

pub returns-in-Role : goal.returns-in-Role
returns-in-Role c =
    let s = c.args in
    ap (λ (w : Owner). starters (tables s.book.now) w s.set) (sym c.in-Role.is)

pub returns-in-Subject : goal.returns-in-Subject
returns-in-Subject c =
    let s = c.args in
    let d = tables s.book.now in
    c.meeting.ensures ∙ ap (λ (m : ℕ). picked (λ i. meet (d.row roles_of i) s.set) m) c.head.ensures
    ∙ ap (λ (w : Owner). starters d w s.set) (sym c.in-Subject.is)
