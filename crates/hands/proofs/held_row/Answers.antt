-- The task alone exactly where its cell has the subject.
use mathlib.Core.Path.{sym, ap, ◌∙◌}
use native.Mathlib.Numerals.{add-one}
use borrow.Author.Tests.{eq-eqb, ne_eqb}
use Rattle.sets.proofs.MaskLaws.{only_yes, only_no}
use Rattle.rules.specs.Book.{subject_in}
use Rattle.hands.proofs.held_row.Goals as goal

pub returns-then-subject_in-subject : goal.returns-then-subject_in-subject
returns-then-subject_in-subject c =
    let subject = c.args.subject in
    let its = c.subject_in.ensures ∙ ap subject_in c.cell.ensures in
    c.alone.ensures ∙ sym (only_yes _ _ (eq-eqb _ _ (sym its ∙ c.if-subject_in-subject.true ∙ add-one subject)))

pub returns-else-subject_in-subject : goal.returns-else-subject_in-subject
returns-else-subject_in-subject c =
    let subject = c.args.subject in
    let its = c.subject_in.ensures ∙ ap subject_in c.cell.ensures in
    sym (only_no _ _ (ne_eqb _ _ (λ e. c.if-subject_in-subject.false (its ∙ e ∙ sym (add-one subject)))))
