-- The first word is `tasks`, or a number.
use mathlib.Core.Path.{sym, ◌∙◌}
use Rattle.typed.proofs.WordLaws.{passed_up}
use Rattle.typed.proofs.ArgumentLaws.{mask_number, mask_listed, mask_bad_lem}
use Rattle.typed.proofs.arguments.Source.mask.Goals as goal

pub returns-then-not-is_tasks : goal.returns-then-not-is_tasks
returns-then-not-is_tasks c =
    c.thing.ensures ∙ mask_number _ _ _ _ _ c.next-word.ensures.0 _ c.is_tasks.ensures c.if-not-is_tasks.true

pub returns-in_err-thing : goal.returns-in_err-thing
returns-in_err-thing c =
    passed_up _ c.from_residual.ensures.1
    ∙ mask_bad_lem _ _ _ _ _ c.next-word.ensures.0 _ c.is_tasks.ensures c.if-not-is_tasks.false _ (sym c.in_err-thing.ensures)

pub returns : goal.returns
returns c =
    c.tasks_from.ensures
    ∙ mask_listed _ _ _ _ _ c.next-word.ensures.0 _ c.is_tasks.ensures c.if-not-is_tasks.false _ _ (sym c.in_ok-thing.ensures)
