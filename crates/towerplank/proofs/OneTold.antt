-- The guarantee leaves no choice: the four words are named, and what is stored after a request is one book.
use mathlib.Core.Path.{sym, ◌∙◌}
use Rattle.desk.proofs.OneOutcome.{one_slice}
use Rattle.towerplank.specs.Told.{OneTold, OneToldAudit}

pub one_told : OneTold
one_told before after after' q four four' o o' = (o.told ∙ sym o'.told, one_slice o.stored o'.stored)

pub one_told_audit : OneToldAudit
one_told_audit l four four' e e' = e ∙ sym e'
