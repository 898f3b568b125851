-- No bytes are no name; of others the length and the first byte are tested, and where these allow a name all bytes.
use Rattle.std.proofs.Common.{refl, sym, ap, ◌∙◌, arith, Bool, ◌&&◌}
use Rattle.labels.specs.Names.{has_name_bytes}
use Rattle.labels.proofs.NameLaws.{name_empty, name_tested}
use Rattle.labels.proofs.is_name.Goals as goal

pub returns-in_default : goal.returns-in_default
returns-in_default c = name_empty _ (omega arith)

pub returns-then-may_be : goal.returns-then-may_be
returns-then-may_be c =
    sym (ap (λ (t : Bool). t && c.has_name_bytes.result) c.if-may_be.true)
    ∙ name_tested _ _ _ c.in-len1-up.len_at_least c.is_ascii_digit.ensures.value c.has_name_bytes.ensures

pub returns-else-may_be : goal.returns-else-may_be
returns-else-may_be c =
    c.if-may_be.false
    ∙ sym (ap (λ (t : Bool). t && has_name_bytes c.args.word.now) c.if-may_be.false)
    ∙ name_tested _ _ _ c.in-len1-up.len_at_least c.is_ascii_digit.ensures.value refl
