-- The name is the first byte, where a space stands behind it or nothing.
use Rattle.std.proofs.Common.{sym, ◌∙◌}
use Rattle.stream.proofs.StreamLaws.{cut_off, blank, in_front, two_bytes}
use Rattle.stream.proofs.read.Goals as goal

pub returns-then-not-whole : goal.returns-then-not-whole
returns-then-not-whole c = sym (cut_off _ _ _ c.if-not-whole.true)

pub returns-in_default : goal.returns-in_default
returns-in_default c = sym (blank _ _ _ c.if-not-whole.false c.in_default.ensures.cases)

pub returns-then-not-is_parted : goal.returns-then-not-is_parted
returns-then-not-is_parted c =
    sym (two_bytes _ _ _ _ _ c.in-Some.ensures.cases.0 c.if-not-whole.false (sym c.if-not-is_parted.true ∙ c.is_parted.ensures))

pub returns : goal.returns
returns c =
    c.unwrap_or.ensures
    ∙ c.named.ensures
    ∙ sym (in_front _ _ _ _ _ c.in-Some.ensures.cases.0 c.if-not-whole.false (sym c.if-not-is_parted.false ∙ c.is_parted.ensures))
