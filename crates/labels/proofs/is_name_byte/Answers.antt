use Rattle.labels.proofs.NameLaws.{name_byte}
use Rattle.labels.proofs.is_name_byte.Goals as goal

pub returns : goal.returns
returns c = rw c.is_ascii_alphanumeric.ensures.value (name_byte _)
