-- `1 << i` is the set of i alone.
use Rattle.sets.proofs.MaskLaws.{one_shifted}
use borrow.Author.Rules.{rules}
use Rattle.sets.proofs.alone.Goals as goal

pub returns : goal.returns
returns c = one_shifted c.args.i (search rules)
