-- The two rows read, joined.
use mathlib.Core.Path.{ap₂}
use lib.Bits.{bit_or}
use Rattle.trade.proofs.mixed_row.Goals as goal

pub returns : goal.returns
returns c = ap₂ bit_or c.row.ensures c.row-2.ensures
