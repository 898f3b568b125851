-- A set has as many members as its mask has one bits, and no more than 64.
use mathlib.Core.Path.{sym}
use native.Mathlib.Omega.{arith}
use lib.Count.{ones-le}
use Rattle.sets.proofs.CountLaws.{count_ones}
use borrow.Author.Rules.{rules}
use Rattle.sets.proofs.count.Goals as goal

pub overflow_cast-result : goal.overflow_cast-result
overflow_cast-result c = record { fits = omega (arith, ones-le 64 c.args.set (search rules)) }

pub returns : goal.returns
returns c = sym (count_ones 64 c.args.set (search rules))
