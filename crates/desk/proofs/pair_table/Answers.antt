-- The first four of the nine are the tables of pairs.
use native.Mathlib.Omega.{arith}
use Rattle.book.proofs.TableLaws.{table_at_place}
use Rattle.desk.proofs.pair_table.Goals as goal

pub returns : goal.returns
returns c = table_at_place c.args.place (omega arith)
