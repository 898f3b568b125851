-- The arm taken says which table it is; a table that is none of the four is refused.
use Rattle.book.specs.declared.Table.TheVariants.{Sme, Dme, Rb, Sb}
use Rattle.book.specs.Tables.{number}
use Rattle.book.specs.Slice.{tables}
use Rattle.rules.specs.Numbers.{by_table, pair_conflicts}
use Rattle.book.proofs.TableLaws.{number_one}
use Rattle.deeds.proofs.ConflictLaws.{unlisted_told}
use Rattle.pairs.proofs.pair_conflict.Goals as goal

pub returns-in-Sme : goal.returns-in-Sme
unfolding pair_conflicts by_table
returns-in-Sme c = rw c.in-Sme.is c.sme_conflict.ensures

pub returns-in-Dme : goal.returns-in-Dme
unfolding pair_conflicts by_table
returns-in-Dme c = rw c.in-Dme.is c.dme_conflict.ensures

pub returns-in-Rb : goal.returns-in-Rb
unfolding pair_conflicts by_table
returns-in-Rb c = rw c.in-Rb.is c.rb_conflict.ensures

pub returns-in-Sb : goal.returns-in-Sb
unfolding pair_conflicts by_table
returns-in-Sb c = rw c.in-Sb.is c.sb_conflict.ensures

pub returns-in_default : goal.returns-in_default
unfolding pair_conflicts
returns-in_default c =
    let s = c.args in
    let other = c.in_default in
    let one = number_one s.table in
    unlisted_told _ (tables s.book.now) (number s.table) s.a s.b
    (λ e. other.not-Sme (one Sme e), (λ e. other.not-Dme (one Dme e), (λ e. other.not-Rb (one Rb e), (λ e. other.not-Sb (one Sb e), tt))))
