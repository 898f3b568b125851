-- The name is read from the row's first byte on, as far as the table goes.
use Rattle.std.proofs.Common.{refl, ap, ◌∙◌, ◌+◌, ℕ}
use native.Mathlib.Omega.{arith}
use Rattle.labels.specs.Names.{sort_number}
use Rattle.labels.proofs.NameLaws.{no_thing_no_name, name_short, name_read}
use Rattle.labels.proofs.name_of.Goals as goal

pub returns-in_default : goal.returns-in_default
returns-in_default c = no_thing_no_name c.args.names.now (sort_number c.args.sort) c.args.n c.in_default.ensures

pub overflow_add-at : goal.overflow_add-at
overflow_add-at c = omega (arith, name_short c.args.names.now (sort_number c.args.sort) c.args.n, c.length_of.ensures, c.in-Some.ensures)

pub returns : goal.returns
returns c =
    let a = c.args in
    let at = c.in-Some.ensures in
    ap (λ x. x.now) c.unwrap_or.ensures
    ∙ name_read a.names.now (sort_number a.sort) a.n at.0.0 at.0.1 c.in-Some.at at.1 _ (ap (λ (k : ℕ). c.in-Some.at + k) c.length_of.ensures)
    c.get.result _ refl c.get.ensures.lookup
