-- The lowest role that owns both, else the lowest subject: who starts with an owner of each.
use native.Mathlib.Omega.{arith}
use Rattle.std.specs.Prelude.{Some, None}
use Rattle.rules.proofs.BookLaws.{read_sized}
use Rattle.book.specs.Slice.{words, tables}
use Rattle.owners.specs.declared.Owner.TheVariants.{Role, Subject}
use Rattle.owners.proofs.RisingLaws.{both_found}
use Rattle.exclusions.proofs.ExclusionLaws.{role_owns_both_lem, subject_owns_both_lem, none_owns_both}
use Rattle.exclusions.proofs.owned_together.Goals as goal

pub returns-in-Some : goal.returns-in-Some
returns-in-Some c =
    let s = c.args in
    let d = tables s.book.now in
    let sized = read_sized (words s.book.now) (λ i h. c.fits-book i) in
    let xs = c.owners_of-xs.ensures in
    let ys = c.owners_of-ys.ensures in
    let a = c.alone.ensures in
    let b = c.alone-2.ensures in
    role_owns_both_lem d s.a s.b
    (both_found d sized c.requires.0.1 Role s.a s.b (omega arith) (omega arith) (Some c.in-Some.role) a b xs ys c.in-Some.ensures)

pub returns-in-Some-lowest_starter : goal.returns-in-Some-lowest_starter
returns-in-Some-lowest_starter c =
    let s = c.args in
    let d = tables s.book.now in
    let sized = read_sized (words s.book.now) (λ i h. c.fits-book i) in
    let xs = c.owners_of-xs.ensures in
    let ys = c.owners_of-ys.ensures in
    let a = c.alone.ensures in
    let b = c.alone-2.ensures in
    subject_owns_both_lem d s.a s.b
    (both_found d sized c.requires.0.1 Role s.a s.b (omega arith) (omega arith) None a b xs ys c.in_default.ensures)
    (both_found d sized c.requires.0.1 Subject s.a s.b (omega arith) (omega arith) (Some c.in-Some-lowest_starter.subject)
    a b xs ys c.in-Some-lowest_starter.ensures)

pub returns : goal.returns
returns c =
    let s = c.args in
    let d = tables s.book.now in
    let sized = read_sized (words s.book.now) (λ i h. c.fits-book i) in
    let xs = c.owners_of-xs.ensures in
    let ys = c.owners_of-ys.ensures in
    let a = c.alone.ensures in
    let b = c.alone-2.ensures in
    none_owns_both d s.a s.b
    (both_found d sized c.requires.0.1 Role s.a s.b (omega arith) (omega arith) None a b xs ys c.in_default.ensures)
    (both_found d sized c.requires.0.1 Subject s.a s.b (omega arith) (omega arith) None a b xs ys c.in_default-lowest_starter.ensures)
