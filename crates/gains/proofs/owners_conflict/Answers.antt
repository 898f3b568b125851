-- 31 where a role has a clash, else what is found of the subjects.
use Rattle.book.specs.Slice.{tables}
use Rattle.gains.proofs.GainAnswers.{role_told, subject_told}
use Rattle.gains.proofs.owners_conflict.Goals as goal

pub returns-in-Some : goal.returns-in-Some
returns-in-Some c =
    let s = c.args in
    role_told (tables s.book.now) s.gain s.b c.first_clash.ensures c.in-Some.is

pub returns-in-Some-first_clash : goal.returns-in-Some-first_clash
returns-in-Some-first_clash c =
    let s = c.args in
    subject_told (tables s.book.now) s.gain s.b c.first_clash.ensures c.in_default.is c.first_clash-2.ensures c.in-Some-first_clash.is

pub returns-in-None : goal.returns-in-None
returns-in-None c =
    let s = c.args in
    subject_told (tables s.book.now) s.gain s.b c.first_clash.ensures c.in_default.is c.first_clash-2.ensures c.in-None.is
