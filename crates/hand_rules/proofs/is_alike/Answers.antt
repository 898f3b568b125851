-- The same S where v is in the subject group, the same E where it is in the role group.
use Rattle.hand_rules.proofs.HandLaws.{alike_seen}
use Rattle.hand_rules.proofs.is_alike.Goals as goal

pub returns : goal.returns
returns c =
    let s = c.args in
    alike_seen s.subjects s.roles s.v s.own s.other c.has.ensures
    c.has-2.ensures c.subject_in.ensures
    c.subject_in-2.ensures c.role_in.ensures c.role_in-2.ensures
