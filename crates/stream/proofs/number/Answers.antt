-- The field's number is what decimal::read gives of its bytes; an empty field has none.
use Rattle.std.proofs.Common.{sym}
use Rattle.stream.proofs.StreamLaws.{none_left, cut, no_bytes, no_number, a_number}
use Rattle.stream.proofs.number.Goals as goal

pub returns-in_err-fields : goal.returns-in_err-fields
returns-in_err-fields c = rw c.from_residual.ensures (none_left _ c.in_err-fields.ensures.cases)

pub returns-then-is_empty : goal.returns-then-is_empty
returns-then-is_empty c =
    let s = c.split_at.ensures in
    let behind = cut _ _ _ _ _ _ c.in_ok-fields.ensures.cases.0 c.field_len.ensures.value s.front s.back in
    no_bytes _ _ c.split_at.result.1 behind c.if-is_empty.ensures

pub returns-in_err-n : goal.returns-in_err-n
returns-in_err-n c =
    let s = c.split_at.ensures in
    let behind = cut _ _ _ _ _ _ c.in_ok-fields.ensures.cases.0 c.field_len.ensures.value s.front s.back in
    rw c.from_residual-in_err-n.ensures
    (no_number _ _ c.split_at.result.1 behind c.if-is_empty.ensures (rw (sym c.read.ensures) c.in_err-n.ensures.value))

pub returns : goal.returns
returns c =
    let s = c.split_at.ensures in
    let behind = cut _ _ _ _ _ _ c.in_ok-fields.ensures.cases.0 c.field_len.ensures.value s.front s.back in
    a_number _ _ c.split_at.result.1 behind _ c.if-is_empty.ensures (rw (sym c.read.ensures) c.in_ok-n.ensures.value)
