-- The arm taken says which kind it is; its arguments are in range because none is at fault. What no arm takes is no kind.
use mathlib.Core.Path.{refl}
use Prim.Native.Nat.{◌≤◌}
use native.Mathlib.Omega.{arith}
use Rattle.sets.specs.Search.{all}
use Rattle.rules.specs.Requests.{table, row_of}
use Rattle.rules.proofs.Upto.{past}
use Rattle.book.specs.Slice.{tables}
use Rattle.desk.proofs.KindRanges.{a_lt, b_lt, c_lt, from_define, from_relate, from_assign, from_activate, from_open, from_close}
use Rattle.desk.proofs.KindRanges.{from_take_back, from_unrelate, from_none_below, from_none_past}
use borrow.Author.Rules.{rules}
use Rattle.desk.proofs.carry_out.Goals as goal

pub activate-requires : goal.activate-requires
unfolding all row_of table
activate-requires c =
    let s = c.args in
    let d = tables s.book.now in
    let is = c.in-11.is in
    let a = a_lt d s.kind s.a s.b s.c c.requires.1 11 1 (omega arith) (omega arith) refl in
    let b = b_lt d s.kind s.a s.b s.c c.requires.1 11 1 (omega arith) (omega arith) refl in
    (a, b)

pub open_order-requires : goal.open_order-requires
unfolding all row_of table
open_order-requires c =
    let s = c.args in
    let d = tables s.book.now in
    let is = c.in-12.is in
    a_lt d s.kind s.a s.b s.c c.requires.1 12 1 (omega arith) (omega arith) refl

pub allocate-requires : goal.allocate-requires
unfolding all row_of table
allocate-requires c =
    let s = c.args in
    let d = tables s.book.now in
    let is = c.in-13.is in
    let a = a_lt d s.kind s.a s.b s.c c.requires.1 13 1 (omega arith) (omega arith) refl in
    let b = b_lt d s.kind s.a s.b s.c c.requires.1 13 1 (omega arith) (omega arith) refl in
    let third = c_lt d s.kind s.a s.b s.c c.requires.1 13 1 (omega arith) (omega arith) refl in
    (search rules, a, b, third)

pub close_order-requires : goal.close_order-requires
unfolding all row_of table
close_order-requires c =
    let s = c.args in
    let d = tables s.book.now in
    let is = c.in-14.is in
    a_lt d s.kind s.a s.b s.c c.requires.1 14 1 (omega arith) (omega arith) refl

pub define-requires : goal.define-requires
unfolding all row_of table
define-requires c =
    let s = c.args in
    let d = tables s.book.now in (
      omega arith,
      a_lt d s.kind s.a s.b s.c c.requires.1 1 3
          c.in-1-to-3.if-kind-lt1-own.false c.in-1-to-3.if-kind-lt4-own.true refl,
    )

pub relate-requires : goal.relate-requires
unfolding all row_of table
relate-requires c =
    let s = c.args in
    let d = tables s.book.now in
    let a = a_lt d s.kind s.a s.b s.c c.requires.1 4 4
    c.in-4-to-7.if-kind-lt4-own.false c.in-4-to-7.if-kind-lt8-own.true refl in
    let b = b_lt d s.kind s.a s.b s.c c.requires.1 4 4
    c.in-4-to-7.if-kind-lt4-own.false c.in-4-to-7.if-kind-lt8-own.true refl in
    (search rules, a, b)

pub assign-requires : goal.assign-requires
unfolding all row_of table
assign-requires c =
    let s = c.args in
    let d = tables s.book.now in
    let a = a_lt d s.kind s.a s.b s.c c.requires.1 8 3
    c.in-8-to-10.if-kind-lt8-own.false c.in-8-to-10.if-kind-lt11-own.true refl in
    let b = b_lt d s.kind s.a s.b s.c c.requires.1 8 3
    c.in-8-to-10.if-kind-lt8-own.false c.in-8-to-10.if-kind-lt11-own.true refl in
    (search rules, a, b)

pub overflow_sub-kind-in-15-to-17 : goal.overflow_sub-kind-in-15-to-17
overflow_sub-kind-in-15-to-17 c =
    let low : 15 ≤ c.args.kind = past 11 4
    c.args.kind c.in-15-to-17.if-kind-lt11-own.false
    c.in-15-to-17.in_default-own.rest in
    omega arith

pub staff_table-requires-in-15-to-17 : goal.staff_table-requires-in-15-to-17
staff_table-requires-in-15-to-17 c =
    let low : 15 ≤ c.args.kind = past 11 4
    c.args.kind c.in-15-to-17.if-kind-lt11-own.false
    c.in-15-to-17.in_default-own.rest in
    omega arith

pub take_back-requires : goal.take_back-requires
unfolding all row_of table
take_back-requires c =
    let s = c.args in
    let d = tables s.book.now in
    let low : 15 ≤ s.kind = past 11 4 s.kind c.in-15-to-17.if-kind-lt11-own.false
    c.in-15-to-17.in_default-own.rest in
    let a = a_lt d s.kind s.a s.b s.c c.requires.1 15 3
    low c.in-15-to-17.if-kind-lt18-own.true refl in
    let b = b_lt d s.kind s.a s.b s.c c.requires.1 15 3
    low c.in-15-to-17.if-kind-lt18-own.true refl in
    (a, b)

pub unrelate-requires : goal.unrelate-requires
unfolding all row_of table
unrelate-requires c =
    let s = c.args in
    let d = tables s.book.now in
    let a = a_lt d s.kind s.a s.b s.c c.requires.1 18 4
    c.in-18-to-21.if-kind-lt18-own.false c.in-18-to-21.if-kind-lt22-own.true refl in
    let b = b_lt d s.kind s.a s.b s.c c.requires.1 18 4
    c.in-18-to-21.if-kind-lt18-own.false c.in-18-to-21.if-kind-lt22-own.true refl in
    (a, b)

pub returns-in-11 : goal.returns-in-11
returns-in-11 c = rw c.in-11.is (from_activate c.activate.ensures)

pub returns-in-12 : goal.returns-in-12
returns-in-12 c = rw c.in-12.is (from_open c.open_order.ensures)

pub returns-in-13 : goal.returns-in-13
unfolding row_of table
returns-in-13 c = rw c.in-13.is c.allocate.ensures

pub returns-in-14 : goal.returns-in-14
returns-in-14 c = rw c.in-14.is (from_close c.close_order.ensures)

pub returns-in-1-to-3 : goal.returns-in-1-to-3
returns-in-1-to-3 c =
    from_define _ c.in-1-to-3.if-kind-lt1-own.false c.in-1-to-3.if-kind-lt4-own.true
    c.define.ensures

pub returns-in-4-to-7 : goal.returns-in-4-to-7
returns-in-4-to-7 c =
    from_relate _ c.in-4-to-7.if-kind-lt4-own.false c.in-4-to-7.if-kind-lt8-own.true
    (rw c.pair_table.ensures at c.relate.ensures)

pub returns-in-8-to-10 : goal.returns-in-8-to-10
returns-in-8-to-10 c =
    from_assign _ c.in-8-to-10.if-kind-lt8-own.false c.in-8-to-10.if-kind-lt11-own.true
    (rw c.staff_table.ensures at c.assign.ensures)

pub returns-in-15-to-17 : goal.returns-in-15-to-17
returns-in-15-to-17 c =
    let low : 15 ≤ c.args.kind = past 11 4
    c.args.kind
    c.in-15-to-17.if-kind-lt11-own.false
    c.in-15-to-17.in_default-own.rest in
    from_take_back _ low c.in-15-to-17.if-kind-lt18-own.true
    (rw c.staff_table-in-15-to-17.ensures at c.take_back.ensures)

pub returns-in-18-to-21 : goal.returns-in-18-to-21
returns-in-18-to-21 c =
    from_unrelate _ c.in-18-to-21.if-kind-lt18-own.false c.in-18-to-21.if-kind-lt22-own.true
    (rw c.pair_table-in-18-to-21.ensures at c.unrelate.ensures)

pub returns-in_default : goal.returns-in_default
returns-in_default c = from_none_below _ _ _ c.requires.0.0 _ c.in_default.if-kind-lt1-own.true

pub returns-in_default-2 : goal.returns-in_default-2
returns-in_default-2 c = from_none_past _ _ _ c.requires.0.0 _ c.in_default.if-kind-lt22-own.false
