-- M-104 computed, on books with several open orders: what 33 and 34 name. Demand 3 says when 33 is given, but of z, x and y no theorem
-- says that they are those of the document: a book of rules that always said z = 0 would keep it. So they stand here.
-- A table of its own: that of P1 to P14 is near what can be computed at once.
use Rattle.std.specs.Prelude.{List, [], ◌∷◌}
use Rattle.rules.specs.Book.{SME, DME, SB, tasks_of, roles_of, active, orders}
use Rattle.rules.specs.Numbers.{accepted, say_xyz}
use Rattle.rules.specs.Small.{Word, row, cell}
use Rattle.examples.specs.Examples.{Run, ask, on}

-- Tasks 0, 1, 2 of role 0, and 4, 5 of role 1, which SB binds to one hand. SME 0-4, 1-4 and 1-5; DME 2-4. Subjects 0 and 1 have role 1 and
-- act in it. What they hold of role 0 they were given before that was taken back from them. The words of orders and cells come behind.
abbrev pub handed : List Word → List Word
handed ws =
    (0, 55) ∷ (1, 3) ∷ (2, 3)
    ∷ row SME 0 16 ∷ row SME 1 48 ∷ row SME 4 3 ∷ row SME 5 2
    ∷ row DME 2 16 ∷ row DME 4 4
    ∷ row SB 4 32 ∷ row SB 5 16
    ∷ row tasks_of 0 7 ∷ row tasks_of 1 48
    ∷ row roles_of 0 2 ∷ row roles_of 1 2
    ∷ row active 0 2 ∷ row active 1 2
    ∷ ws

-- On these books task 4, or 5, of order 1 is asked for subject 0. Cell 129 is role 0 and subject 0; 130 is subject 1; 257 is role 1 and
-- subject 0. Four readings have books of their own, which are written out.
abbrev pub several_orders : List Run
several_orders =
    -- held in a higher order: z = 3; y is the lowest of x's two partners. With that order closed it is accepted, and the group goes along
    on (handed (row orders 1 48 ∷ row orders 3 7 ∷ cell 3 1 129 ∷ []))
    (ask 13 4 1 0 (say_xyz 33 1 4 3) []
    ∷ ask 14 3 0 0 accepted []
    ∷ ask 13 4 1 0 accepted (cell 1 4 257 ∷ cell 1 5 257 ∷ [])
    ∷ [])
    -- held in two: z is the lower, and x its lowest, though a lower one is held in the other
    ∷ on (handed (row orders 1 48 ∷ row orders 2 7 ∷ row orders 5 7 ∷ cell 2 1 129 ∷ cell 5 0 129 ∷ []))
    (ask 13 4 1 0 (say_xyz 33 1 4 2) [] ∷ [])
    -- x is the lowest for z
    ∷ on (handed (row orders 1 48 ∷ row orders 2 7 ∷ cell 2 0 129 ∷ cell 2 1 129 ∷ []))
    (ask 13 4 1 0 (say_xyz 33 0 4 2) [] ∷ [])
    -- order b counts as the others do: named where it is the lowest, and not where another is
    ∷ on (handed (row orders 1 49 ∷ row orders 3 7 ∷ cell 1 0 129 ∷ cell 3 1 129 ∷ []))
    (ask 13 4 1 0 (say_xyz 33 0 4 1) [] ∷ [])
    ∷ on (handed (row orders 0 7 ∷ row orders 1 49 ∷ cell 0 1 129 ∷ cell 1 0 129 ∷ []))
    (ask 13 4 1 0 (say_xyz 33 1 4 0) [] ∷ [])
    -- the last order is looked at too
    ∷ on (handed (row orders 1 48 ∷ row orders 63 7 ∷ cell 63 0 129 ∷ []))
    (ask 13 4 1 0 (say_xyz 33 0 4 63) [] ∷ [])
    -- the group is cut to order b: task 4 is not in it, so task 0 has no partner, and that of task 1 is 5; x is the lowest that has one
    ∷ on (handed (row orders 1 32 ∷ row orders 3 7 ∷ cell 3 0 129 ∷ []))
    (ask 13 5 1 0 accepted (cell 1 5 257 ∷ []) ∷ [])
    ∷ on (handed (row orders 1 32 ∷ row orders 3 7 ∷ cell 3 0 129 ∷ cell 3 1 129 ∷ []))
    (ask 13 5 1 0 (say_xyz 33 1 5 3) [] ∷ [])
    -- y is the partner of x, though a higher task that is held has a lower one: SME 0-3 and 1-2, SB 2-3, with tasks 0 and 1 held
    ∷ on ((0, 15) ∷ (1, 3) ∷ (2, 1) ∷ row SME 0 8 ∷ row SME 1 4 ∷ row SME 2 2 ∷ row SME 3 1 ∷ row SB 2 8 ∷ row SB 3 4
    ∷ row tasks_of 0 3 ∷ row tasks_of 1 12 ∷ row roles_of 0 2 ∷ row active 0 2 ∷ row orders 1 12 ∷ row orders 2 3 ∷ cell 2 0 129 ∷ cell 2 1 129 ∷ [])
    (ask 13 2 1 0 (say_xyz 33 0 3 2) [] ∷ [])
    -- any 33 comes before 34, also where its order comes after b; 34 names order b
    ∷ on (handed (row orders 1 52 ∷ row orders 6 7 ∷ cell 1 2 129 ∷ cell 6 0 129 ∷ []))
    (ask 13 4 1 0 (say_xyz 33 0 4 6) []
    ∷ ask 14 6 0 0 accepted []
    ∷ ask 13 4 1 0 (say_xyz 34 2 4 1) []
    ∷ [])
    -- DME looks into order b alone
    ∷ on (handed (row orders 1 48 ∷ row orders 3 7 ∷ cell 3 2 129 ∷ []))
    (ask 13 4 1 0 accepted [] ∷ [])
    -- a row counts from the held task: SME 0-1 in row 0 alone, with task 0 held, and in row 1 alone; and a task SME to itself
    ∷ on ((0, 3) ∷ (1, 3) ∷ (2, 1) ∷ row SME 0 2 ∷ row tasks_of 0 1 ∷ row tasks_of 1 2 ∷ row roles_of 0 2 ∷ row active 0 2
    ∷ row orders 2 1 ∷ row orders 3 2 ∷ cell 2 0 129 ∷ []) (ask 13 1 3 0 (say_xyz 33 0 1 2) [] ∷ [])
    ∷ on ((0, 3) ∷ (1, 3) ∷ (2, 1) ∷ row SME 1 1 ∷ row tasks_of 0 1 ∷ row tasks_of 1 2 ∷ row roles_of 0 2 ∷ row active 0 2
    ∷ row orders 2 1 ∷ row orders 3 2 ∷ cell 2 0 129 ∷ []) (ask 13 1 3 0 accepted [] ∷ [])
    ∷ on ((0, 1) ∷ (1, 1) ∷ (2, 1) ∷ row SME 0 1 ∷ row tasks_of 0 1 ∷ row roles_of 0 1 ∷ row active 0 1
    ∷ row orders 2 1 ∷ row orders 3 1 ∷ cell 2 0 129 ∷ []) (ask 13 0 3 0 (say_xyz 33 0 0 2) [] ∷ [])
    -- what another holds does not count
    ∷ on (handed (row orders 1 48 ∷ row orders 3 7 ∷ cell 3 1 130 ∷ []))
    (ask 13 4 1 0 accepted [] ∷ [])
    ∷ []
