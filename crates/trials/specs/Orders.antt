-- Trials of kinds 12 to 14: for each conflict of an allocation, and orders opened, allocated in and closed that nothing stands against.
use Rattle.std.specs.Prelude.{List, [], ◌∷◌}
use Rattle.rules.specs.Small.{row, cell}
use Rattle.rules.specs.Book.{SME, DME, RB, SB, tasks_of, roles_of, active, orders}
use Rattle.trials.specs.Trial.{Trial, on}

-- 33: P14. Task 1 to subject 0, who holds task 0, which is SME to it; role 1 came after role 0 was taken back
abbrev pub held_sme : Trial
held_sme =
    on ((0, 3) ∷ (1, 3) ∷ (2, 1) ∷ row SME 0 2 ∷ row SME 1 1 ∷ row tasks_of 0 1 ∷ row tasks_of 1 2 ∷ row roles_of 0 2 ∷ row active 0 2
    ∷ row orders 0 3 ∷ cell 0 0 129 ∷ []) 13 1 0 0

-- 33 over two orders: task 1 in order 1 to subject 0, who holds task 0 in order 0, which is SME to it
abbrev pub held_elsewhere : Trial
held_elsewhere =
    on ((0, 3) ∷ (1, 3) ∷ (2, 1) ∷ row SME 0 2 ∷ row SME 1 1 ∷ row tasks_of 0 1 ∷ row tasks_of 1 2 ∷ row roles_of 0 2 ∷ row active 0 2
    ∷ row orders 0 1 ∷ row orders 1 2 ∷ cell 0 0 129 ∷ []) 13 1 1 0

-- 34: task 1 to subject 0, who holds task 0; task 2, bound to task 1 by SB, is DME to it
abbrev pub held_dme : Trial
held_dme =
    on ((0, 7) ∷ (1, 1) ∷ (2, 1) ∷ row DME 0 4 ∷ row DME 2 1 ∷ row SB 1 4 ∷ row SB 2 2 ∷ row tasks_of 0 7 ∷ row roles_of 0 1 ∷ row active 0 1
    ∷ row orders 0 7 ∷ cell 0 0 129 ∷ []) 13 1 0 0

-- accepted: the same, where task 2 is not in the order
abbrev pub outside_order : Trial
outside_order =
    on ((0, 7) ∷ (1, 1) ∷ (2, 1) ∷ row DME 0 4 ∷ row DME 2 1 ∷ row SB 1 4 ∷ row SB 2 2 ∷ row tasks_of 0 7 ∷ row roles_of 0 1 ∷ row active 0 1
    ∷ row orders 0 3 ∷ cell 0 0 129 ∷ []) 13 1 0 0

-- accepted: task 1 in order 1 to subject 0, who holds task 0 in order 0, which is DME to it
abbrev pub dme_elsewhere : Trial
dme_elsewhere =
    on ((0, 3) ∷ (1, 1) ∷ (2, 1) ∷ row DME 0 2 ∷ row DME 1 1 ∷ row tasks_of 0 3 ∷ row roles_of 0 1 ∷ row active 0 1
    ∷ row orders 0 1 ∷ row orders 1 2 ∷ cell 0 0 129 ∷ []) 13 1 1 0

-- accepted: task 1 to subject 0, where subject 1 holds task 0, which is DME to it
abbrev pub others_hand : Trial
others_hand =
    on ((0, 3) ∷ (1, 1) ∷ (2, 3) ∷ row DME 0 2 ∷ row DME 1 1 ∷ row tasks_of 0 3 ∷ row roles_of 0 1 ∷ row roles_of 1 1 ∷ row active 0 1
    ∷ row orders 0 3 ∷ cell 0 0 130 ∷ []) 13 1 0 0

-- accepted: task 0 to subject 0; SB binds task 1 to it, and RB task 2 to task 1
abbrev pub bound_hands : Trial
bound_hands =
    on ((0, 7) ∷ (1, 1) ∷ (2, 1) ∷ row RB 1 4 ∷ row RB 2 2 ∷ row SB 0 2 ∷ row SB 1 1 ∷ row tasks_of 0 7 ∷ row roles_of 0 1 ∷ row active 0 1
    ∷ row orders 0 7 ∷ []) 13 0 0 0

-- accepted: order 0 opened with tasks 0 and 1, which are SME, and nobody's yet
abbrev pub opened_order : Trial
opened_order = on ((0, 3) ∷ row SME 0 2 ∷ row SME 1 1 ∷ []) 12 0 0 3

-- accepted: order 0 closed, in which subject 0 holds task 0
abbrev pub closed_order : Trial
closed_order = on ((0, 1) ∷ (1, 1) ∷ (2, 1) ∷ row orders 0 1 ∷ cell 0 0 129 ∷ []) 14 0 0 0

abbrev pub hands : List Trial
hands = held_sme ∷ held_elsewhere ∷ held_dme ∷ outside_order ∷ dme_elsewhere ∷ others_hand ∷ bound_hands ∷ opened_order ∷ closed_order ∷ []
