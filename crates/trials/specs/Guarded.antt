-- Trials that are not fair, because the audit or a refusal comes first: without it the checks would be wrong at these books.
use Rattle.std.specs.Prelude.{List, [], ◌∷◌}
use Rattle.rules.specs.Small.{row, cell}
use Rattle.rules.specs.Book.{SB, tasks_of, orders}
use Rattle.trials.specs.Trial.{Trial, on}

-- rule 2: SB leads from 0 to 1 and not back; DME 1-0
abbrev pub one_sided : Trial
one_sided = on ((0, 3) ∷ row SB 0 2 ∷ []) 5 1 0 0

-- 4: task 5, which is not defined, to role 0
abbrev pub undefined_task : Trial
undefined_task = on ((0, 1) ∷ (1, 1) ∷ []) 8 5 0 0

-- 7: SME 0-1, while subject 0 holds both in order 0
abbrev pub while_open : Trial
while_open =
    on ((0, 3) ∷ (1, 3) ∷ (2, 1) ∷ row tasks_of 0 1 ∷ row tasks_of 1 2 ∷ row orders 0 3 ∷ cell 0 0 129 ∷ cell 0 1 257 ∷ []) 4 0 1 0

-- 8: task 0 in order 0 to subject 0, who acts in no role
abbrev pub in_no_role : Trial
in_no_role = on ((0, 1) ∷ (1, 1) ∷ (2, 1) ∷ row tasks_of 0 1 ∷ row orders 0 1 ∷ []) 13 0 0 0

abbrev pub guarded : List Trial
guarded = one_sided ∷ undefined_task ∷ while_open ∷ in_no_role ∷ []
