-- Trials of kinds 8 to 10, for each conflict of theirs, and an assignment of each kind that nothing stands against; one of kind 17.
use Rattle.std.specs.Prelude.{List, [], ◌∷◌}
use Rattle.rules.specs.Small.{row}
use Rattle.rules.specs.Book.{SME, DME, juniors, tasks_of, roles_of, active}
use Rattle.trials.specs.Trial.{Trial, on}

-- 29: role 0 a junior of itself
abbrev pub own_junior : Trial
own_junior = on ((1, 1) ∷ []) 9 0 0 0

-- 30: role 0 a junior of role 2, which it reaches over role 1
abbrev pub wide_cycle : Trial
wide_cycle = on ((1, 7) ∷ row juniors 0 2 ∷ row juniors 1 4 ∷ []) 9 0 2 0

-- 31: task 1, which is SME to task 0, to role 0, whose senior, role 1, has task 0
abbrev pub senior_gains : Trial
senior_gains = on ((0, 3) ∷ (1, 3) ∷ row SME 0 2 ∷ row SME 1 1 ∷ row juniors 1 1 ∷ row tasks_of 1 1 ∷ []) 8 1 0 0

-- 31: role 2, whose junior, role 3, has task 0, a junior of role 1, which has task 1
abbrev pub junior_brings : Trial
junior_brings = on ((0, 3) ∷ (1, 14) ∷ row SME 0 2 ∷ row SME 1 1 ∷ row juniors 2 8 ∷ row tasks_of 1 2 ∷ row tasks_of 3 1 ∷ []) 9 2 1 0

-- 32: task 1 to role 1, which subject 0 owns over role 2, beside role 0, which has task 0
abbrev pub subject_gains : Trial
subject_gains =
    on ((0, 3) ∷ (1, 7) ∷ (2, 1) ∷ row SME 0 2 ∷ row SME 1 1 ∷ row juniors 2 2 ∷ row tasks_of 0 1 ∷ row roles_of 0 5 ∷ []) 8 1 1 0

-- 32: role 2, which has task 1, a junior of role 1, which subject 0 has beside role 0, which has task 0
abbrev pub subject_reaches : Trial
subject_reaches =
    on ((0, 3) ∷ (1, 7) ∷ (2, 1) ∷ row SME 0 2 ∷ row SME 1 1 ∷ row tasks_of 0 1 ∷ row tasks_of 2 2 ∷ row roles_of 0 3 ∷ []) 9 2 1 0

-- 32: role 1, which has task 1, to subject 0, who has role 0, which has task 0
abbrev pub own_role : Trial
own_role =
    on ((0, 3) ∷ (1, 3) ∷ (2, 1) ∷ row SME 0 2 ∷ row SME 1 1 ∷ row tasks_of 0 1 ∷ row tasks_of 1 2 ∷ row roles_of 0 1
    ∷ row active 0 1 ∷ []) 10 1 0 0

-- accepted: task 1 to role 1, where role 0 and subject 0 own task 0, which is SME to it
abbrev pub free_task : Trial
free_task =
    on ((0, 3) ∷ (1, 3) ∷ (2, 3) ∷ row SME 0 2 ∷ row SME 1 1 ∷ row tasks_of 0 1 ∷ row roles_of 0 1 ∷ row roles_of 1 2 ∷ []) 8 1 1 0

-- accepted: role 2 a junior of role 0, which reaches it already
abbrev pub free_junior : Trial
free_junior = on ((1, 7) ∷ row juniors 0 2 ∷ row juniors 1 4 ∷ []) 9 2 0 0

-- accepted: role 1, which has task 1, to subject 0, who owns task 0; the two are DME
abbrev pub free_role : Trial
free_role = on ((0, 3) ∷ (1, 3) ∷ (2, 1) ∷ row DME 0 2 ∷ row DME 1 1 ∷ row tasks_of 0 1 ∷ row tasks_of 1 2 ∷ row roles_of 0 1 ∷ []) 10 1 0 0

-- accepted: role 0 taken back from subject 0, who acts in it
abbrev pub role_back : Trial
role_back = on ((1, 1) ∷ (2, 1) ∷ row roles_of 0 1 ∷ row active 0 1 ∷ []) 17 0 0 0

abbrev pub assignments : List Trial
assignments =
    own_junior ∷ wide_cycle ∷ senior_gains ∷ junior_brings ∷ subject_gains ∷ subject_reaches ∷ own_role ∷ free_task ∷ free_junior ∷ free_role ∷ role_back
    ∷ []
