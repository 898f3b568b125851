-- Trials of kinds 4 to 7, for each conflict of theirs, and a pair of each kind that nothing stands against.
use Rattle.std.specs.Prelude.{List, [], ◌∷◌}
use Rattle.rules.specs.Small.{row}
use Rattle.rules.specs.Book.{SME, DME, RB, SB, juniors, tasks_of, roles_of}
use Rattle.trials.specs.Trial.{Trial, on}

-- 20: RB between task 0 and itself
abbrev pub own_binding : Trial
own_binding = on ((0, 1) ∷ []) 6 0 0 0

-- 21: SME 0-1, which are DME
abbrev pub also_dme : Trial
also_dme = on ((0, 3) ∷ row DME 0 2 ∷ row DME 1 1 ∷ []) 4 0 1 0

-- 22: DME 0-1, which are SME
abbrev pub also_sme : Trial
also_sme = on ((0, 3) ∷ row SME 0 2 ∷ row SME 1 1 ∷ []) 5 0 1 0

-- 23: DME 0-2, where SB leads from 0 over 1 to 2
abbrev pub bound_subjects : Trial
bound_subjects = on ((0, 7) ∷ row SB 0 2 ∷ row SB 1 5 ∷ row SB 2 2 ∷ []) 5 0 2 0

-- 24: SME 0-2, where SB leads from 0 to 1 and RB from 1 to 2
abbrev pub bound_roles : Trial
bound_roles = on ((0, 7) ∷ row RB 1 4 ∷ row RB 2 2 ∷ row SB 0 2 ∷ row SB 1 1 ∷ []) 4 0 2 0

-- 25: SME 0-1, where role 1 has task 1 and its junior, role 0, has task 0
abbrev pub role_owns : Trial
role_owns = on ((0, 3) ∷ (1, 3) ∷ row juniors 1 1 ∷ row tasks_of 0 1 ∷ row tasks_of 1 2 ∷ []) 4 0 1 0

-- 26: SME 0-1, where subject 0 has roles 0 and 1, which have them
abbrev pub subject_owns : Trial
subject_owns = on ((0, 3) ∷ (1, 3) ∷ (2, 1) ∷ row tasks_of 0 1 ∷ row tasks_of 1 2 ∷ row roles_of 0 3 ∷ []) 4 0 1 0

-- 27: P13. SB 0-2, where SB 0-1, SB 2-3 and SME 1-3 stand
abbrev pub chained_sme : Trial
chained_sme = on ((0, 15) ∷ row SME 1 8 ∷ row SME 3 2 ∷ row SB 0 2 ∷ row SB 1 1 ∷ row SB 2 8 ∷ row SB 3 4 ∷ []) 7 0 2 0

-- 27: SB 0-2, where RB 0-1 and SME 1-2 stand
abbrev pub mixed_chain : Trial
mixed_chain = on ((0, 7) ∷ row SME 1 4 ∷ row SME 2 2 ∷ row RB 0 2 ∷ row RB 1 1 ∷ []) 7 0 2 0

-- 27: RB 0-2, where RB 0-1, RB 2-3 and SME 1-3 stand
abbrev pub chained_roles : Trial
chained_roles = on ((0, 15) ∷ row SME 1 8 ∷ row SME 3 2 ∷ row RB 0 2 ∷ row RB 1 1 ∷ row RB 2 8 ∷ row RB 3 4 ∷ []) 6 0 2 0

-- 28: SB 0-2, where SB 0-1, SB 2-3 and DME 1-3 stand
abbrev pub chained_dme : Trial
chained_dme = on ((0, 15) ∷ row DME 1 8 ∷ row DME 3 2 ∷ row SB 0 2 ∷ row SB 1 1 ∷ row SB 2 8 ∷ row SB 3 4 ∷ []) 7 0 2 0

-- accepted: SME 0-1 of tasks that two roles have, of two subjects
abbrev pub free_sme : Trial
free_sme = on ((0, 3) ∷ (1, 3) ∷ (2, 3) ∷ row tasks_of 0 1 ∷ row tasks_of 1 2 ∷ row roles_of 0 1 ∷ row roles_of 1 2 ∷ []) 4 0 1 0

-- accepted: DME 0-1 of tasks that are RB, and that one role and one subject own
abbrev pub free_dme : Trial
free_dme = on ((0, 3) ∷ (1, 1) ∷ (2, 1) ∷ row RB 0 2 ∷ row RB 1 1 ∷ row tasks_of 0 3 ∷ row roles_of 0 1 ∷ []) 5 0 1 0

-- accepted: RB 0-1 of tasks that are DME
abbrev pub free_rb : Trial
free_rb = on ((0, 3) ∷ row DME 0 2 ∷ row DME 1 1 ∷ []) 6 0 1 0

-- accepted: SB 1-0, where 1 is DME to 2 and SME to 3
abbrev pub free_sb : Trial
free_sb = on ((0, 15) ∷ row SME 1 8 ∷ row SME 3 2 ∷ row DME 1 4 ∷ row DME 2 2 ∷ []) 7 1 0 0

abbrev pub exclusions : List Trial
exclusions = also_dme ∷ also_sme ∷ bound_subjects ∷ bound_roles ∷ role_owns ∷ subject_owns ∷ free_sme ∷ free_dme ∷ []

abbrev pub bindings : List Trial
bindings = own_binding ∷ chained_sme ∷ mixed_chain ∷ chained_roles ∷ chained_dme ∷ free_rb ∷ free_sb ∷ []
