-- M-105 computed: what 31 and 32 name, x the lowest owner that has a clash and y the mask of all tasks it owns that are SME to one it would
-- gain. Demand 3 says when they are given, but of x and y no theorem says that they are those of the document: a book of rules that always
-- said y = 0 would keep it. So they stand here, beside P6, P7 and P9. A table of its own: that of P1 to P14 is near what can be computed at once.
use Rattle.std.specs.Prelude.{List, [], ◌∷◌}
use Rattle.rules.specs.Book.{SME, juniors, tasks_of, roles_of}
use Rattle.rules.specs.Numbers.{accepted, say_xy}
use Rattle.rules.specs.Small.{Word, row}
use Rattle.examples.specs.Examples.{Run, ask, on}

-- Tasks 0 to 5 and 63, roles 0 to 3, subjects 0 and 1. SME 0-3, 2-3, 1-4 and 63-4. Role 3 has the tasks 3 and 4. Who else owns what comes behind.
abbrev pub excluding : List Word → List Word
excluding ws =
    (0, 9223372036854775871) ∷ (1, 15) ∷ (2, 3)
    ∷ row SME 0 8 ∷ row SME 1 16 ∷ row SME 2 8 ∷ row SME 3 5 ∷ row SME 4 9223372036854775810 ∷ row SME 63 16
    ∷ row tasks_of 3 24
    ∷ ws

-- The mask 5 is tasks 0 and 2; 9223372036854775811 is 0, 1 and 63.
abbrev pub whole_clash : List Run
whole_clash =
    -- task 3 to role 0, which owns 0, 1, 2 and 5: all that exclude it, and not those that exclude task 4. One taken back, the other is left; both
    -- taken back, it is accepted
    on (excluding (row tasks_of 0 39 ∷ []))
    (ask 8 3 0 0 (say_xy 31 0 5) []
    ∷ ask 8 4 0 0 (say_xy 31 0 2) []
    ∷ ask 15 0 0 0 accepted []
    ∷ ask 8 3 0 0 (say_xy 31 0 4) []
    ∷ ask 15 2 0 0 accepted []
    ∷ ask 8 3 0 0 accepted (row tasks_of 0 42 ∷ [])
    ∷ [])
    -- of the lowest owner alone: role 1 is named with its one task, though its senior, role 2, owns both
    ∷ on (excluding (row tasks_of 1 1 ∷ row tasks_of 2 4 ∷ row juniors 2 2 ∷ []))
    (ask 8 3 1 0 (say_xy 31 1 1) [] ∷ [])
    -- and where the senior is the lowest, with all it owns, its junior's task among them
    ∷ on (excluding (row tasks_of 0 1 ∷ row tasks_of 1 4 ∷ row juniors 0 2 ∷ []))
    (ask 8 3 1 0 (say_xy 31 0 5) [] ∷ [])
    -- a role gained, as a junior and by a person: each owned task that excludes one or another of its tasks, the last task too
    ∷ on (excluding (row tasks_of 0 35 ∷ row tasks_of 1 9223372036854775808 ∷ row juniors 0 2 ∷ row roles_of 0 1 ∷ row roles_of 1 2 ∷ []))
    (ask 9 3 0 0 (say_xy 31 0 9223372036854775811) []
    ∷ ask 9 3 1 0 (say_xy 31 0 9223372036854775811) []
    ∷ ask 10 3 0 0 (say_xy 32 0 9223372036854775811) []
    ∷ ask 10 3 1 0 (say_xy 32 1 9223372036854775808) []
    ∷ [])
    -- 32 by a role that they have: of the lowest person alone, and then of the next
    ∷ on (excluding (row tasks_of 0 33 ∷ row tasks_of 1 4 ∷ row roles_of 0 6 ∷ row roles_of 1 7 ∷ []))
    (ask 8 3 2 0 (say_xy 32 0 4) []
    ∷ ask 9 3 2 0 (say_xy 32 0 4) []
    ∷ ask 17 2 0 0 accepted []
    ∷ ask 8 3 2 0 (say_xy 32 1 5) []
    ∷ [])
    -- a row counts from the owned task: 0 has task 3 in its row, task 1 is only in that of task 3; where both are only there it is accepted
    ∷ on ((0, 11) ∷ (1, 1) ∷ row SME 0 8 ∷ row SME 3 2 ∷ row tasks_of 0 3 ∷ [])
    (ask 8 3 0 0 (say_xy 31 0 1) [] ∷ [])
    ∷ on ((0, 11) ∷ (1, 1) ∷ row SME 3 3 ∷ row tasks_of 0 3 ∷ [])
    (ask 8 3 0 0 accepted [] ∷ [])
    -- on books that fail the audit: a task that is gained too counts where it is owned, and so does one whose partner is owned already; a task
    -- that is SME to itself
    ∷ on ((0, 9) ∷ (1, 3) ∷ (2, 3) ∷ row SME 0 8 ∷ row SME 3 1 ∷ row tasks_of 0 1 ∷ row tasks_of 1 9 ∷ row roles_of 0 1 ∷ row roles_of 1 2 ∷ [])
    (ask 10 1 0 0 (say_xy 32 0 1) [] ∷ ask 10 0 1 0 (say_xy 32 1 8) [] ∷ [])
    ∷ on ((0, 1) ∷ (1, 3) ∷ (2, 1) ∷ row SME 0 1 ∷ row tasks_of 0 1 ∷ row tasks_of 1 1 ∷ row roles_of 0 1 ∷ [])
    (ask 10 1 0 0 (say_xy 32 0 1) [] ∷ [])
    ∷ []
