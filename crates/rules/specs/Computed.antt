-- All that an answer and an audit compute by, so that a statement about one small book is shown by running it: `unfolding computed`.
use Rattle.std.specs.Prelude.{Bool}
use Rattle.sets.specs.Mask.{bit, with, without, within, meet, joined}
use Rattle.sets.specs.Search.{lowest_from, all}
use Rattle.chains.specs.Closure.{widen, close, group}
use Rattle.rules.specs.Book.{place_of, read, write, bad_mask, names, bad_active, bad_cell, row_tests, bad_row, bad_cell_at, bad_at, bad, first_bad}
use Rattle.rules.specs.Trade.{below, reach, owned_tasks, subject_group, role_group}
use Rattle.rules.specs.Requests.{table, row_of, is_open, fits, set_row, role_hand, subject_hand, stamped_cell, change}
use Rattle.rules.specs.Numbers.{given, given_lowest, given_set, given_pair_in, given_lowest_pair}
use Rattle.rules.specs.Numbers.{argument_fault, active_owned, allocate_refusal, state_refusal, refusal}
use Rattle.rules.specs.Numbers.{self_constraint, already_dme, already_sme, one_subject_group, one_role_group, role_owns_both, subject_owns_both}
use Rattle.rules.specs.Numbers.{sme_between_groups, dme_between_groups, self_inheritance, cycle, task_assignment, role_assignment, own_role_assignment}
use Rattle.rules.specs.Numbers.{held_by, held_sme, held_dme, sme_conflicts, dme_conflicts, rb_conflicts, sb_conflicts, task_conflicts, junior_conflicts}
use Rattle.rules.specs.Numbers.{role_conflicts, held_conflicts, by_table, pair_conflicts, assign_conflicts, conflicts, first_of, conflict, or_else}
use Rattle.rules.specs.Numbers.{judge, blind, kept, answer}
use Rattle.rules.specs.Audit.{not_own, symmetric, apart, pair_free, owner_free, held_anywhere, hands_apart, in_orders}
use Rattle.rules.specs.Audit.{rules, kept_at, broken, first_broken, audit, audited}

unfoldable pub computed : Bool → Bool
unfolding bit with without within meet joined lowest_from all widen close group
    place_of read write bad_mask names bad_active bad_cell row_tests bad_row bad_cell_at bad_at bad first_bad
    below reach owned_tasks subject_group role_group
    table row_of is_open fits set_row role_hand subject_hand stamped_cell change
    given given_lowest given_set given_pair_in given_lowest_pair argument_fault active_owned allocate_refusal state_refusal refusal
    self_constraint already_dme already_sme one_subject_group one_role_group role_owns_both subject_owns_both sme_between_groups dme_between_groups
    self_inheritance cycle task_assignment role_assignment own_role_assignment held_by held_sme held_dme
    sme_conflicts dme_conflicts rb_conflicts sb_conflicts task_conflicts junior_conflicts role_conflicts held_conflicts
    by_table pair_conflicts assign_conflicts conflicts first_of conflict or_else judge blind kept answer
    not_own symmetric apart pair_free owner_free held_anywhere hands_apart in_orders rules kept_at broken first_broken audit audited
computed t = t
