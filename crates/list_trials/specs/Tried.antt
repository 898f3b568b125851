-- The lists are fair, by computation: each starts from a book that passes the audit, with requests of kinds 4 to 10 that are all accepted; but
-- for those that only a wrong rule accepts whole. So M-102 speaks of something.
-- That each trial holds is not computed again: proofs/Exact.antt has it from M-102.
use Rattle.std.specs.Prelude.{T}
use Rattle.rules.specs.Computed.{computed}
use Rattle.rules.specs.Numbers.{words_after}
use Rattle.list_trials.specs.ListTrial.{list_fair, all_lists_fair, no_list_fair}
use Rattle.list_trials.specs.Lists.{lists, guarded_lists}

pub lists_fair : T (all_lists_fair lists)
unfolding computed words_after list_fair
lists_fair = tt

pub guarded_lists_unfair : T (no_list_fair guarded_lists)
unfolding computed words_after list_fair
guarded_lists_unfair = tt
