-- Lists of requests for M-102: one of each kind, two pairs, two roles whose order an active role would tell, and two lists that only a wrong
-- rule accepts whole.
use Rattle.std.specs.Prelude.{List, [], ◌∷◌}
use Rattle.rules.specs.Book.{SME, DME, RB, SB, juniors, tasks_of, roles_of, active}
use Rattle.list_trials.specs.ListTrial.{ListTrial, ask, place}

-- accepted: one request of each of kinds 4 to 10
abbrev pub seven_kinds : ListTrial
seven_kinds = record {
  words = (0, 63) ∷ (1, 3) ∷ (2, 1) ∷ [];
  list = ask 4 0 1 ∷ ask 5 2 3 ∷ ask 6 3 4 ∷ ask 7 4 5 ∷ ask 8 0 0 ∷ ask 9 0 1 ∷ ask 10 1 0 ∷ [];
  places =
      place SME 0 ∷ place SME 1 ∷ place DME 2 ∷ place DME 3 ∷ place RB 3 ∷ place RB 4 ∷ place SB 4 ∷ place SB 5
      ∷ place tasks_of 0 ∷ place juniors 1 ∷ place roles_of 0 ∷ place active 0 ∷ [];
}

-- accepted: SME 0-1 and DME 1-2
abbrev pub two_pairs : ListTrial
two_pairs = record {
  words = (0, 7) ∷ [];
  list = ask 4 0 1 ∷ ask 5 1 2 ∷ [];
  places = place SME 0 ∷ place SME 1 ∷ place DME 1 ∷ place DME 2 ∷ [];
}

-- accepted: roles 0 and 1 to subject 0, who acts in none
abbrev pub two_roles : ListTrial
two_roles = record { words = (1, 3) ∷ (2, 1) ∷ []; list = ask 10 0 0 ∷ ask 10 1 0 ∷ []; places = place roles_of 0 ∷ place active 0 ∷ [] }

abbrev pub lists : List ListTrial
lists = seven_kinds ∷ two_pairs ∷ two_roles ∷ []

-- 27 stands against the last: SME 0-2, SB 0-1, SB 1-2
abbrev pub chained_pairs : ListTrial
chained_pairs = record { words = (0, 7) ∷ []; list = ask 4 0 2 ∷ ask 7 0 1 ∷ ask 7 1 2 ∷ []; places = place SME 0 ∷ [] }

-- 22 stands against the second: SME 0-1, DME 0-1
abbrev pub both_exclusions : ListTrial
both_exclusions = record { words = (0, 3) ∷ []; list = ask 4 0 1 ∷ ask 5 0 1 ∷ []; places = place SME 0 ∷ [] }

abbrev pub guarded_lists : List ListTrial
guarded_lists = chained_pairs ∷ both_exclusions ∷ []
