-- Trials of kinds 18 to 21: a pair of each table taken back, beside another pair of the same table. Nothing stands against it.
use Rattle.std.specs.Prelude.{List, [], ◌∷◌}
use Rattle.rules.specs.Small.{row}
use Rattle.rules.specs.Book.{SME, DME, RB, SB}
use Rattle.trials.specs.Trial.{Trial, on}

-- accepted: SME 0-1 taken back, where SME 1-2 stands
abbrev pub sme_back : Trial
sme_back = on ((0, 7) ∷ row SME 0 2 ∷ row SME 1 5 ∷ row SME 2 2 ∷ []) 18 0 1 0

-- accepted: DME 1-0 taken back, where DME 1-2 stands
abbrev pub dme_back : Trial
dme_back = on ((0, 7) ∷ row DME 0 2 ∷ row DME 1 5 ∷ row DME 2 2 ∷ []) 19 1 0 0

-- accepted: RB 0-1 taken back, where RB 1-2 stands
abbrev pub rb_back : Trial
rb_back = on ((0, 7) ∷ row RB 0 2 ∷ row RB 1 5 ∷ row RB 2 2 ∷ []) 20 0 1 0

-- accepted: SB 1-2 taken back, where SB 0-1 and DME 0-3 stand
abbrev pub sb_back : Trial
sb_back = on ((0, 15) ∷ row DME 0 8 ∷ row DME 3 1 ∷ row SB 0 2 ∷ row SB 1 5 ∷ row SB 2 2 ∷ []) 21 1 2 0

abbrev pub pairs_back : List Trial
pairs_back = sme_back ∷ dme_back ∷ rb_back ∷ sb_back ∷ []
