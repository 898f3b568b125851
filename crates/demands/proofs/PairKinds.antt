-- Kinds 4 to 7: a pair is added to one of the four pair tables, while no order is open.
-- Rules 9 and 10 then have nothing to say. Rules 1 and 2 ask of every table that a and b are two tasks (20).
-- For rules 3, 4, 5, 7 and 8 the two laws of PairRules are cited: SME and DME are excluding relations, RB and SB bind.
use Prim.Native.Nat.{ℕ, zero, suc, ◌<◌}
use native.Mathlib.Omega.{arith}
use Rattle.chains.specs.Relation.{Relation, In, Step}
use Rattle.chains.proofs.RelationLaws.{chain_turn}
use Rattle.rules.specs.Book.{Book, tasks, roles, subjects, SME, DME, RB, SB, orders}
use Rattle.rules.specs.Trade.{Owner, role, subject}
use Rattle.rules.specs.Requests.{relate, add_pair, change}
use Rattle.rules.specs.Numbers.{sme_conflicts, dme_conflicts, rb_conflicts, sb_conflicts, by_table, pair_conflicts, conflicts}
use Rattle.rules.specs.Numbers.{self_constraint, already_dme, already_sme, one_subject_group, one_role_group, role_owns_both, subject_owns_both}
use Rattle.rules.specs.Numbers.{sme_between_groups, dme_between_groups}
use Rattle.rules.specs.Meaning.{Sized, PairFree, OwnedFrom, OwnersFree, Orders, Sound}
use Rattle.demands.proofs.PairRules.{Adds, pair_kept, pair_needed, groups_kept, groups_needed, groups_pair}
use Rattle.demands.proofs.HeldHands.{none_open}
use Rattle.demands.proofs.RowChanges.{pair_adds, pair_table, pair_two}
use Rattle.demands.proofs.Tables.{first_adds, second_adds, subject_role, role_turns}
use Rattle.demands.proofs.Conflicts.{one_silent, more_silent, Exact, exact, NoneOwnsBoth, silent_self, silent_dme, silent_sme}
use Rattle.demands.proofs.Conflicts.{silent_subject_group, silent_role_group, silent_role_owns, silent_subject_owns, silent_sme_groups}
use Rattle.demands.proofs.Conflicts.{silent_dme_groups}

-- Where no order is open, orders and cells are well-formed and keep rules 9 and 10 whatever the pair tables are.
module _ {T R S : ℕ} {x y r s o : ℕ → ℕ} {cell : ℕ → ℕ → ℕ} (shut : (p t : ℕ) → Step o p t → ⊥) where
  shut_orders : (x' y' r' s' : ℕ → ℕ) → Orders T R S x y r s o cell → Orders T R S x' y' r' s' o cell
  shut_orders x' y' r' s' was = record {
    orders_formed = was.orders_formed;
    cells_formed = was.cells_formed;
    rule9 = none_open o cell _ shut;
    rule10_subject = λ p u v both. absurd (shut p u both.0);
    rule10_role = λ p u v both. absurd (shut p u both.0);
  }

-- A sound book with no open order, and two defined tasks.
module _ (d : Book) (sized : Sized d) (sound : Sound d) (a b c : ℕ) (ha : a < 64) (hb : b < 64) (da : In (tasks d) a) (db : In (tasks d) b)
    (shut : (p t : ℕ) → Step (d.row orders) p t → ⊥) where
  -- table n afterwards
  abbrev now : ℕ → ℕ → ℕ
  now n = add_pair (d.row n) a b

  -- It is the old one with the pair.
  adds : (n : ℕ) → Adds a b (Step (d.row n)) (Step (now n))
  adds n = pair_adds (d.row n) a b

  -- one owner owns both
  abbrev Owns : Owner → ℕ → Relation
  Owns start o u v = OwnedFrom d (start o) u × OwnedFrom d (start o) v

  -- Rules 7 and 8 where SME gets the pair, of either kind of owner ..
  owners_kept : (start : Owner) → OwnersFree d start → NoneOwnsBoth d start a b → (o : ℕ) → o < 64 → PairFree (Step (now SME)) (OwnedFrom d (start o))
  owners_kept start rule none o h u v x p q =
      pair_kept {Z = Owns start o} (adds SME) (λ u v z. (z.1, z.0)) (λ u v x z. rule o h u v x z.0 z.1) (none o h) u v x (p, q)

  -- .. and back.
  owners_needed : (start : Owner) → ((o : ℕ) → o < 64 → PairFree (Step (now SME)) (OwnedFrom d (start o))) → NoneOwnsBoth d start a b
  owners_needed start rule o h = pair_needed {Z = Owns start o} (adds SME) (λ u v x z. rule o h u v x z.0 z.1)

  -- Kind 4, SME: rules 3, 4, 7 and 8 ask of the new pair alone (21, 24, 25, 26). 23 is a case of 24.
  relate_sme : Exact d (relate SME) a b c
  unfolding change conflicts pair_conflicts by_table sme_conflicts
  relate_sme =
      exact d (relate SME) a b c
      (more_silent self_constraint _ d a b (silent_self d sized a b)
      (more_silent already_dme _ d a b (silent_dme d sized a b)
      (more_silent one_subject_group _ d a b (silent_subject_group d sized a b ha)
      (more_silent one_role_group _ d a b (silent_role_group d sized a b ha)
      (more_silent role_owns_both _ d a b (silent_role_owns d sized a b)
      (one_silent subject_owns_both d a b (silent_subject_owns d sized a b)))))))
      (λ (two, (dme, (sb, (mixed, (roles, subjects))))). record {
        gap = sound.gap;
        bindings = record {
          sme = pair_table (d.row SME) a b (tasks d) sound.bindings.sme da db two;
          dme = sound.bindings.dme;
          rb = sound.bindings.rb;
          sb = sound.bindings.sb;
          rule3 = pair_kept (adds SME) sound.bindings.dme.rule2 sound.bindings.rule3 dme;
          rule4 = pair_kept (adds SME) (λ u v k. chain_turn (role_turns d sound) k) sound.bindings.rule4 mixed;
          rule5 = sound.bindings.rule5;
        };
        ranks = sound.ranks;
        orders = shut_orders shut (now SME) (d.row DME) (d.row RB) (d.row SB) sound.orders;
        rule7 = owners_kept role sound.rule7 roles;
        rule8 = owners_kept (subject d) sound.rule8 subjects;
      })
      (λ s. let mixed = pair_needed (adds SME) s.bindings.rule4 in (
        pair_two (d.row SME) a b (tasks d) s.bindings.sme,
        (
          pair_needed (adds SME) s.bindings.rule3,
          (
            λ k. mixed (subject_role d k),
            (mixed, (owners_needed role s.rule7, owners_needed (subject d) s.rule8)),
          ),
        ),
      ))

  -- Kind 5, DME: rules 3 and 5 ask of the new pair alone (22, 23).
  relate_dme : Exact d (relate DME) a b c
  unfolding change conflicts pair_conflicts by_table dme_conflicts
  relate_dme =
      exact d (relate DME) a b c
      (more_silent self_constraint _ d a b (silent_self d sized a b)
      (more_silent already_sme _ d a b (silent_sme d sized a b)
      (one_silent one_subject_group d a b (silent_subject_group d sized a b ha))))
      (λ (two, (sme, sb)). record {
        gap = sound.gap;
        bindings = record {
          sme = sound.bindings.sme;
          dme = pair_table (d.row DME) a b (tasks d) sound.bindings.dme da db two;
          rb = sound.bindings.rb;
          sb = sound.bindings.sb;
          rule3 = λ u v x y. pair_kept (adds DME) sound.bindings.sme.rule2 (λ u v y x. sound.bindings.rule3 u v x y) sme u v y x;
          rule4 = sound.bindings.rule4;
          rule5 = pair_kept (adds DME) (λ u v k. chain_turn sound.bindings.sb.rule2 k) sound.bindings.rule5 sb;
        };
        ranks = sound.ranks;
        orders = shut_orders shut (d.row SME) (now DME) (d.row RB) (d.row SB) sound.orders;
        rule7 = sound.rule7;
        rule8 = sound.rule8;
      })
      (λ s. (
        pair_two (d.row DME) a b (tasks d) s.bindings.dme,
        (
          pair_needed (adds DME) (λ u v y x. s.bindings.rule3 u v x y),
          pair_needed (adds DME) s.bindings.rule5,
        ),
      ))

  -- Kind 6, RB: role groups grow together, so rule 4 asks of a's role group and b's (27). 22 is a case of 27.
  relate_rb : Exact d (relate RB) a b c
  unfolding change conflicts pair_conflicts by_table rb_conflicts
  relate_rb =
      let grown = second_adds (d.row SB) (d.row RB) (now RB) (adds RB) in
      exact d (relate RB) a b c
      (more_silent self_constraint _ d a b (silent_self d sized a b)
      (more_silent already_sme _ d a b (silent_sme d sized a b)
      (one_silent sme_between_groups d a b (silent_sme_groups d sized a b ha hb))))
      (λ (two, (sme, groups)). record {
        gap = sound.gap;
        bindings = record {
          sme = sound.bindings.sme;
          dme = sound.bindings.dme;
          rb = pair_table (d.row RB) a b (tasks d) sound.bindings.rb da db two;
          sb = sound.bindings.sb;
          rule3 = sound.bindings.rule3;
          rule4 = groups_kept grown (role_turns d sound) sound.bindings.sme.rule2 sound.bindings.rule4 groups;
          rule5 = sound.bindings.rule5;
        };
        ranks = sound.ranks;
        orders = shut_orders shut (d.row SME) (d.row DME) (now RB) (d.row SB) sound.orders;
        rule7 = sound.rule7;
        rule8 = sound.rule8;
      })
      (λ s. let groups = groups_needed grown (role_turns d sound) s.bindings.rule4 in
      (pair_two (d.row RB) a b (tasks d) s.bindings.rb, (groups_pair groups, groups)))

  -- Kind 7, SB: both groups grow together, so rules 4 and 5 ask of a's groups and b's (27, 28). 22 is a case of 27, and 21 of 28.
  relate_sb : Exact d (relate SB) a b c
  unfolding change conflicts pair_conflicts by_table sb_conflicts
  relate_sb =
      let grown = first_adds (d.row SB) (now SB) (d.row RB) (adds SB) in
      exact d (relate SB) a b c
      (more_silent self_constraint _ d a b (silent_self d sized a b)
      (more_silent already_dme _ d a b (silent_dme d sized a b)
      (more_silent already_sme _ d a b (silent_sme d sized a b)
      (more_silent sme_between_groups _ d a b (silent_sme_groups d sized a b ha hb)
      (one_silent dme_between_groups d a b (silent_dme_groups d sized a b ha hb))))))
      (λ (two, (dme, (sme, (role-groups, subject-groups)))). record {
        gap = sound.gap;
        bindings = record {
          sme = sound.bindings.sme;
          dme = sound.bindings.dme;
          rb = sound.bindings.rb;
          sb = pair_table (d.row SB) a b (tasks d) sound.bindings.sb da db two;
          rule3 = sound.bindings.rule3;
          rule4 = groups_kept grown (role_turns d sound) sound.bindings.sme.rule2 sound.bindings.rule4 role-groups;
          rule5 = groups_kept (adds SB) sound.bindings.sb.rule2 sound.bindings.dme.rule2 sound.bindings.rule5 subject-groups;
        };
        ranks = sound.ranks;
        orders = shut_orders shut (d.row SME) (d.row DME) (d.row RB) (now SB) sound.orders;
        rule7 = sound.rule7;
        rule8 = sound.rule8;
      })
      (λ s.
      let role-groups = groups_needed grown (role_turns d sound) s.bindings.rule4 in
      let subject-groups = groups_needed (adds SB) sound.bindings.sb.rule2 s.bindings.rule5 in (
        pair_two (d.row SB) a b (tasks d) s.bindings.sb,
        (groups_pair subject-groups, (groups_pair role-groups, (role-groups, subject-groups))),
      ))

  -- One law for all four, by the table.
  pub relate_exact : (n : ℕ) → n < 4 → Exact d (relate n) a b c
  relate_exact zero h = relate_sme
  relate_exact (suc zero) h = relate_dme
  relate_exact (suc (suc zero)) h = relate_rb
  relate_exact (suc (suc (suc zero))) h = relate_sb
  relate_exact (suc (suc (suc (suc n)))) h = absurd (omega arith)
