-- Kinds 8, 9 and 10: a task is given to a role, a role becomes a junior, a role is given to a subject.
-- Owners grow as Owners.antt says, so rules 7 and 8 ask what 31 and 32 ask, of roles and of subjects alike.
-- Kind 9 may also close a cycle (rule 6): it does exactly if a is b, or reaches it (29, 30).
use mathlib.Core.Path.{◌≡◌, refl, sym, ◌∙◌, subst}
use mathlib.Core.Logic.{◌⊎◌, inl, inr}
use Prim.Native.Nat.{ℕ, ◌^◌, ◌<◌}
use lib.Pow.{pow-lt}
use Rattle.sets.specs.Mask.{bit}
use Rattle.sets.proofs.MaskLaws.{one_out}
use Rattle.chains.specs.Relation.{Relation, In, Step, Chain, stay, more, Reaches}
use Rattle.chains.proofs.RelationLaws.{chain_map, old_step, new_step, cycle_cases}
use Rattle.rules.specs.Book.{Book, tasks, roles, subjects, juniors, tasks_of, roles_of}
use Rattle.rules.specs.Trade.{Owner, role, subject, owned_tasks}
use Rattle.rules.specs.Requests.{assign, add_to, change}
use Rattle.rules.specs.Numbers.{self_inheritance, cycle, gained_task, gained_role, task_assignment, role_assignment, own_role_assignment}
use Rattle.rules.specs.Numbers.{task_conflicts, junior_conflicts, role_conflicts, by_table, assign_conflicts, conflicts}
use Rattle.rules.specs.Meaning.{Sized, Symmetric, NoCycle, PairFree, Owned, OwnedFrom, Sound}
use Rattle.rules.proofs.Exactly.{Exactly, itself}
use Rattle.rules.proofs.TradeLaws.{role_lt, owned_lt, owner_shows}
use Rattle.demands.proofs.RowChanges.{Gets, add_gets, add_between}
use Rattle.demands.proofs.Tables.{Sme, Junior, Given}
use Rattle.demands.proofs.Owners.{Grows, owners_kept, owners_needed, task_grows, junior_grows, role_grows}
use Rattle.demands.proofs.Conflicts.{one_silent, more_silent, Exact, exact, Owning, OwnsRole, silent_self_inheritance, silent_cycle}
use Rattle.demands.proofs.Conflicts.{silent_task_assignment, silent_role_assignment, silent_own_assignment}

-- A chain is empty, or reaches.
chain_reaches : {E : Relation} {i j : ℕ} → Chain E i j → (i ≡ j) ⊎ Reaches E i j
chain_reaches stay = inl refl
chain_reaches (more {j = k} c e) = inr (record { before = k; way = c; last = e })

-- Rule 6 where a step from b to a is added: a cycle is an old one, or goes through that step.
module _ {J J' : Relation} {b a : ℕ} (grown : Gets b a J J') where
  -- Rule 6 is kept where a is not b and does not reach it ..
  cycle_kept : NoCycle J → (a ≡ b → ⊥) → (Reaches J a b → ⊥) → NoCycle J'
  cycle_kept rule two far r w =
      go (cycle_cases J b a r
      (record { before = w.before; way = chain_map grown.out w.way; last = grown.out w.before r w.last }))
    where
      apart : (a ≡ b) ⊎ Reaches J a b → ⊥
      apart (inl e) = two e
      apart (inr w) = far w

      go : Reaches J r r ⊎ Chain J a b → ⊥
      go (inl w) = rule r w
      go (inr c) = apart (chain_reaches c)

  -- .. and only there: a chain from a to b would close up.
  cycle_needed : NoCycle J' → Chain J a b → ⊥
  cycle_needed rule c = rule a (record { before = b; way = chain_map (λ r q e. grown.into r q (old_step e)) c; last = grown.into b a new_step })

-- A sound book; what a is, and who b is, each kind says.
module _ (d : Book) (sized : Sized d) (sound : Sound d) (a b c : ℕ) (ha : a < 64) where
  -- table n afterwards
  abbrev now : ℕ → ℕ → ℕ
  now n = add_to (d.row n) b a

  -- It is the old one with a step from b to a.
  gets : (n : ℕ) → Gets b a (Step (d.row n)) (Step (now n))
  gets n = add_gets (d.row n) b a

  -- SME runs both ways.
  turn : Symmetric (Sme d)
  turn = sound.bindings.sme.rule2

  -- What is gained has no SME pair in it: one task alone has none (rule 1) ..
  one_task : PairFree (Sme d) (In (2 ^ a))
  one_task u v x p q = sound.bindings.sme.rule1 u (subst (λ (y : ℕ). Sme d u y) (sym (one_out a v q) ∙ one_out a u p) x)

  -- .. nor has what one role owns (rule 7).
  one_role : PairFree (Sme d) (OwnedFrom d (role a))
  one_role = sound.rule7 a ha

  -- What role a owns, as it is computed.
  of_role : (v : ℕ) → Exactly (bit (owned_tasks d (role a)) v) (OwnedFrom d (role a) v)
  of_role v = (owner_shows d sized role (role_lt d sized)).says a v ha

  -- Kind 8: task a is given to role b.
  pub assign_task : In (tasks d) a → In (roles d) b → Exact d (assign tasks_of) a b c
  unfolding change conflicts assign_conflicts by_table task_conflicts
  assign_task da db =
      exact d (assign tasks_of) a b c
      (more_silent (task_assignment gained_task) _ d a b (silent_task_assignment d sized a b gained_task (pow-lt ha) (λ v. itself (bit (2 ^ a) v)))
      (one_silent (role_assignment gained_task) d a b (silent_role_assignment d sized a b gained_task (pow-lt ha) (λ v. itself (bit (2 ^ a) v)))))
      (λ (roles, subjects). record {
        gap = sound.gap;
        bindings = sound.bindings;
        ranks = record {
          juniors_formed = sound.ranks.juniors_formed;
          tasks_formed = add_between (d.row tasks_of) b a _ _ sound.ranks.tasks_formed db da;
          roles_formed = sound.ranks.roles_formed;
          active_formed = sound.ranks.active_formed;
          rule6 = sound.ranks.rule6;
        };
        orders = sound.orders;
        rule7 = owners_kept (grows role) turn one_task sound.rule7 roles;
        rule8 = owners_kept (grows (subject d)) turn one_task sound.rule8 subjects;
      })
      (λ s. (owners_needed (grows role) s.rule7, owners_needed (grows (subject d)) s.rule8))
    where
      grows : (start : Owner) → Grows (Owning d start) (λ o. Owned (Junior d) (Step (now tasks_of)) (In (start o))) (OwnsRole d start b) (In (2 ^ a))
      grows start = task_grows (Junior d) (Given d) b a (λ o. In (start o)) (Step (now tasks_of)) (gets tasks_of)

  -- Kind 9: role a becomes a direct junior of role b.
  pub assign_junior : In (roles d) a → In (roles d) b → Exact d (assign juniors) a b c
  unfolding change conflicts assign_conflicts by_table junior_conflicts
  assign_junior da db =
      exact d (assign juniors) a b c
      (more_silent self_inheritance _ d a b (silent_self_inheritance d sized a b)
      (more_silent cycle _ d a b (silent_cycle d sized a b ha)
      (more_silent (task_assignment gained_role) _ d a b (silent_task_assignment d sized a b gained_role (owned_lt d sized (role a)) of_role)
      (one_silent (role_assignment gained_role) d a b (silent_role_assignment d sized a b gained_role (owned_lt d sized (role a)) of_role)))))
      (λ (two, (far, (roles, subjects))). record {
        gap = sound.gap;
        bindings = sound.bindings;
        ranks = record {
          juniors_formed = add_between (d.row juniors) b a _ _ sound.ranks.juniors_formed db da;
          tasks_formed = sound.ranks.tasks_formed;
          roles_formed = sound.ranks.roles_formed;
          active_formed = sound.ranks.active_formed;
          rule6 = cycle_kept (gets juniors) sound.ranks.rule6 two far;
        };
        orders = sound.orders;
        rule7 = owners_kept (grows role) turn one_role sound.rule7 roles;
        rule8 = owners_kept (grows (subject d)) turn one_role sound.rule8 subjects;
      })
      (λ s. let far = cycle_needed (gets juniors) s.ranks.rule6 in (
        λ e. far (subst (λ (x : ℕ). Chain (Junior d) a x) e stay),
        (λ w. far (more w.way w.last), (owners_needed (grows role) s.rule7, owners_needed (grows (subject d)) s.rule8)),
      ))
    where
      grows : (start : Owner) → Grows (Owning d start) (λ o. Owned (Step (now juniors)) (Given d) (In (start o))) (OwnsRole d start b) (OwnedFrom d (role a))
      grows start = junior_grows (Junior d) (Given d) b a (λ o. In (start o)) (Step (now juniors)) (gets juniors)

  -- Kind 10: role a is given to subject b.
  pub assign_role : In (roles d) a → In (subjects d) b → Exact d (assign roles_of) a b c
  unfolding change conflicts assign_conflicts by_table role_conflicts
  assign_role da db =
      exact d (assign roles_of) a b c
      (one_silent own_role_assignment d a b (silent_own_assignment d sized a b (owned_lt d sized (role a)) of_role))
      (λ free. record {
        gap = sound.gap;
        bindings = sound.bindings;
        ranks = record {
          juniors_formed = sound.ranks.juniors_formed;
          tasks_formed = sound.ranks.tasks_formed;
          roles_formed = add_between (d.row roles_of) b a _ _ sound.ranks.roles_formed db da;
          active_formed = sound.ranks.active_formed;
          rule6 = sound.ranks.rule6;
        };
        orders = sound.orders;
        rule7 = sound.rule7;
        rule8 = owners_kept grows turn one_role sound.rule8 free;
      })
      (λ s. owners_needed grows s.rule8)
    where
      grows : Grows (Owning d (subject d)) (λ o. Owned (Junior d) (Given d) (In (now roles_of o))) (λ o. b ≡ o) (OwnedFrom d (role a))
      grows = role_grows (Junior d) (Given d) b a (Step (d.row roles_of)) (Step (now roles_of)) (gets roles_of)
