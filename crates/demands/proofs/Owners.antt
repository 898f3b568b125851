-- What owners own where one step is added on the way to their tasks (kinds 8, 9, 10), and what rules 7 and 8 ask then.
-- An owner starts with roles, goes along juniors, and comes to the tasks given to the roles on its way.
-- Afterwards it owns what it owned and, if it is asked, the gain. So no owner owns both tasks of a pair exactly if none
-- that is asked owns a task that makes a pair with one of the gain (31, 32). No masks here, but for the set of one role.
use mathlib.Core.Path.{◌≡◌, refl, sym, subst}
use mathlib.Core.Logic.{◌⊎◌, inl, inr}
use Prim.Native.Nat.{ℕ, ◌^◌, ◌<◌}
use Rattle.sets.proofs.MaskLaws.{in_one, one_out}
use Rattle.chains.specs.Relation.{Relation, Subset, In, Chain, more}
use Rattle.chains.proofs.RelationLaws.{chain_map, chain_join, Under, old_step, new_step, Passing, around, through, passed}
use Rattle.rules.specs.Meaning.{Symmetric, Owned, PairFree}
use Rattle.demands.proofs.RowChanges.{Gets}

-- Every owner owns New, where it owned Old: what it owned and, if it is asked, the gain.
pub record Grows (Old New : ℕ → Subset) (Asked Gain : Subset) : Type 0 where
  pub split : (o t : ℕ) → New o t → Old o t ⊎ (Asked o × Gain t)
  pub keep : (o t : ℕ) → Old o t → New o t
  pub gets : (o t : ℕ) → Asked o → Gain t → New o t

-- 31 and 32: an owner that is asked owns a task u that makes a pair with one that it would gain. Here: none does.
abbrev pub Unclashed : Relation → (ℕ → Subset) → Subset → Subset → Type 0
Unclashed X Old Asked Gain = (o : ℕ) → o < 64 → Asked o → (u v : ℕ) → Old o u → Gain v → X u v → ⊥

-- Rules 7 and 8, of owners that grow.
module _ {X : Relation} {Old New : ℕ → Subset} {Asked Gain : Subset} (grows : Grows Old New Asked Gain) where
  -- Where nothing clashes, the rule is kept ..
  pub owners_kept : Symmetric X → PairFree X Gain → ((o : ℕ) → o < 64 → PairFree X (Old o)) → Unclashed X Old Asked Gain → (o : ℕ) → o < 64 → PairFree X (New o)
  owners_kept turn free rule none o h u v x p q = go (grows.split o u p) (grows.split o v q)
    where
      go : Old o u ⊎ (Asked o × Gain u) → Old o v ⊎ (Asked o × Gain v) → ⊥
      go (inl i) (inl j) = rule o h u v x i j
      go (inl i) (inr j) = none o h j.0 u v i j.1 x
      go (inr i) (inl j) = none o h i.0 v u j i.1 (turn u v x)
      go (inr i) (inr j) = free u v x i.1 j.1

  -- .. and only there.
  pub owners_needed : ((o : ℕ) → o < 64 → PairFree X (New o)) → Unclashed X Old Asked Gain
  owners_needed rule o h asked u v p g x = rule o h u v x (grows.keep o u p) (grows.gets o v asked g)

-- Owners with more to start with, more juniors or more tasks given to roles own at least as much.
pub owned_map : {J J' G G' : Relation} {S S' : Subset} → ((r q : ℕ) → J r q → J' r q) → ((r t : ℕ) → G r t → G' r t) → ((r : ℕ) → S r → S' r)
    → (t : ℕ) → Owned J G S t → Owned J' G' S' t
owned_map f g h t (r, q, s, c, k) = (r, q, h r s, chain_map f c, g q t k)

-- J is the juniors, G the tasks given to roles; each owner o starts with the roles S o.
module _ (J G : Relation) (b a : ℕ) where
  -- the owner owns role b
  abbrev Above : (ℕ → Subset) → Subset
  Above S o = (r : ℕ) × S o r × Chain J r b

  -- what role a owns
  abbrev OfRole : Subset
  OfRole = Owned J G (In (2 ^ a))

  -- It owns what is given to a role below it.
  of_role : (q t : ℕ) → Chain J a q → G q t → OfRole t
  of_role q t c g = (a, q, in_one a, c, g)

  -- Kind 8: task a is given to role b. Those who own role b gain task a.
  pub task_grows : (S : ℕ → Subset) (G' : Relation) → Gets b a G G' → Grows (λ o. Owned J G (S o)) (λ o. Owned J G' (S o)) (Above S) (In (2 ^ a))
  task_grows S G' grown = record {
    split = λ o t (r, q, s, c, g). cut o r s q t c (grown.out q t g);
    keep = λ o. owned_map (λ r q e. e) (λ r t e. grown.into r t (old_step e)) (λ r s. s);
    gets = λ o t (r, s, c) g. subst (λ (x : ℕ). Owned J G' (S o) x) (one_out a t g) (r, b, s, c, grown.into b a new_step);
  }
    where
      cut : (o r : ℕ) → S o r → (q t : ℕ) → Chain J r q → Under G b a q t → Owned J G (S o) t ⊎ (Above S o × In (2 ^ a) t)
      cut o r s q t c (old_step e) = inl (r, q, s, c, e)
      cut o r s q t c new_step = inr ((r, s, c), in_one a)

  -- Kind 9: role a becomes a junior of role b. Those who own role b gain what role a owns.
  pub junior_grows : (S : ℕ → Subset) (J' : Relation) → Gets b a J J' → Grows (λ o. Owned J G (S o)) (λ o. Owned J' G (S o)) (Above S) OfRole
  junior_grows S J' grown = record {
    split = λ o t (r, q, s, c, g). cut o r s q t g (passed (chain_map grown.out c));
    keep = λ o. owned_map old (λ r t e. e) (λ r s. s);
    gets = λ o t (r, s, c) (x, q, e, k, g). (
      r,
      q,
      s,
      chain_join (more (chain_map old c) (grown.into b a new_step)) (chain_map old (subst (λ (y : ℕ). Chain J y q) (sym (one_out a x e)) k)),
      g,
    );
  }
    where
      old : (r q : ℕ) → J r q → J' r q
      old r q e = grown.into r q (old_step e)

      cut : (o r : ℕ) → S o r → (q t : ℕ) → G q t → Passing J b a r q → Owned J G (S o) t ⊎ (Above S o × OfRole t)
      cut o r s q t g (around c) = inl (r, q, s, c, g)
      cut o r s q t g (through c k) = inr ((r, s, c), of_role q t k g)

  -- Kind 10: role a is given to subject b. It alone gains what role a owns.
  pub role_grows : (H H' : Relation) → Gets b a H H' → Grows (λ o. Owned J G (H o)) (λ o. Owned J G (H' o)) (λ o. b ≡ o) OfRole
  role_grows H H' grown = record {
    split = λ o t (r, q, s, c, g). cut o r q t c g (grown.out o r s);
    keep = λ o. owned_map (λ r q e. e) (λ r t e. e) (λ r s. grown.into o r (old_step s));
    gets = λ o t e (x, q, i, k, g). (x, q, subst (λ (y : ℕ). H' y x) e (subst (λ (y : ℕ). H' b y) (one_out a x i) (grown.into b a new_step)), k, g);
  }
    where
      cut : (o r q t : ℕ) → Chain J r q → G q t → Under H b a o r → Owned J G (H o) t ⊎ ((b ≡ o) × OfRole t)
      cut o r q t c g (old_step e) = inl (r, q, e, c, g)
      cut o r q t c g new_step = inr (refl, of_role q t c g)
