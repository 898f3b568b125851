-- What one more pair between tasks a and b does to the rules that keep pairs apart: 3, 4, 5, 7 and 8.
-- Each of them says that no pair of an excluding relation X lies in a second relation Z, which is symmetric:
-- Z is the other exclusion (rule 3), "in one group" (4 and 5), or "owned by one owner" (7 and 8).
-- So there are two laws. Where X gets the pair, the rule asks of the new pair alone.
-- Where the relation along which groups run gets it, a new chain crosses between a and b once,
-- so the rule asks that no pair of X leads from a's group to b's. No masks here.
use Prim.Native.Nat.{ℕ}
use Rattle.chains.specs.Relation.{Relation, Chain, stay}
use Rattle.chains.proofs.RelationLaws.{chain_map, chain_turn, Tied, old, there, back, Crossing, same, over, under, crossed, crosses}
use Rattle.rules.specs.Meaning.{Symmetric, Disjoint, Apart}

-- The relation X' is X with the pair a, b in both directions.
pub record Adds (a b : ℕ) (X X' : Relation) : Type 0 where
  pub out : (u v : ℕ) → X' u v → Tied X a b u v
  pub into : (u v : ℕ) → Tied X a b u v → X' u v

-- The excluding relation gets the pair.
module _ {a b : ℕ} {X X' Z : Relation} (grown : Adds a b X X') where
  -- The rule is kept where the new pair does not lie in Z ..
  pub pair_kept : Symmetric Z → Disjoint X Z → (Z a b → ⊥) → Disjoint X' Z
  pair_kept turn rule new u v x = go u v (grown.out u v x)
    where
      go : (u v : ℕ) → Tied X a b u v → Z u v → ⊥
      go u v (old e) z = rule u v e z
      go u v there z = new z
      go u v back z = new (turn b a z)

  -- .. and only there.
  pub pair_needed : Disjoint X' Z → Z a b → ⊥
  pair_needed rule = rule a b (grown.into a b there)

-- 27 and 28: a pair of X leads from a's group to b's. Here: none does.
abbrev pub GroupsApart : Relation → Relation → ℕ → ℕ → Type 0
GroupsApart X E a b = (u v : ℕ) → Chain E a u → Chain E b v → X u v → ⊥

-- The binding relation gets the pair, so that groups grow together.
module _ {a b : ℕ} {X E E' : Relation} (grown : Adds a b E E') (turn : Symmetric E) where
  -- The rule is kept where no pair of X leads from a's group to b's ..
  pub groups_kept : Symmetric X → Apart X E → GroupsApart X E a b → Apart X E'
  groups_kept turn-X rule far u v x c = go (crossed (chain_map grown.out c))
    where
      go : Crossing E a b u v → ⊥
      go (same k) = rule u v x k
      go (over k l) = far u v (chain_turn turn k) l x
      go (under k l) = far v u l (chain_turn turn k) (turn-X u v x)

  -- .. and only there.
  pub groups_needed : Apart X E' → GroupsApart X E a b
  groups_needed rule u v k l x = rule u v x (chain_map grown.into (crosses (over (chain_turn turn k) l)))

-- Where no pair of X leads from a's group to b's, a and b are no pair of X themselves.
pub groups_pair : {X E : Relation} {a b : ℕ} → GroupsApart X E a b → X a b → ⊥
groups_pair {a = a} {b = b} far = far a b stay stay
