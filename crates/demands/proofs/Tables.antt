-- The tables of a book as the relations that its rules speak of, and the two that are made of two tables:
-- "excludes", of SME and DME, and "bound for the role", of SB and RB mixed.
use mathlib.Core.Path.{sym}
use mathlib.Core.Logic.{inl, inr}
use Prim.Native.Nat.{ℕ}
use Rattle.chains.specs.Relation.{Relation, Step, Chain}
use Rattle.chains.proofs.RelationLaws.{chain_map, Tied, old, there, back}
use Rattle.rules.specs.Book.{Book, SME, DME, RB, SB, juniors, tasks_of}
use Rattle.rules.specs.Meaning.{CellRelation, Symmetric, Mixed, Excludes, Sound}
use Rattle.demands.proofs.PairRules.{Adds}

-- u and v are SME
abbrev pub Sme : Book → Relation
Sme d = Step (d.row SME)

-- u and v are DME
abbrev pub Dme : Book → Relation
Dme d = Step (d.row DME)

-- the cell of u in order p excludes that of v in order q
abbrev pub Excluding : Book → CellRelation
Excluding d = Excludes (d.row SME) (d.row DME)

-- subject groups run along this
abbrev pub SubjectBound : Book → Relation
SubjectBound d = Step (d.row SB)

-- and role groups along this
abbrev pub RoleBound : Book → Relation
RoleBound d = Mixed (d.row SB) (d.row RB)

-- q is a direct junior of r
abbrev pub Junior : Book → Relation
Junior d = Step (d.row juniors)

-- task t is given to role r
abbrev pub Given : Book → Relation
Given d = Step (d.row tasks_of)

-- A pair tied to a relation is tied to a wider one.
tied_map : {X Y : Relation} {a b : ℕ} → ((u v : ℕ) → X u v → Y u v) → (u v : ℕ) → Tied X a b u v → Tied Y a b u v
tied_map f u v (old e) = old (f u v e)
tied_map f u v there = there
tied_map f u v back = back

-- Where the first of the mixed tables gets a pair, the mixed relation gets it ..
pub first_adds : {a b : ℕ} (s s' r : ℕ → ℕ) → Adds a b (Step s) (Step s') → Adds a b (Mixed s r) (Mixed s' r)
first_adds {a} {b} s s' r grown = record { out = out; into = into }
  where
    out : (u v : ℕ) → Mixed s' r u v → Tied (Mixed s r) a b u v
    out u v (inl e) = tied_map (λ u v q. inl q) u v (grown.out u v e)
    out u v (inr e) = old (inr e)

    into : (u v : ℕ) → Tied (Mixed s r) a b u v → Mixed s' r u v
    into u v (old (inl e)) = inl (grown.into u v (old e))
    into u v (old (inr e)) = inr e
    into u v there = inl (grown.into a b there)
    into u v back = inl (grown.into b a back)

-- .. and so where the second does, since the two may change places.
pub second_adds : {a b : ℕ} (s r r' : ℕ → ℕ) → Adds a b (Step r) (Step r') → Adds a b (Mixed s r) (Mixed s r')
second_adds s r r' grown =
    let turned = first_adds r r' s grown in
    record {
      out = λ u v e. tied_map (swap r s) u v (turned.out u v (swap s r' u v e));
      into = λ u v e. swap r' s u v (turned.into u v (tied_map (swap s r) u v e));
    }
  where
    swap : (s r : ℕ → ℕ) (u v : ℕ) → Mixed s r u v → Mixed r s u v
    swap s r u v (inl e) = inr e
    swap s r u v (inr e) = inl e

-- A subject group lies inside a role group.
pub subject_role : (d : Book) {u v : ℕ} → Chain (SubjectBound d) u v → Chain (RoleBound d) u v
subject_role d = chain_map (λ u v e. inl e)

module _ (d : Book) (sound : Sound d) where
  -- In a sound book role groups run both ways ..
  pub role_turns : Symmetric (RoleBound d)
  role_turns u v (inl e) = inl (sound.bindings.sb.rule2 u v e)
  role_turns u v (inr e) = inr (sound.bindings.rb.rule2 u v e)

  -- .. cells exclude each other both ways ..
  pub excluding_turns : (p q u v : ℕ) → Excluding d p q u v → Excluding d q p v u
  excluding_turns p q u v (inl e) = inl (sound.bindings.sme.rule2 u v e)
  excluding_turns p q u v (inr (r, e)) = inr (sym r, sound.bindings.dme.rule2 u v e)

  -- .. and those of one subject group do not.
  pub excluding_apart : (p q u v : ℕ) → Excluding d p q u v → Chain (SubjectBound d) u v → ⊥
  excluding_apart p q u v (inl e) k = sound.bindings.rule4 u v e (subject_role d k)
  excluding_apart p q u v (inr (r, e)) k = sound.bindings.rule5 u v e k
