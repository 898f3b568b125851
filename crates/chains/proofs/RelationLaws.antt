-- Chains joined, turned and mapped, and what more edges add to them. No masks here.
use mathlib.Core.Path.{◌≡◌, refl, sym, subst}
use mathlib.Core.Logic.{◌⊎◌, inl, inr}
use Prim.Native.Nat.{ℕ}
use Rattle.chains.specs.Relation.{Relation, Chain, stay, more, Reaches}

-- A chain of one relation is one of a wider relation.
pub chain_map : {E F : Relation} → ((j k : ℕ) → E j k → F j k) → {i j : ℕ} → Chain E i j → Chain F i j
chain_map f stay = stay
chain_map f (more {j = j} {k = k} c e) = more (chain_map f c) (f j k e)

-- One chain after another.
pub chain_join : {E : Relation} {i j k : ℕ} → Chain E i j → Chain E j k → Chain E i k
chain_join c stay = c
chain_join c (more d e) = more (chain_join c d) e

-- Along a symmetric relation a chain leads back.
pub chain_turn : {E : Relation} → ((j k : ℕ) → E j k → E k j) → {i j : ℕ} → Chain E i j → Chain E j i
chain_turn s stay = stay
chain_turn s (more {j = j} {k = k} c e) = chain_join (more stay (s j k e)) (chain_turn s c)

-- A chain from one that has no step stays there.
pub chain_alone : {E : Relation} {i j : ℕ} → ((k : ℕ) → E i k → ⊥) → Chain E i j → i ≡ j
chain_alone f stay = refl
chain_alone {E} {i} f (more {k = k} c e) = absurd (f k (subst (λ (x : ℕ). E x k) (sym (chain_alone f c)) e))

-- A step of E, or one of the two between a and b.
pub data Tied (E : Relation) (a b : ℕ) : ℕ → ℕ → Type 0 where
  old : {j k : ℕ} → E j k → Tied E a b j k
  there : Tied E a b a b
  back : Tied E a b b a

-- A chain of the wider relation is an old one, or crosses between a and b once.
pub data Crossing (E : Relation) (a b i j : ℕ) : Type 0 where
  same : Chain E i j → Crossing E a b i j
  over : Chain E i a → Chain E b j → Crossing E a b i j
  under : Chain E i b → Chain E a j → Crossing E a b i j

extend : {E : Relation} {a b i j k : ℕ} → Crossing E a b i j → Tied E a b j k → Crossing E a b i k
extend (same c) (old e) = same (more c e)
extend (over c d) (old e) = over c (more d e)
extend (under c d) (old e) = under c (more d e)
extend (same c) there = over c stay
extend (over c d) there = over c stay
extend (under c d) there = same c
extend (same c) back = under c stay
extend (over c d) back = same c
extend (under c d) back = under c stay

pub crossed : {E : Relation} {a b i j : ℕ} → Chain (Tied E a b) i j → Crossing E a b i j
crossed stay = same stay
crossed (more c e) = extend (crossed c) e

pub crosses : {E : Relation} {a b i j : ℕ} → Crossing E a b i j → Chain (Tied E a b) i j
crosses (same c) = chain_map (λ j k e. old e) c
crosses (over c d) = chain_join (more (chain_map (λ j k e. old e) c) there) (chain_map (λ j k e. old e) d)
crosses (under c d) = chain_join (more (chain_map (λ j k e. old e) c) back) (chain_map (λ j k e. old e) d)

-- A step of E, or the one from b to a.
pub data Under (E : Relation) (b a : ℕ) : ℕ → ℕ → Type 0 where
  old_step : {j k : ℕ} → E j k → Under E b a j k
  new_step : Under E b a b a

-- A chain of the wider relation is an old one, or goes through the new step once.
pub data Passing (E : Relation) (b a i j : ℕ) : Type 0 where
  around : Chain E i j → Passing E b a i j
  through : Chain E i b → Chain E a j → Passing E b a i j

pass_on : {E : Relation} {b a i j k : ℕ} → Passing E b a i j → Under E b a j k → Passing E b a i k
pass_on (around c) (old_step e) = around (more c e)
pass_on (through c d) (old_step e) = through c (more d e)
pass_on (around c) new_step = through c stay
pass_on (through c d) new_step = through c stay

pub passed : {E : Relation} {b a i j : ℕ} → Chain (Under E b a) i j → Passing E b a i j
passed stay = around stay
passed (more c e) = pass_on (passed c) e

-- A cycle of the wider relation is an old one, or closes through the new step.
closes_up : {E : Relation} {b a i m j : ℕ} → Passing E b a i m → Under E b a m j → i ≡ j → Reaches E i i ⊎ Chain E a b
closes_up {E = E} {m = m} (around c) (old_step e) p = inl (record { before = m; way = c; last = subst (λ (x : ℕ). E m x) (sym p) e })
closes_up {E = E} {m = m} (through c d) (old_step e) p = inr (chain_join (more d (subst (λ (x : ℕ). E m x) (sym p) e)) c)
closes_up {E = E} {b = b} (around c) new_step p = inr (subst (λ (x : ℕ). Chain E x b) p c)
closes_up (through c d) new_step p = inr d

pub cycle_cases : (E : Relation) (b a i : ℕ) → Reaches (Under E b a) i i → Reaches E i i ⊎ Chain E a b
cycle_cases E b a i w = closes_up (passed w.way) w.last refl
