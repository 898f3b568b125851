-- "Every role reached has a chain of at most 64 steps."
-- The idea: a chain from i can leave i for good at its last visit there, so that no later step starts from i.
-- Each step so uses up one of the numbers that a step may start from, and there are 64 of them: f 0 to f 63, one fewer after each step.
use mathlib.Core.Path.{◌≡◌, refl, sym, ◌∙◌, subst}
use mathlib.Core.Logic.{◌⊎◌, inl, inr}
use Prim.Native.Nat.{ℕ, zero, suc, ◌<◌}
use native.Mathlib.Omega.{arith}
use native.Mathlib.Decide.{dec_lt, ℕ_discrete}
use lib.Dec.{eqb}
use borrow.Author.Tests.{eq-eqb, ne_eqb}
use Rattle.chains.specs.Relation.{Relation, Step, Chain, stay, more, Steps, none, next, Short}
use Rattle.rules.specs.Book.{juniors}
use Rattle.rules.specs.Requests.{set_row}
use Rattle.rules.specs.Chained as statements
use Rattle.rules.proofs.BookLaws.{chosen, unchosen}
use Rattle.rules.proofs.TradeLaws.{step_from, step_first, reach_out}

-- A step of E that does not start from i.
abbrev Leaving : ℕ → Relation → Relation
Leaving i E u v = E u v × (u ≡ i → ⊥)

-- A step, and after it a chain that does not come back to leave i again.
record Departs (E : Relation) (i j : ℕ) : Type 0 where
  to : ℕ
  first : E i to
  rest : Chain (Leaving i E) to j

-- A chain either never leaves i, or does so for a last time.
last_visit : {E : Relation} (i : ℕ) {v j : ℕ} → Chain E v j → Chain (Leaving i E) v j ⊎ Departs E i j
last_visit i stay = inl stay
last_visit {E} i {v} (more {j = u} {k = j} c e) = go (ℕ_discrete u i) (last_visit i c)
  where
    go : Dec (u ≡ i) → Chain (Leaving i E) v u ⊎ Departs E i u → Chain (Leaving i E) v j ⊎ Departs E i j
    go (yes p) x = inr (record { to = j; first = subst (λ (y : ℕ). E y j) p e; rest = stay })
    go (no p) (inl c) = inl (more c (e, p))
    go (no p) (inr x) = inr (record { to = x.to; first = x.first; rest = more x.rest (e, p) })

-- One step before a chain of steps that avoid i.
prepend : {E : Relation} {i v n j : ℕ} → E i v → Steps (Leaving i E) v n j → Steps E i (suc n) j
prepend e none = next none e
prepend e (next c f) = next (prepend e c) f.0

-- u is one of f 0, .., f (k - 1).
abbrev Listed : (ℕ → ℕ) → ℕ → ℕ → Type 0
Listed f k u = (x : ℕ) × (x < k) × (f x ≡ u)

-- The list without the number that stands at y: the last one takes its place.
unlist : (f : ℕ → ℕ) (k y u : ℕ) → y < suc k → (u ≡ f y → ⊥) → Listed f (suc k) u → Listed (set_row f y (f k)) k u
unfolding set_row
unlist f k y u hy n (x, hx, e) = go (dec_lt x k)
  where
    go : Dec (x < k) → Listed (set_row f y (f k)) k u
    go (yes h) = (x, h, unchosen (f k) (f x) (eqb x y) (ne_eqb x y (λ p. n (sym e ∙ subst (λ (z : ℕ). f x ≡ f z) p refl))) ∙ e)
    go (no h) =
        let p : x ≡ k = omega arith in
        let q : f k ≡ u = subst (λ (z : ℕ). f z ≡ u) p e in
        let l : y < k = elsewhere p (dec_lt y k) in
        (y, l, chosen (f k) (f y) (eqb y y) (eq-eqb y y refl) ∙ q)
      where
        elsewhere : x ≡ k → Dec (y < k) → y < k
        elsewhere p (yes l) = l
        elsewhere p (no l) = let z : x ≡ y = omega arith in absurd (n (sym e ∙ subst (λ (z : ℕ). f x ≡ f z) z refl))

-- A chain that leaves i for good, where what comes after takes k steps at most.
depart : {k : ℕ} {E : Relation} {i v j : ℕ} → E i v → Chain (Leaving i E) v j
    → ((u w : ℕ) → Leaving i E u w → Chain (Leaving i E) w j → Short k (Leaving i E) u j) → Short (suc k) E i j
depart e stay after = record { count = 1; some = omega arith; few = omega arith; way = next none e }
depart {v = v} e (more c x) after =
    let y = step_first c x in
    let z = after v y.0 y.1 y.2 in
    record { count = suc z.count; some = omega arith; few = omega (arith, z.few); way = prepend e z.way }

-- Where steps start from k listed numbers only, k steps are enough.
short : (k : ℕ) (f : ℕ → ℕ) (E : Relation) → ((u v : ℕ) → E u v → Listed f k u) → (i v j : ℕ) → E i v → Chain E v j → Short k E i j
short zero f E listed i v j e c = let x = (listed i v e).1 in absurd (omega arith)
short (suc k) f E listed i v j e c = go (last_visit i c) (λ u w. short k (set_row f place.0 (f k)) (Leaving i E) fewer u w j)
  where
    place : Listed f (suc k) i
    place = listed i v e

    fewer : (u w : ℕ) → Leaving i E u w → Listed (set_row f place.0 (f k)) k u
    fewer u w x = unlist f k place.0 u place.1 (λ p. x.1 (p ∙ place.2)) (listed u w x.0)

    go : Chain (Leaving i E) v j ⊎ Departs E i j
        → ((u w : ℕ) → Leaving i E u w → Chain (Leaving i E) w j → Short k (Leaving i E) u j) → Short (suc k) E i j
    go (inl c) after = depart e c after
    go (inr x) after = depart x.first x.rest after

-- STATEMENT 4: every role reached has a chain of at most 64 steps.
pub short_chains : statements.ShortChains
short_chains d s r q e =
    let x = reach_out d s r q e in
    let y = step_first x.way x.last in
    short 64 (λ u. u) (Step (d.row juniors)) (λ u v p. (u, step_from (s.rows juniors) u v p, refl)) r y.0 q y.1 y.2
