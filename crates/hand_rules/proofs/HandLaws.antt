-- What the code does with one cell, said as the definitions say it.
use mathlib.Core.Path.{◌≡◌, refl, sym, ap, ap₂, ◌∙◌}
use mathlib.Core.Bool.{Bool, true, false, ◌&&◌, ◌||◌, not}
use mathlib.Core.List.{List}
use Prim.Native.Nat.{ℕ, suc, ◌+◌, ◌^◌, ◌≤◌, ◌<◌}
use native.Mathlib.Decide.{ℕ_discrete}
use native.Mathlib.Omega.{arith}
use lib.Dec.{eqb}
use lib.Bits.{bit_or, or_zero_r}
use lib.ListN.{length, set}
use lib.Seq.{get_or-set_same, get_or-set_other}
use Rattle.sets.specs.Mask.{bit, with, only}
use Rattle.sets.proofs.Logic.{or_fails_out}
use Rattle.sets.proofs.MaskLaws.{bit-or}
use Rattle.rules.specs.Book.{role_in, subject_in}
use Rattle.rules.specs.Audit.{implies}
use Rattle.book.specs.Slice.{words}
use Rattle.hand_rules.specs.Hands.{noted, alike}

-- A task is noted where S is the subject's number plus 1, and nowhere else.
abbrev noted_if : Bool → ℕ → ℕ → ℕ
noted_if there t v = elim there [ true ↦ with v t | false ↦ v ]

-- What is noted joins what was held: the task's row, of those that make up what the subject holds.
pub noted_joins : (s t k v : ℕ) → noted s t k v ≡ bit_or v (only (eqb s (suc k)) (2 ^ t))
unfolding with
noted_joins s t k v = go (eqb s (suc k))
  where
    go : (x : Bool) → noted_if x t v ≡ bit_or v (only x (2 ^ t))
    go true = refl
    go false = sym (or_zero_r v)

-- Those below i have joined what is held here to what they were noted with, and the others are as they were ..
abbrev pub GatheredTo : ℕ → List ℕ → List ℕ → List ℕ → Type 0
GatheredTo i held before now = (k : ℕ) → k < 64 → (k < i → words now k ≡ bit_or (words before k) (words held k)) × (i ≤ k → words now k ≡ words before k)

-- .. and so on with i.
pub gathered_on : (held before now : List ℕ) (i : ℕ) → i < 64 → i < length now → GatheredTo i held before now
    → GatheredTo (i + 1) held before (set now i (bit_or (words now i) (words held i)))
gathered_on held before now i h l done k hk = (λ m. go m (ℕ_discrete k i), λ m. get_or-set_other now i k _ 0 (λ q. omega arith) ∙ (done k hk).1 (omega arith))
  where
    go : k < i + 1 → Dec (k ≡ i) → words (set now i (bit_or (words now i) (words held i))) k ≡ bit_or (words before k) (words held k)
    go m (yes q) = rw q (get_or-set_same now i _ 0 l ∙ ap (λ (n : ℕ). bit_or n (words held i)) ((done i h).1 (omega arith)))
    go m (no q) = get_or-set_other now i k _ 0 q ∙ (done k hk).0 (omega arith)

-- One thing implies another where it fails or the other holds.
or_implies : (p q : Bool) → (not p || q) ≡ implies p q
or_implies true q = refl
or_implies false q = refl

-- Rule 10 of two cells, as the code asks it of what it read: S and E of both cells.
pub alike_seen : (by_subject by_role v own other : ℕ) {s r : Bool} {so st ro rt : ℕ} → s ≡ bit by_subject v → r ≡ bit by_role v
    → so ≡ subject_in own → st ≡ subject_in other → ro ≡ role_in own → rt ≡ role_in other
    → ((not s || eqb so st) && (not r || eqb ro rt)) ≡ alike by_subject by_role v own other
alike_seen by_subject by_role v own other e f g h k l =
    (λ i. (not (e i) || eqb (g i) (h i)) && (not (f i) || eqb (k i) (l i)))
    ∙ ap₂ ◌&&◌ (or_implies (bit by_subject v) (eqb (subject_in own) (subject_in other))) (or_implies (bit by_role v) (eqb (role_in own) (role_in other)))

-- Of two cells nothing is asked where v is in neither group.
pub alike_none : (by_subject by_role v own other : ℕ) → bit (bit_or by_subject by_role) v ≡ false → alike by_subject by_role v own other ≡ true
alike_none by_subject by_role v own other e =
    let out = or_fails_out (bit by_subject v) (bit by_role v) (sym (bit-or by_subject by_role v) ∙ e) in
    ap₂ (λ (s r : Bool). implies s (eqb (subject_in own) (subject_in other)) && implies r (eqb (role_in own) (role_in other))) out.0 out.1
