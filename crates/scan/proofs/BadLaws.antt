-- What makes one word bad, in the steps of the scan: a word of 0 never is, and any other is judged by its place.
use mathlib.Core.Path.{◌≡◌, refl, sym, ap, ap₂, ◌∙◌}
use mathlib.Core.Bool.{Bool, true, false, ◌&&◌, ◌||◌, not}
use Prim.Native.Nat.{ℕ, zero, suc, ◌+◌, ◌-◌, ◌*◌, ◌/◌, ◌%◌, ◌^◌, ◌≤◌, ◌<◌}
use native.Mathlib.Omega.{arith}
use native.Mathlib.Decide.{dec_lt}
use lib.Dec.{eqb, ltb, leb}
use lib.Bits.{bit_or}
use lib.Pow.{field, mod-mod-pow}
use borrow.Author.Tests.{eq-eqb, ne_eqb, eqb-true, lt-ltb, le-ltb, ltb-true, le-leb, lt-leb, leb-true, not-false}
use Rattle.sets.specs.Mask.{bit, within, meet}
use Rattle.sets.proofs.Logic.{and_out, and_in, and_fails_l, or_in_l, or_in_r, or_none, not_both, refute, not_in}
use Rattle.sets.proofs.MaskLaws.{bit_zero, bit_suc, bit-or, bit_one, bit_high, in_one, in_r, bit_not, bit_lt, zero_none, within_out, within_in, meet_in}
use Rattle.sets.proofs.SearchLaws.{meet_out}
use Rattle.rules.specs.Book.{Book, roles, subjects, orders, cell_of, role_in, subject_in, names, bad_mask, bad_cell, bad_cell_at}
use Rattle.rules.proofs.BookLaws.{chosen, unchosen}
use Rattle.rules.proofs.WordLaws.{bad_word, bad_cell_lem}
use Rattle.scan.specs.Blocks.{has_role, cell_bad}

-- The word v is what stands at the place, x:
module _ {v x : ℕ} (t : Bool) (e : v ≡ x) where
  -- a word of 0 is good,
  pub zero_word : v ≡ 0 → bad_word x t ≡ false
  zero_word z = chosen false t (eqb x 0) (eq-eqb x 0 (sym e ∙ z))

  -- and another is as bad as the test of its place says.
  pub some_word : (v ≡ 0 → ⊥) → bad_word x t ≡ t
  some_word n = unchosen false t (eqb x 0) (ne_eqb x 0 (λ z. n (e ∙ z)))

-- 0 names nobody, and that is allowed; a number above 64 does not name ..
pub names_nobody : (m v : ℕ) → v ≡ 0 → names m v ≡ true
unfolding names
names_nobody m zero e = refl
names_nobody m (suc v) e = absurd (omega arith)

pub names_none : (m v : ℕ) → 64 < v → names m v ≡ false
unfolding names
names_none m zero h = absurd (omega arith)
names_none m (suc v) h = and_fails_l _ _ (le-ltb v 64 (omega arith))

-- .. and one of 1 to 64 names the number one below it.
pub names_one : (m v : ℕ) → (v ≡ 0 → ⊥) → v ≤ 64 → names m v ≡ bit m (v - 1)
unfolding names
names_one m zero n h = absurd (n refl)
names_one m (suc v) n h =
    let e : v ≡ suc v - 1 = omega arith in
    ap (λ (t : Bool). t && bit m v) (lt-ltb v 64 (omega arith)) ∙ ap (bit m) e

-- The set m moved up by one has v + 1 where m has v, for what does not fall off ..
moved_up : (m v : ℕ) → v < 63 → bit ((m * 2 ^ 1) % 2 ^ 64) (suc v) ≡ bit m v
unfolding bit
moved_up m v h =
    let half : (m * 2 ^ 1) % 2 ^ 64 / 2 ≡ m % 2 ^ 63 = omega arith in
    let at : 63 ≡ (62 - v + 1) + v = omega arith in
    bit_suc ((m * 2 ^ 1) % 2 ^ 64) v
    ∙ ap (λ (x : ℕ). eqb (x / 2 ^ v % 2) 1) half
    ∙ ap (λ (x : ℕ). eqb (x % 2) 1) (ap (λ (k : ℕ). m % 2 ^ k / 2 ^ v) at ∙ field m (62 - v + 1) v)
    ∙ ap (λ (x : ℕ). eqb x 1) (mod-mod-pow (m / 2 ^ v) (62 - v) 1)

-- .. and it has not 0.
moved_off : (m : ℕ) → bit ((m * 2 ^ 1) % 2 ^ 64) 0 ≡ false
moved_off m = let even : (m * 2 ^ 1) % 2 ^ 64 % 2 ≡ 0 = omega arith in bit_zero _ ∙ ap (λ (x : ℕ). eqb x 1) even

-- Where what fell off comes in there, it has all that name one of m, 64 at the place of 0 ..
names_turned : (m v : ℕ) → m < 2 ^ 64 → 0 < v → v ≤ 64 → bit (bit_or ((m * 2 ^ 1) % 2 ^ 64) (m / 2 ^ 63)) (v % 64) ≡ names m v
unfolding bit names
names_turned m zero hm h l = absurd (omega arith)
names_turned m (suc v) hm h l = go (dec_lt v 63) ∙ sym (ap (λ (t : Bool). t && bit m v) (lt-ltb v 64 (omega arith)))
  where
    up : ℕ
    up = (m * 2 ^ 1) % 2 ^ 64

    go : Dec (v < 63) → bit (bit_or up (m / 2 ^ 63)) (suc v % 64) ≡ bit m v
    go (yes k) =
        let at : suc v % 64 ≡ suc v = omega arith in
        ap (bit (bit_or up (m / 2 ^ 63))) at ∙ bit-or up (m / 2 ^ 63) (suc v)
        ∙ ap₂ ◌||◌ (moved_up m v k) (bit_high 1 (m / 2 ^ 63) (suc v) (omega arith) (omega arith)) ∙ or_none (bit m v)
    go (no k) =
        let at : suc v % 64 ≡ 0 = omega arith in
        let last : 63 ≡ v = omega arith in
        ap (bit (bit_or up (m / 2 ^ 63))) at ∙ bit-or up (m / 2 ^ 63) 0 ∙ ap₂ ◌||◌ (moved_off m) (bit_zero (m / 2 ^ 63)) ∙ ap (bit m) last

-- .. and where 0 does, below 64 all that name one or nobody.
pub names_low : (m v : ℕ) → v < 64 → bit (bit_or ((m * 2 ^ 1) % 2 ^ 64) 1) v ≡ names m v
unfolding names
names_low m zero h = in_r ((m * 2 ^ 1) % 2 ^ 64) 1 0 (in_one 0)
names_low m (suc v) h =
    bit-or ((m * 2 ^ 1) % 2 ^ 64) 1 (suc v)
    ∙ ap₂ ◌||◌ (moved_up m v (omega arith)) (bit_one 0 (suc v) ∙ ne_eqb 0 (suc v) (λ e. omega arith)) ∙ or_none (bit m v)
    ∙ sym (ap (λ (t : Bool). t && bit m v) (lt-ltb v 64 (omega arith)))

-- E of a cell is 1 to 64 exactly where the cell is 128 at least, and below 65 times that.
pub role_by_word : (v : ℕ) {low high : ℕ} → low ≡ cell_of 1 0 → high ≡ cell_of 64 127 → (leb low v && leb v high) ≡ has_role v
role_by_word v {low} {high} a b = ap₂ ◌&&◌ (some (dec_lt v 128)) (most (dec_lt 8319 v))
  where
    some : Dec (v < 128) → leb low v ≡ ltb 0 (role_in v)
    some (yes l) = lt-leb low v (omega arith) ∙ sym (le-ltb 0 (role_in v) (omega arith))
    some (no l) = le-leb low v (omega arith) ∙ sym (lt-ltb 0 (role_in v) (omega arith))

    most : Dec (8319 < v) → leb v high ≡ leb (role_in v) 64
    most (yes l) = lt-leb v high (omega arith) ∙ sym (lt-leb (role_in v) 64 (omega arith))
    most (no l) = le-leb v high (omega arith) ∙ sym (le-leb (role_in v) 64 (omega arith))

-- What is asked of the role and the subject in a cell of the order's tasks.
abbrev hand_bad : ℕ → ℕ → ℕ → Bool
hand_bad R S v = not (names R (role_in v)) || (not (names S (subject_in v)) || eqb (role_in v) 0)

-- A cell is bad outside its order's tasks,
pub outside_order_lem : (R S v : ℕ) {in_order : Bool} → in_order ≡ false → true ≡ bad_cell in_order R S v
unfolding bad_cell
outside_order_lem R S v e = sym (ap (λ (t : Bool). not t || hand_bad R S v) e)

-- and where E is not 1 to 64,
pub without_role : (R S v : ℕ) {in_order : Bool} → in_order ≡ true → has_role v ≡ false → true ≡ bad_cell in_order R S v
unfolding bad_cell
without_role R S v e h = go (dec_lt 0 (role_in v)) (dec_lt 64 (role_in v)) ∙ sym (ap (λ (t : Bool). not t || hand_bad R S v) e)
  where
    go : Dec (0 < role_in v) → Dec (64 < role_in v) → true ≡ hand_bad R S v
    go (no none) past =
        sym (or_in_r (not (names R (role_in v))) _ (or_in_r (not (names S (subject_in v))) (eqb (role_in v) 0) (eq-eqb (role_in v) 0 (omega arith))))
    go (yes some) (yes past) = sym (or_in_l (not (names R (role_in v))) _ (ap not (names_none R (role_in v) past)))
    go (yes some) (no past) = absurd (not_both (has_role v) (and_in (lt-ltb 0 (role_in v) some) (le-leb (role_in v) 64 (omega arith))) h)

-- and else as its role or its subject is unknown.
module _ (R S v : ℕ) (h_r : R < 2 ^ 64) {in_order k : Bool} (e : in_order ≡ true) (h : has_role v ≡ true)
    (looked : k ≡ bit (bit_or ((R * 2 ^ 1) % 2 ^ 64) (R / 2 ^ 63)) (role_in v % 64)) where
  known : k ≡ names R (role_in v)
  known =
      let x = and_out (ltb 0 (role_in v)) (leb (role_in v) 64) h in
      looked ∙ names_turned R (role_in v) h_r (ltb-true 0 (role_in v) x.0) (leb-true (role_in v) 64 x.1)

  asked : (not k || not (names S (subject_in v))) ≡ bad_cell in_order R S v
  unfolding bad_cell
  asked =
      let some = ltb-true 0 (role_in v) (and_out (ltb 0 (role_in v)) (leb (role_in v) 64) h).0 in
      ap₂ (λ (s t : Bool). not s || t) known
      (sym (ap (λ (t : Bool). not (names S (subject_in v)) || t) (ne_eqb (role_in v) 0 (λ z. omega arith)) ∙ or_none (not (names S (subject_in v)))))
      ∙ sym (ap (λ (t : Bool). not t || hand_bad R S v) e)

  pub role_unknown : k ≡ false → true ≡ bad_cell in_order R S v
  role_unknown f = sym (ap (λ (t : Bool). not t || not (names S (subject_in v))) f) ∙ asked

  pub role_known : k ≡ true → not (names S (subject_in v)) ≡ bad_cell in_order R S v
  role_known f = sym (ap (λ (t : Bool). not t || not (names S (subject_in v))) f) ∙ asked

-- A mask meets all that is not known exactly if it names something that is not known.
module _ (known v : ℕ) (hk : known < 2 ^ 64) (hv : v < 2 ^ 64) where
  strays : meet v (2 ^ 64 - 1 - known) ≡ not (within v known)
  strays = go (meet v other) refl
    where
      other : ℕ
      other = 2 ^ 64 - 1 - known

      outside : (j : ℕ) → bit v j ≡ true → bit other j ≡ not (bit known j)
      outside j p = bit_not 64 known j hk (bit_lt v j hv p)

      go : (t : Bool) → meet v other ≡ t → t ≡ not (within v known)
      go true e =
          let x = meet_out v other hv (omega arith) e in
          sym (not_in _ (λ w. not_both _ x.2 (outside x.0 x.1 ∙ ap not (within_out v known x.0 w x.1))))
      go false e =
          sym (ap not (within_in v known hv hk (λ j p. not-false _ (sym (outside j p) ∙ refute _ (λ q. not_both _ (meet_in v other j p q) e)))))

  -- So a mask of a defined owner is bad; a mask of 0 names nothing.
  pub mask_strays : meet v (2 ^ 64 - 1 - known) ≡ bad_word v (bad_mask true known v)
  unfolding bad_mask
  mask_strays = strays ∙ go (eqb v 0) refl
    where
      go : (t : Bool) → eqb v 0 ≡ t → not (within v known) ≡ (elim t as (λ (x : Bool). Bool) [ true ↦ false | false ↦ not (within v known) ])
      go true e = ap not (within_in v known hv hk (λ j p. absurd (zero_none j (eqb-true v 0 e) p)))
      go false e = refl

-- Of an undefined owner every mask but 0 is bad.
pub mask_astray : (known v : ℕ) → not (eqb v 0) ≡ bad_word v (bad_mask false known v)
unfolding bad_mask
mask_astray known v = go (eqb v 0)
  where
    go : (t : Bool) → not t ≡ (elim t as (λ (x : Bool). Bool) [ true ↦ false | false ↦ true ])
    go true = refl
    go false = refl

-- The cell of order p and task t, in which v stands: where that is 0, it is good,
module _ (d : Book) (p t : ℕ) {v : ℕ} (hp : p < 64) (ht : t < 64) (e : v ≡ d.cell p t) where
  pub zero_cell : v ≡ 0 → cell_bad d p t ≡ false
  zero_cell z = bad_cell_lem d p t hp ht ∙ zero_word _ e z

  -- else it is judged, where m is what the order has, and R and S the roles and subjects of the book.
  pub cell_judged : {m R S : ℕ} {s r : Bool} → (v ≡ 0 → ⊥) → r ≡ bad_cell s R S v → s ≡ bit m t → m ≡ d.row orders p → R ≡ roles d → S ≡ subjects d
      → r ≡ cell_bad d p t
  unfolding bad_cell_at
  cell_judged some a b q f g =
      a ∙ (λ i. bad_cell ((b ∙ ap (λ (x : ℕ). bit x t) q) i) (f i) (g i) (e i)) ∙ sym (some_word _ e some) ∙ sym (bad_cell_lem d p t hp ht)
