-- Laws of the names that lines give: the part of the text, of which one end or both may lie behind it, and the lines that give none.
use mathlib.Core.Path.{◌≡◌, refl, sym, ap, ◌∙◌}
use mathlib.Core.Logic.{◌⊎◌, inl, inr}
use mathlib.Core.List.{List, [], ◌∷◌}
use Prim.Native.Nat.{ℕ, zero, suc, ◌-◌, ◌<◌, min}
use native.Mathlib.Omega.{arith}
use native.Mathlib.Nat.{eq-or-lt_of_le, zero-min, min-zero, suc-min-suc}
use lib.ListN.{length, take, drop, length-drop}
use Rattle.labels.specs.declared.Sort.{Sort}
use Rattle.typed.specs.Words.{part}
use Rattle.typed.specs.declared.Line.{Line}
use Rattle.typed.specs.declared.Line.TheVariants.{Blank, Ask, Try, Name, Show, ShowOne, Audit, Help, HelpOn, Quit, Fault}
use Rattle.panel.specs.Acts.{names_after}

-- No more is taken than there is.
take_least : (n : ℕ) (l : List ℕ) → take n l ≡ take (min n (length l)) l
take_least zero l = rw (zero-min (length l))
take_least (suc n) [] = rw (min-zero (suc n))
take_least (suc n) (x ∷ xs) = rw (suc-min-suc n (length xs)) (ap (λ (r : List ℕ). x ∷ r) (take_least n xs))

-- As much is taken, where it comes to the same.
take_same : (n m : ℕ) (l : List ℕ) → min n (length l) ≡ min m (length l) → take n l ≡ take m l
take_same n m l e = take_least n l ∙ ap (λ (k : ℕ). take k l) e ∙ sym (take_least m l)

-- What is left of a text of n bytes from `start` to before `end` is as much once `end` is drawn into it ..
left_same : (start end n : ℕ) → min (min end n - start) (n - start) ≡ min (end - start) (n - start)
left_same start end n = omega arith

-- .. and nothing, where that is before `start`.
left_none : (start end n : ℕ) → min end n < start → min 0 (n - start) ≡ min (end - start) (n - start)
left_none start end n h = omega arith

-- A part is the same once its ends are drawn into the text.
module _ (text : List ℕ) (start end from to : ℕ) (last : to ≡ min end (length text)) (first : from ≡ min start to) where
  pub part_within : part from to text ≡ part start end text
  part_within = go (eq-or-lt_of_le {n = from} {m = start} (omega (arith, first)))
    where
      size : length (drop start text) ≡ length text - start
      size = length-drop start text

      go : (from ≡ start) ⊎ (from < start) → part from to text ≡ part start end text
      go (inl e) =
          rw (e, last)
          (take_same (min end (length text) - start) (end - start) (drop start text) (rw (size) (left_same start end (length text))))
      go (inr h) =
          let none : to - from ≡ 0 = omega (arith, first, h) in
          let short : min end (length text) < start = omega (arith, last, first, h) in
          rw (none) (take_same 0 (end - start) (drop start text) (rw (size) (left_none start end (length text) short)))

-- A line that is no `name` gives none.
pub names_kept : (names text : List ℕ) (line : Line) → ((sort : Sort) (n start end : ℕ) → line ≡ Name sort n start end → ⊥)
    → names ≡ names_after names text line
names_kept names text (Name sort n start end) other = absurd (other sort n start end refl)
names_kept names text Blank other = refl
names_kept names text (Ask q) other = refl
names_kept names text (Try q) other = refl
names_kept names text Show other = refl
names_kept names text (ShowOne sort n) other = refl
names_kept names text Audit other = refl
names_kept names text Help other = refl
names_kept names text (HelpOn row) other = refl
names_kept names text Quit other = refl
names_kept names text (Fault reason start) other = refl
