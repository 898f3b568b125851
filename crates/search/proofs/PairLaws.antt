-- How a nested search shows that it gives the pair of a test, and how a caller says the pair as an answer.
use mathlib.Core.Path.{◌≡◌, refl, sym, ap, ◌∙◌}
use mathlib.Core.Bool.{Bool, true, false, ◌&&◌}
use Rattle.std.proofs.Common.{Option, Some, None}
use Prim.Native.Nat.{ℕ, ◌-◌, ◌^◌, ◌≤◌, ◌<◌}
use native.Mathlib.Omega.{arith}
use native.Mathlib.Decide.{dec_lt}
use lib.Dec.{ltb}
use lib.Bits.{bit_and}
use borrow.Author.Tests.{lt-ltb, le-ltb}
use Rattle.sets.specs.Mask.{bit, without}
use Rattle.sets.specs.Search.{lowest, paired}
use Rattle.sets.proofs.Logic.{and_fails_l}
use Rattle.sets.proofs.MaskLaws.{bit-and, bit_none, bit_not}
use Rattle.sets.proofs.SearchLaws.{lowest_end, lowest_most, lowest_same, none_found}
use Rattle.sets.proofs.MemberLaws.{lowest_lt, lowest_in, Seen, seen_on, seen_at}
use Rattle.rules.specs.Numbers.{Said, say_xyz, some_pair, given, given_pair_in, outside, between}
use Rattle.search.specs.Pairs.{is_pair, pair_of, found_pair, told_pair}

module _ (f : ℕ → ℕ → Bool) where
  -- The pair is x, the lowest with a partner, and y, its lowest partner.
  pub found_at : (x y : ℕ) → x < 64 → x ≡ lowest (paired f) → y ≡ lowest (f x) → Some (x, y) ≡ found_pair f
  unfolding found_pair pair_of
  found_at x y h e p =
      ap (λ (v : ℕ). Some (x, v)) p
      ∙ sym (ap (λ (t : Bool). elim t as (λ (z : Bool). Option (ℕ × ℕ)) [ true ↦ Some (x, lowest (f x)) | false ↦ None ]) (lt-ltb x 64 h))
      ∙ ap (pair_of f) e

  -- There is no pair where none has a partner.
  pub nothing_at : 64 ≡ lowest (paired f) → None ≡ found_pair f
  unfolding found_pair pair_of
  nothing_at e = ap (pair_of f) e

  -- The pair said as an answer is the answer of the rules.
  pub pair_said : (n z : ℕ) (rest : Said) → told_pair n (found_pair f) z rest ≡ given_pair_in n f z rest
  unfolding found_pair pair_of given_pair_in given
  pair_said n z rest = go (lowest (paired f)) (ltb (lowest (paired f)) 64)
    where
      go : (x : ℕ) (t : Bool) → told_pair n (elim t [ true ↦ Some (x, lowest (f x)) | false ↦ None ]) z rest
          ≡ (elim t as (λ (z : Bool). Said) [ true ↦ say_xyz n x (lowest (f x)) z | false ↦ rest ])
      go x true = refl
      go x false = refl

  -- For a caller of a search that gave v: where v is a pair, the number is given with it ..
  pub given_pair_lem : (n z : ℕ) (rest : Said) {v : Option (ℕ × ℕ)} {x y : ℕ} → v ≡ found_pair f → v ≡ Some (x, y) → given_pair_in n f z rest ≡ say_xyz n x y z
  given_pair_lem n z rest e p = sym (pair_said n z rest) ∙ ap (λ (w : Option (ℕ × ℕ)). told_pair n w z rest) (sym e ∙ p)

  -- .. and where it is nothing, the rest is asked.
  pub given_nothing : (n z : ℕ) (rest : Said) {v : Option (ℕ × ℕ)} → v ≡ found_pair f → v ≡ None → given_pair_in n f z rest ≡ rest
  given_nothing n z rest e p = sym (pair_said n z rest) ∙ ap (λ (w : Option (ℕ × ℕ)). told_pair n w z rest) (sym e ∙ p)

  -- There is a pair exactly where one is found.
  pub found_some : {v : Option (ℕ × ℕ)} → v ≡ found_pair f → is_pair v ≡ some_pair f
  unfolding found_pair pair_of
  found_some e = ap is_pair e ∙ go (lowest (paired f)) (ltb (lowest (paired f)) 64)
    where
      go : (x : ℕ) (t : Bool) → is_pair (elim t [ true ↦ Some (x, lowest (f x)) | false ↦ None ]) ≡ t
      go x true = refl
      go x false = refl

-- Two tests that say the same of all numbers of 0..63 have the same pair.
pub found_same : (f g : ℕ → ℕ → Bool) → ((u v : ℕ) → u < 64 → v < 64 → f u v ≡ g u v) → found_pair f ≡ found_pair g
found_same f g same = go (dec_lt (lowest (paired f)) 64)
  where
    first : lowest (paired f) ≡ lowest (paired g)
    first = lowest_same (paired f) (paired g) (λ u hu. ap (λ (k : ℕ). ltb k 64) (lowest_same (f u) (g u) (λ v hv. same u v hu hv)))

    go : Dec (lowest (paired f) < 64) → found_pair f ≡ found_pair g
    go (yes h) =
        let x = lowest (paired f) in
        sym (found_at f x (lowest (f x)) h refl refl) ∙ found_at g x (lowest (f x)) h first (lowest_same (f x) (g x) (λ v hv. same x v h hv))
    go (no h) =
        let end : 64 ≡ lowest (paired f) = omega (arith, lowest_most 64 0 (paired f)) in
        sym (nothing_at f end) ∙ nothing_at g (end ∙ first)

-- Nobody is the lowest of an empty set.
pub lowest_none : {m : ℕ} → m ≡ 0 → 64 ≡ lowest (bit m)
lowest_none e = lowest_end 64 (bit 0) (λ k l. bit_none k) ∙ ap (λ (m : ℕ). lowest (bit m)) (sym e)

-- As a search over the members of xs shows the pair.
module _ (rows : ℕ → ℕ) (xs ys : ℕ) where
  -- Who is not one of xs has no partner.
  pub none_outside : (x : ℕ) → bit xs x ≡ false → paired (between rows xs ys) x ≡ false
  none_outside x e = none_found (between rows xs ys x) (λ y h. and_fails_l (bit xs x) _ e)

  -- Those left are of xs; x is the lowest of them, and y the lowest of ys in its row, or 64.
  module _ {left x row y : ℕ} (some : 0 < left) (fits : left < 2 ^ 64) (inside : (k : ℕ) → bit left k ≡ true → bit xs k ≡ true)
      (at : x ≡ lowest (bit left)) (read : row ≡ rows x) (end : y ≡ lowest (bit (bit_and row ys))) where
    -- y is x's lowest partner,
    partner : y ≡ lowest (between rows xs ys x)
    partner =
        end
        ∙ ap (λ (m : ℕ). lowest (bit (bit_and m ys))) read
        ∙ lowest_same _ (between rows xs ys x) (λ v h. bit-and (rows x) ys v ∙ sym (ap (λ (t : Bool). t && (bit (rows x) v && bit ys v))
        (inside x (ap (bit left) at ∙ lowest_in left some fits))))

    -- and says so whether x has one
    has : {t : Bool} → ltb y 64 ≡ t → paired (between rows xs ys) (lowest (bit left)) ≡ t
    has e = ap (paired (between rows xs ys)) (sym at) ∙ ap (λ (k : ℕ). ltb k 64) (sym partner) ∙ e

    -- x has a partner: the pair is found
    pub pair_at : y < 64 → Seen (paired (between rows xs ys)) false left → Some (x, y) ≡ found_pair (between rows xs ys)
    pair_at h seen =
        let f = between rows xs ys in
        found_at f x y (omega (arith, lowest_lt left some fits)) (at ∙ seen_at (paired f) some fits seen (has (lt-ltb y 64 h))) partner

    -- x has none: on with the rest
    pub pair_on : 64 ≤ y → Seen (paired (between rows xs ys)) false left → Seen (paired (between rows xs ys)) false (without left (lowest (bit left)))
    pair_on h seen = seen_on (paired (between rows xs ys)) some fits seen (has (le-ltb y 64 h))

-- The members of xs that are none of ys, as one set.
pub outside_set : (xs ys : ℕ) → ys < 2 ^ 64 → lowest (bit (bit_and xs (2 ^ 64 - 1 - ys))) ≡ lowest (outside xs ys)
outside_set xs ys h =
    lowest_same _ (outside xs ys) (λ t l. bit-and xs (2 ^ 64 - 1 - ys) t ∙ ap (λ (x : Bool). bit xs t && x) (bit_not 64 ys t h l))
