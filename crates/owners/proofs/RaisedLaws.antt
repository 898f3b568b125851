-- A round upwards from a set: who is added lies above the set, so the same lies above as before; and where nobody is added, nobody lies
-- above who is not in the set.
use mathlib.Core.Path.{◌≡◌, refl, sym, ap, ◌∙◌, subst}
use mathlib.Core.Logic.{◌⊎◌, inl, inr}
use mathlib.Core.Bool.{Bool, true, false, not}
use Prim.Native.Nat.{ℕ, ◌-◌, ◌^◌, ◌<◌}
use native.Mathlib.Decide.{ℕ_discrete}
use lib.Bits.{bit_and, bit_or, or_lt, or_zero_r}
use lib.Pow.{pow-lt}
use Rattle.sets.specs.Mask.{bit, without, meet, alone_if}
use Rattle.sets.specs.Search.{lowest}
use Rattle.sets.proofs.Logic.{not_both}
use Rattle.sets.proofs.MaskLaws.{bit_ext, bit_lt, bit_none, bit_not, in_one, one_out, in_l, in_r, in_cases, in_both, both_out}
use Rattle.sets.proofs.MaskLaws.{meet_in, within_in, without_old, only_yes, only_no}
use Rattle.sets.proofs.MemberLaws.{lowest_lt, lowest_in, rest_out}
use Rattle.chains.specs.Relation.{In, Step, Chain, stay, more}
use Rattle.chains.proofs.RelationLaws.{chain_join}
use Rattle.chains.proofs.ClosureLaws.{From, close_chain, from_close}
use Rattle.rules.specs.Book.{Book, roles, juniors}
use Rattle.rules.specs.Meaning.{Sized}
use Rattle.rules.proofs.Exactly.{Exactly, itself, exactly_as, exactly_meet, exactly_picked, exactly_same}
use Rattle.owners.specs.Rising.{seniors, above, Raised}
use Rattle.owners.proofs.RisingLaws.{seniors_lt, above_lt}

-- As a round from m goes on: `all` with what was added, and who is left to be asked.
pub record Raising (d : Book) (m all left : ℕ) : Type 0 where
  pub small : all < 2 ^ 64
  pub grown : (k : ℕ) → In m k → In all k
  pub same : above d all ≡ above d m
  pub defined : (k : ℕ) → In left k → In (roles d) k
  pub asked : all ≡ m → (k : ℕ) → k < 64 → bit left k ≡ false → In (roles d) k → meet (d.row juniors k) m ≡ true → In m k

module _ (d : Book) (s : Sized d) where
  -- A role that has a junior in m is one step up from it.
  one_up : (m r : ℕ) → m < 2 ^ 64 → In (roles d) r → meet (d.row juniors r) m ≡ true → (j : ℕ) × In m j × Step (seniors d) j r
  one_up m r h i e =
      let o = (exactly_meet (d.row juniors r) m ((s.rows juniors).fits r) h).means e in
      (o.0, o.2, (exactly_picked (λ k. bit (d.row juniors k) o.0) (roles d) r (s.head.fits 1) (itself (bit (d.row juniors r) o.0))).holds (i, o.1))

  above_from : (m i : ℕ) → m < 2 ^ 64 → Exactly (bit (above d m) i) (From (seniors d) m i)
  above_from m i h = record { means = close_chain (seniors d) (seniors_lt d s) m i; holds = from_close (seniors d) (seniors_lt d s) m i h }

  -- With it the same lies above.
  above_with : (m r : ℕ) → m < 2 ^ 64 → In (roles d) r → meet (d.row juniors r) m ≡ true → above d (bit_or m (2 ^ r)) ≡ above d m
  above_with m r h i e =
      bit_ext 64 _ _ (above_lt d s (bit_or m (2 ^ r)) wide) (above_lt d s m h) (λ k l.
      exactly_same (above_from (bit_or m (2 ^ r)) k wide) (exactly_as up (down k) (above_from m k h)))
    where
      wide : bit_or m (2 ^ r) < 2 ^ 64
      wide = let l = bit_lt (roles d) r (s.head.fits 1) i in or_lt 64 m (2 ^ r) h (pow-lt l)

      up : {k : ℕ} → From (seniors d) m k → From (seniors d) (bit_or m (2 ^ r)) k
      up w = (w.0, in_l m (2 ^ r) w.0 w.1, w.2)

      down : (k : ℕ) → From (seniors d) (bit_or m (2 ^ r)) k → From (seniors d) m k
      down k w = go (in_cases m (2 ^ r) w.0 w.1)
        where
          go : In m w.0 ⊎ In (2 ^ r) w.0 → From (seniors d) m k
          go (inl q) = (w.0, q, w.2)
          go (inr q) =
              let o = one_up m r h i e in
              (o.0, o.1, chain_join (more stay o.2) (subst (λ (x : ℕ). Chain (Step (seniors d)) x k) (sym (one_out r w.0 q)) w.2))

  -- Where each role that has a junior in m is in m, nothing else lies above.
  above_closed : (m : ℕ) → m < 2 ^ 64 → ((k : ℕ) → k < 64 → In (roles d) k → meet (d.row juniors k) m ≡ true → In m k) → above d m ≡ m
  above_closed m h closed =
      bit_ext 64 _ _ (above_lt d s m h) h (λ i l.
      exactly_same (above_from m i h) (exactly_as (λ e. (i, e, stay)) (λ w. walk w.1 w.2) (itself (bit m i))))
    where
      walk : {i k : ℕ} → In m i → Chain (Step (seniors d)) i k → In m k
      walk e stay = e
      walk e (more {j = j} {k = k} c q) =
          let x = (exactly_picked (λ r. bit (d.row juniors r) j) (roles d) k (s.head.fits 1) (itself (bit (d.row juniors k) j))).means q in
          closed k (bit_lt (roles d) k (s.head.fits 1) x.0) x.0 (meet_in (d.row juniors k) m j x.1 (walk e c))

  module _ (m : ℕ) (fits : m < 2 ^ 64) where
    -- It begins with the roles that are not in m.
    pub raise_start : {rs : ℕ} → rs ≡ roles d → Raising d m m (bit_and rs (2 ^ 64 - 1 - m))
    raise_start {rs} e = record {
      small = fits;
      grown = λ k i. i;
      same = refl;
      defined = λ k i. subst (λ (x : ℕ). In x k) e (both_out rs (2 ^ 64 - 1 - m) k i).0;
      asked = λ q k l out i z. among_them k l out (subst (λ (x : ℕ). In x k) (sym e) i) (bit m k) refl;
    }
      where
        among_them : (k : ℕ) → k < 64 → bit (bit_and rs (2 ^ 64 - 1 - m)) k ≡ false → In rs k → (t : Bool) → bit m k ≡ t → In m k
        among_them k l out i true e = e
        among_them k l out i false e =
            absurd (not_both _ (in_both rs (2 ^ 64 - 1 - m) k i (bit_not 64 m k fits l ∙ ap not e)) out)

    -- The lowest of those left is asked, and joins where it has a junior in what there is. On with the rest ..
    pub raise_on : (all left : ℕ) {v : ℕ} → 0 < left → left < 2 ^ 64 → Raising d m all left
        → v ≡ alone_if (λ i. meet (d.row juniors i) all) (lowest (bit left)) → Raising d m (bit_or all v) (without left (lowest (bit left)))
    raise_on all left {v} some small now e = go (meet (d.row juniors r) all) refl
      where
        r : ℕ
        r = lowest (bit left)

        old : (k : ℕ) → In (without left r) k → In left k
        old k = without_old left r k

        -- what lies between m and m is m
        between : bit_or all (2 ^ r) ≡ m → all ≡ m
        between z = bit_ext 64 all m now.small fits (λ k l. exactly_same
            (exactly_as (λ i. subst (λ (x : ℕ). In x k) z (in_l all (2 ^ r) k i)) (now.grown k) (itself (bit all k))) (itself (bit m k)))

        -- who is not left any more is r, or was not left before
        asked_on : (all ≡ m → In (roles d) r → meet (d.row juniors r) m ≡ true → In m r) → all ≡ m
            → (k : ℕ) → k < 64 → bit (without left r) k ≡ false → In (roles d) k → meet (d.row juniors k) m ≡ true → In m k
        asked_on here q k l out i z = at (ℕ_discrete r k)
          where
            at : Dec (r ≡ k) → In m k
            at (yes p) = subst (In m) p (here q (subst (In (roles d)) (sym p) i) (ap (λ (x : ℕ). meet (d.row juniors x) m) p ∙ z))
            at (no p) = now.asked q k l (rest_out left some small k l out p) i z

        go : (t : Bool) → meet (d.row juniors r) all ≡ t → Raising d m (bit_or all v) (without left r)
        go true q =
            let one : v ≡ 2 ^ r = e ∙ only_yes _ _ q in
            let in-roles = now.defined r (lowest_in left some small) in
            let l = lowest_lt left some small in
            subst (λ (x : ℕ). Raising d m (bit_or all x) (without left r)) (sym one) (record {
              small = or_lt 64 all (2 ^ r) now.small (pow-lt l);
              grown = λ k i. in_l all (2 ^ r) k (now.grown k i);
              same = above_with all r now.small in-roles q ∙ now.same;
              defined = λ k i. now.defined k (old k i);
              asked = λ z. asked_on (λ a i j. subst (λ (x : ℕ). In x r) z (in_r all (2 ^ r) r (in_one r))) (between z);
            })
        go false q =
            let none : bit_or all v ≡ all = ap (bit_or all) (e ∙ only_no _ _ q) ∙ or_zero_r all in
            subst (λ (x : ℕ). Raising d m x (without left r)) (sym none) (record {
              small = now.small;
              grown = now.grown;
              same = now.same;
              defined = λ k i. now.defined k (old k i);
              asked = asked_on (λ a i j. absurd (not_both _ j (ap (meet (d.row juniors r)) (sym a) ∙ q)));
            })

    -- .. until nobody is left.
    pub raise_done : (all : ℕ) → Raising d m all 0 → Raised d m all
    raise_done all now = (within_in m all fits now.small now.grown, now.same, λ q. above_closed m fits (λ k l i z. now.asked q k l (bit_none k) i z))
