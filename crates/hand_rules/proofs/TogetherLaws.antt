-- Rule 10 from the lowest of a group: where the tables are symmetric, all tasks of a group have that group, so that those of an
-- order agree with one another exactly where each agrees with the lowest of them.
use mathlib.Core.Path.{◌≡◌, refl, sym, ap, ◌∙◌}
use mathlib.Core.Logic.{inl, inr}
use mathlib.Core.Bool.{Bool, true, false}
use Prim.Native.Nat.{ℕ, ◌<◌}
use native.Mathlib.Omega.{arith}
use lib.Dec.{eqb}
use lib.Bits.{bit_and}
use borrow.Author.Tests.{eqb-true, eq-eqb}
use Rattle.sets.specs.Mask.{bit, only}
use Rattle.sets.specs.Search.{lowest, all}
use Rattle.sets.proofs.Logic.{not_both, refute}
use Rattle.sets.proofs.MaskLaws.{bit_none, in_both, both_out, zero_none}
use Rattle.sets.proofs.SearchLaws.{lowest_passes, lowest_first, lowest_some, lowest_is}
use Rattle.chains.specs.Relation.{Relation, In, Step, Chain, stay}
use Rattle.chains.proofs.RelationLaws.{chain_join, chain_turn, chain_alone}
use Rattle.rules.specs.Book.{Book, tasks, RB, SB, orders, role_in, subject_in}
use Rattle.rules.specs.Trade.{subject_group, role_group}
use Rattle.rules.specs.Audit.{implies}
use Rattle.rules.specs.Meaning.{Tall, Sized, Formed, Symmetric, Both, OneValue, Mixed, Keeps}
use Rattle.rules.proofs.Exactly.{Exactly, itself, exactly_as, exactly_and, exactly_implies, exactly_eqb, exactly_all}
use Rattle.rules.proofs.TradeLaws.{step_from, step_to, Shows, subject_group_lem, role_group_lem}
use Rattle.hand_rules.specs.Hands.{from_lowest, same_hand, together_in, bound_together}

-- u is the lowest of the set, and v is in it.
abbrev Under : ℕ → ℕ → ℕ → Type 0
Under set u v = (lowest (bit set) ≡ u) × In set v

-- So it is of the members of the set that starts from u.
under_exactly : (set u v : ℕ) → Exactly (bit (from_lowest set u) v) (Under set u v)
under_exactly set u v = record { means = out (eqb (lowest (bit set)) u) refl; holds = λ x. rw (eq-eqb (lowest (bit set)) u x.0) x.1 }
  where
    out : (t : Bool) → eqb (lowest (bit set)) u ≡ t → In (only t set) v → Under set u v
    out true e i = (eqb-true (lowest (bit set)) u e, i)
    out false e i = absurd (zero_none v refl i)

-- Groups along E, as sets; the tasks of the orders o, and a value of their cells.
module _ {E : Relation} {group o : ℕ → ℕ} (shows : Shows (Chain E) group) (t : Tall o) (cell : ℕ → ℕ → ℕ) (value : ℕ → ℕ) where
  -- The tasks of order p in the group of u, where u is the lowest of them, have its value.
  abbrev LikeLowest : ℕ → ℕ → ℕ → Type 0
  LikeLowest p u v = Under (bit_and (o p) (group u)) u v → value (cell p u) ≡ value (cell p v)

  -- One value in a group is one value with the lowest ..
  like_lowest : OneValue o cell E value → (p u v : ℕ) → u < 64 → In (o p) u → LikeLowest p u v
  like_lowest f p u v h i x = let b = both_out (o p) (group u) v x.1 in f p u v (i, b.0) ((shows.says u v h).means b.1)

  -- .. and back, along a symmetric E: the lowest of a group in the order has the same group.
  one_value : Symmetric E → ((p u v : ℕ) → Both o p u v → LikeLowest p u v) → OneValue o cell E value
  one_value turn f p u v b k = sym (f p w u (wi.0, b.0) (low, there u b.0 stay)) ∙ f p w v (wi.0, b.1) (low, there v b.1 k)
    where
      hu : u < 64
      hu = step_to t p u b.0

      -- the group of u in the order, and its lowest task
      set : ℕ
      set = bit_and (o p) (group u)

      w : ℕ
      w = lowest (bit set)

      hw : w < 64
      hw = lowest_some 64 0 (bit set) u (omega arith) (omega (arith, hu)) (in_both (o p) (group u) u b.0 ((shows.says u u hu).holds stay))

      wi : In (o p) w × In (group u) w
      wi = both_out (o p) (group u) w (lowest_passes 64 0 (bit set) hw)

      way : Chain E u w
      way = (shows.says u w hu).means wi.1

      -- whom chains lead to from u, they lead to from w, and back
      there : (x : ℕ) → In (o p) x → Chain E u x → In (bit_and (o p) (group w)) x
      there x i c = in_both (o p) (group w) x i ((shows.says w x hw).holds (chain_join (chain_turn turn way) c))

      here : (x : ℕ) → In (bit_and (o p) (group w)) x → In set x
      here x e =
          let i = both_out (o p) (group w) x e in
          in_both (o p) (group u) x i.0 ((shows.says u x hu).holds (chain_join way ((shows.says w x hw).means i.1)))

      -- so w is the lowest of its own group in the order
      low : lowest (bit (bit_and (o p) (group w))) ≡ w
      low =
          lowest_is 64 0 (bit (bit_and (o p) (group w))) w (omega arith) hw (there w wi.0 way)
          (λ j l q. refute _ (λ e. not_both _ (here j e) (lowest_first 64 0 (bit set) j l q)))

-- An order without tasks asks nothing.
pub together_nowhere : (d : Book) (by_subject by_role u p : ℕ) → d.row orders p ≡ 0 → together_in d by_subject by_role u p ≡ true
together_nowhere d by_subject by_role u p z =
    let narrow = from_lowest (bit_and (d.row orders p) by_subject) u in
    let wide = from_lowest (bit_and (d.row orders p) by_role) u in
    ap (λ (t : Bool). implies t (all 64 (same_hand d p narrow wide (d.cell p u)))) (ap (λ (m : ℕ). bit m u) z ∙ bit_none u)

module _ (d : Book) (s : Sized d) where
  -- What the test of u asks, of both groups.
  abbrev Like : ℕ → Type 0
  Like u =
      (p : ℕ) → p < 64 → In (d.row orders p) u → (v : ℕ) → v < 64
      → LikeLowest (subject_group_lem d s) (s.rows orders) d.cell subject_in p u v × LikeLowest (role_group_lem d s) (s.rows orders) d.cell role_in p u v

  -- It holds exactly then.
  bound_exactly : (u : ℕ) → Exactly (bound_together d u) (Like u)
  unfolding bound_together
  bound_exactly u = exactly_all 64 _ (λ p hp. exactly_implies (itself (bit (d.row orders p) u)) (exactly_all 64 _ (λ v hv. exactly_and
      (exactly_implies (under_exactly (bit_and (d.row orders p) (subject_group d u)) u v) (exactly_eqb (subject_in (d.cell p u)) (subject_in (d.cell p v))))
      (exactly_implies (under_exactly (bit_and (d.row orders p) (role_group d u)) u v) (exactly_eqb (role_in (d.cell p u)) (role_in (d.cell p v)))))))

  -- Who is bound to nobody is a group alone.
  pub bound_alone : (u : ℕ) → u < 64 → ((v : ℕ) → Mixed (d.row SB) (d.row RB) u v → ⊥) → bound_together d u ≡ true
  bound_alone u h f = (bound_exactly u).holds (λ p hp i v hv. (
    λ x. ap (λ (t : ℕ). subject_in (d.cell p t))
        (chain_alone (λ j e. f j (inl e)) (((subject_group_lem d s).says u v h).means (cut p v (subject_group d u) x.1))),
    λ x. ap (λ (t : ℕ). role_in (d.cell p t)) (chain_alone f (((role_group_lem d s).says u v h).means (cut p v (role_group d u) x.1))),
  ))
    where
      cut : (p v set : ℕ) → In (bit_and (d.row orders p) set) v → In set v
      cut p v set i = (both_out (d.row orders p) set v i).1

  -- So is who is undefined, in a well-formed book.
  pub undefined_bound : Formed d → (u : ℕ) → u < 64 → bit (tasks d) u ≡ false → bound_together d u ≡ true
  undefined_bound f u h out = bound_alone u h step
    where
      step : (v : ℕ) → Mixed (d.row SB) (d.row RB) u v → ⊥
      step v (inl e) = not_both _ (f.sb u v e).0 out
      step v (inr e) = not_both _ (f.rb u v e).0 out

  -- Where rule 2 is kept, rule 10 is kept exactly where each group goes with its lowest task.
  pub together_exactly : Keeps d 2 → Exactly (all 64 (bound_together d)) (Keeps d 10)
  together_exactly rule2 =
      exactly_as
      (λ g. (
        one_value (subject_group_lem d s) o d.cell subject_in sb (λ p u v b. (at g p u v b).0),
        one_value (role_group_lem d s) o d.cell role_in either (λ p u v b. (at g p u v b).1),
      ))
      (λ g u hu p hp i v hv. (
        like_lowest (subject_group_lem d s) o d.cell subject_in g.0 p u v hu i,
        like_lowest (role_group_lem d s) o d.cell role_in g.1 p u v hu i,
      ))
      (exactly_all 64 (bound_together d) (λ u h. bound_exactly u))
    where
      o : Tall (d.row orders)
      o = s.rows orders

      sb : Symmetric (Step (d.row SB))
      sb = rule2.1.1.1

      either : Symmetric (Mixed (d.row SB) (d.row RB))
      either u v (inl e) = inl (sb u v e)
      either u v (inr e) = inr (rule2.1.1.0 u v e)

      at : ((u : ℕ) → u < 64 → Like u) → (p u v : ℕ) → Both (d.row orders) p u v
          → LikeLowest (subject_group_lem d s) o d.cell subject_in p u v × LikeLowest (role_group_lem d s) o d.cell role_in p u v
      at g p u v b = g u (step_to o p u b.0) p (step_from o p u b.0) b.0 v (step_to o p v b.1)
