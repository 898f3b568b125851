-- An owner owns a role, or one of some tasks, exactly if it starts with a role from which that is found upwards.
-- So what document 01 asks of each owner is asked once, from the role or the tasks, and the owners are read off.
use mathlib.Core.Path.{◌≡◌, sym, ap, ap₂, ◌∙◌, subst}
use mathlib.Core.Bool.{Bool, true, ◌&&◌}
use Rattle.std.proofs.Common.{Option, None}
use Prim.Native.Nat.{ℕ, ◌^◌, ◌<◌}
use lib.Bits.{bit_and, and_lt}
use lib.Pow.{pow-lt}
use Rattle.sets.specs.Mask.{bit, meet, picked}
use Rattle.sets.specs.Search.{lowest}
use Rattle.sets.specs.Members.{IsLowest}
use Rattle.sets.proofs.Logic.{and_out, refute}
use Rattle.sets.proofs.MaskLaws.{bit-and, bit_ext, in_one, one_out, zero_none, only_lt, only_yes, picked_lt}
use Rattle.sets.proofs.SearchLaws.{lowest_same, lowest_end}
use Rattle.chains.specs.Relation.{In, Step, Chain, stay, more}
use Rattle.chains.proofs.RelationLaws.{chain_join}
use Rattle.chains.proofs.ClosureLaws.{close_lt, close_chain, from_close}
use Rattle.rules.specs.Book.{Book, roles, subjects, tasks, SME, juniors, tasks_of, roles_of}
use Rattle.rules.specs.Meaning.{Sized, Formed, OwnedFrom}
use Rattle.rules.specs.Trade as trade
use Rattle.rules.specs.Numbers.{owns_both, has_some, clashing}
use Rattle.rules.proofs.Exactly.{Exactly, itself, exactly_as, exactly_and, exactly_meet, exactly_only, exactly_picked, exactly_some, exactly_same}
use Rattle.rules.proofs.TradeLaws.{below_out, below_in, owned_out, owned_in, owned_lt}
use Rattle.owners.specs.Owners.{start_of, clashes_below, found_clash}
use Rattle.owners.specs.Rising.{seniors, above, owners_of, starters, all_clashing, starts_in_both}
use Rattle.owners.specs.declared.Owner.{Owner}
use Rattle.owners.specs.declared.Owner.TheVariants.{Role, Subject}
use Rattle.owners.proofs.ClashLaws.{none_at}

module _ (d : Book) (s : Sized d) where
  pub seniors_lt : (j : ℕ) → seniors d j < 2 ^ 64
  seniors_lt j = picked_lt (λ i. bit (d.row juniors i) j) (roles d)

  pub above_lt : (m : ℕ) → m < 2 ^ 64 → above d m < 2 ^ 64
  above_lt m h = close_lt (seniors d) seniors_lt 64 m h

  pub owners_lt : (ts : ℕ) → owners_of d ts < 2 ^ 64
  owners_lt ts = above_lt _ (picked_lt (λ r. meet (d.row tasks_of r) ts) (roles d))

-- In a well-formed book.
module _ (d : Book) (s : Sized d) (f : Formed d) where
  -- A step up is a step down, turned; so are chains.
  senior : (j i : ℕ) → Exactly (bit (seniors d j) i) (Step (d.row juniors) i j)
  senior j i =
      exactly_as (λ x. x.1) (λ e. ((f.juniors_formed i j e).0, e))
      (exactly_picked (λ k. bit (d.row juniors k) j) (roles d) i (s.head.fits 1) (itself (bit (d.row juniors i) j)))

  chain_up : {i j : ℕ} → Chain (Step (d.row juniors)) i j → Chain (Step (seniors d)) j i
  chain_up stay = stay
  chain_up (more {j = j} {k = k} c e) = chain_join (more stay ((senior k j).holds e)) (chain_up c)

  chain_down : {j i : ℕ} → Chain (Step (seniors d)) j i → Chain (Step (d.row juniors)) i j
  chain_down stay = stay
  chain_down (more {j = j} {k = k} c e) = chain_join (more stay ((senior j k).means e)) (chain_down c)

  -- Above a set are those from which a chain leads into it.
  above_exactly : (m : ℕ) → m < 2 ^ 64 → (r : ℕ) → Exactly (bit (above d m) r) ((q : ℕ) × Chain (Step (d.row juniors)) r q × In m q)
  above_exactly m h r = record {
    means = λ e. (let w = close_chain (seniors d) (seniors_lt d s) m r e in (w.0, chain_down w.2, w.1));
    holds = λ x. from_close (seniors d) (seniors_lt d s) m r h (x.0, x.2, chain_up x.1);
  }

  -- The owners that start with a role of m.
  starters_exactly : (owner : Owner) (m : ℕ) → m < 2 ^ 64 → (o : ℕ) → Exactly (bit (starters d owner m) o) ((r : ℕ) × In (start_of d owner o) r × In m r)
  starters_exactly Role m h o =
      exactly_as (λ e. (o, in_one o, e)) (λ x. subst (In m) (sym (one_out o x.0 x.1)) x.2) (itself (bit m o))
  starters_exactly Subject m h o =
      exactly_as (λ x. x.1) (λ x. ((f.roles_formed o x.0 x.1).0, x))
      (exactly_picked (λ k. meet (d.row roles_of k) m) (subjects d) o (s.head.fits 2) (exactly_meet (d.row roles_of o) m ((s.rows roles_of).fits o) h))

  start_lt : (owner : Owner) (o : ℕ) → o < 64 → start_of d owner o < 2 ^ 64
  start_lt Role o l = pow-lt l
  start_lt Subject o l = (s.rows roles_of).fits o

  -- An owner owns role b exactly if it starts with a role above b ..
  pub owns_role_lem : (owner : Owner) (b o : ℕ) → b < 64 → o < 64 → bit (starters d owner (above d (2 ^ b))) o ≡ trade.owns_role d (start_of d owner o) b
  owns_role_lem owner b o hb ho =
      exactly_same (starters_exactly owner (above d (2 ^ b)) (above_lt d s (2 ^ b) (pow-lt hb)) o)
      (exactly_as
      (λ e. let w = below_out d s _ b e in (w.0, w.1, (above_exactly (2 ^ b) (pow-lt hb) w.0).holds (b, w.2, in_one b)))
      (λ x.
      let w = (above_exactly (2 ^ b) (pow-lt hb) x.0).means x.2 in
      below_in d s _ b (start_lt owner o ho) (x.0, x.1, subst (Chain (Step (d.row juniors)) x.0) (sym (one_out b w.0 w.2)) w.1))
      (itself _))

  -- .. and one of some tasks exactly if it starts with a role that owns one of them.
  pub owns_one : (owner : Owner) (ts o : ℕ) → ts < 2 ^ 64 → o < 64
      → Exactly (bit (starters d owner (owners_of d ts)) o) ((t : ℕ) × OwnedFrom d (start_of d owner o) t × In ts t)
  owns_one owner ts o h l = exactly_as down up (starters_exactly owner (owners_of d ts) (owners_lt d s ts) o)
    where
      have : (r : ℕ) → Exactly (bit (picked (λ k. meet (d.row tasks_of k) ts) (roles d)) r) (In (roles d) r × ((t : ℕ) × In (d.row tasks_of r) t × In ts t))
      have r = exactly_picked (λ k. meet (d.row tasks_of k) ts) (roles d) r (s.head.fits 1) (exactly_meet (d.row tasks_of r) ts ((s.rows tasks_of).fits r) h)

      down : (r : ℕ) × In (start_of d owner o) r × In (owners_of d ts) r → (t : ℕ) × OwnedFrom d (start_of d owner o) t × In ts t
      down x =
          let w = (above_exactly _ (picked_lt (λ r. meet (d.row tasks_of r) ts) (roles d)) x.0).means x.2 in
          let t = ((have w.0).means w.2).1 in
          (t.0, (x.0, w.0, x.1, w.1, t.1), t.2)

      up : (t : ℕ) × OwnedFrom d (start_of d owner o) t × In ts t → (r : ℕ) × In (start_of d owner o) r × In (owners_of d ts) r
      up y =
          let w = y.1 in (
            w.0,
            w.2,
            (above_exactly _ (picked_lt (λ r. meet (d.row tasks_of r) ts) (roles d)) w.0).holds
                (w.1, w.3, (have w.1).holds ((f.tasks_formed w.1 y.0 w.4).0, (y.0, w.4, y.2))),
          )

  -- The owners of both tasks are those that start with an owner of each.
  both_owned : (owner : Owner) (a b : ℕ) → a < 64 → b < 64
      → lowest (starts_in_both d owner (owners_of d (2 ^ a)) (owners_of d (2 ^ b))) ≡ lowest (owns_both d (start_of d owner) a b)
  both_owned owner a b ha hb = lowest_same _ _ (λ o l. ap₂ ◌&&◌ (one a ha o l) (one b hb o l))
    where
      one : (t : ℕ) → t < 64 → (o : ℕ) → o < 64 → bit (starters d owner (owners_of d (2 ^ t))) o ≡ bit (trade.owned_tasks d (start_of d owner o)) t
      one t h o l =
          exactly_same (owns_one owner (2 ^ t) o (pow-lt h) l)
          (exactly_as (λ e. (t, owned_out d s _ t e, in_one t))
          (λ x. owned_in d s _ t (start_lt owner o l) (subst (OwnedFrom d (start_of d owner o)) (sym (one_out t x.0 x.2)) x.1))
          (itself _))

  -- So they are found: from each task alone its owners, and who starts with one of each.
  pub both_found : (owner : Owner) (a b : ℕ) → a < 64 → b < 64 → {one two xs ys : ℕ} (found : Option ℕ) → one ≡ 2 ^ a → two ≡ 2 ^ b → xs ≡ owners_of d one
      → ys ≡ owners_of d two → IsLowest (starts_in_both d owner xs ys) found → IsLowest (owns_both d (start_of d owner) a b) found
  both_found owner a b ha hb found p q e f r =
      rw (ap₂ (λ (x y : ℕ). lowest (starts_in_both d owner x y)) (e ∙ ap (owners_of d) p) (f ∙ ap (owners_of d) q) ∙ both_owned owner a b ha hb) at r

  -- Clashes with what is gained, among the owners of role b.
  module _ (owner : Owner) (b gain : ℕ) (hb : b < 64) (hg : gain < 2 ^ 64) where
    clashing_exactly : (t : ℕ) → Exactly (bit (all_clashing d gain) t) (meet (d.row SME t) gain ≡ true)
    clashing_exactly t =
        exactly_as (λ x. x.1) (λ e. (let o = (exactly_meet (d.row SME t) gain ((s.rows SME).fits t) hg).means e in ((f.sme t o.0 o.1).0, e)))
        (exactly_picked (λ k. meet (d.row SME k) gain) (tasks d) t (s.head.fits 0) (itself (meet (d.row SME t) gain)))

    clashing_lt : all_clashing d gain < 2 ^ 64
    clashing_lt = picked_lt (λ t. meet (d.row SME t) gain) (tasks d)

    -- Of what an owner owns those clash that are clashing tasks.
    owned_clashing : (o : ℕ) → bit_and (trade.owned_tasks d (start_of d owner o)) (all_clashing d gain)
        ≡ clashing (d.row SME) gain (trade.owned_tasks d (start_of d owner o))
    owned_clashing o =
        let mine = trade.owned_tasks d (start_of d owner o) in
        let small = owned_lt d s (start_of d owner o) in
        bit_ext 64 _ _ (and_lt 64 mine (all_clashing d gain) small clashing_lt) (picked_lt (λ t. meet (d.row SME t) gain) mine) (λ t h.
        bit-and mine (all_clashing d gain) t
        ∙ exactly_same (exactly_and (itself (bit mine t)) (clashing_exactly t))
        (exactly_picked (λ t. meet (d.row SME t) gain) mine t small (itself (meet (d.row SME t) gain))))

    -- An owner has a clash exactly if it owns role b and one of the clashing tasks ..
    has_clash : (o : ℕ) → o < 64
        → starts_in_both d owner (above d (2 ^ b)) (owners_of d (all_clashing d gain)) o ≡ has_some (clashes_below d owner b gain) o
    has_clash o l =
        ap (λ (t : Bool). t && bit (starters d owner (owners_of d (all_clashing d gain))) o) (owns_role_lem owner b o hb l)
        ∙ exactly_same (exactly_and (itself own) (owns_one owner (all_clashing d gain) o clashing_lt l))
        (exactly_as down up (exactly_some (clashes_below d owner b gain o) (only_lt own _ (picked_lt (λ t. meet (d.row SME t) gain) mine))))
      where
        own : Bool
        own = trade.owns_role d (start_of d owner o) b

        mine : ℕ
        mine = trade.owned_tasks d (start_of d owner o)

        one : (t : ℕ) → Exactly (bit (clashes_below d owner b gain o) t) ((own ≡ true) × (In mine t × (meet (d.row SME t) gain ≡ true)))
        one t = exactly_only own _ t (itself own)
            (exactly_picked (λ t. meet (d.row SME t) gain) mine t (owned_lt d s (start_of d owner o)) (itself (meet (d.row SME t) gain)))

        down : (t : ℕ) × In (clashes_below d owner b gain o) t → (own ≡ true) × ((t : ℕ) × OwnedFrom d (start_of d owner o) t × In (all_clashing d gain) t)
        down x =
            let w = (one x.0).means x.1 in
            (w.0, (x.0, owned_out d s (start_of d owner o) x.0 w.1.0, (clashing_exactly x.0).holds w.1.1))

        up : (own ≡ true) × ((t : ℕ) × OwnedFrom d (start_of d owner o) t × In (all_clashing d gain) t) → (t : ℕ) × In (clashes_below d owner b gain o) t
        up y =
            let t = y.1.0 in
            (t, (one t).holds (y.0, (owned_in d s (start_of d owner o) t (start_lt owner o l) y.1.1, (clashing_exactly t).means y.1.2)))

    -- .. so the lowest of those is the lowest with a clash,
    pub first_owner : lowest (starts_in_both d owner (above d (2 ^ b)) (owners_of d (all_clashing d gain))) ≡ lowest (has_some (clashes_below d owner b gain))
    first_owner = lowest_same _ _ has_clash

    -- and its clash is all the clashing tasks that it owns.
    pub whole_clash_lem : (o : ℕ) → o < 64 → starts_in_both d owner (above d (2 ^ b)) (owners_of d (all_clashing d gain)) o ≡ true
        → bit_and (trade.owned_tasks d (start_of d owner o)) (all_clashing d gain) ≡ clashes_below d owner b gain o
    whole_clash_lem o l e =
        let own = sym (owns_role_lem owner b o hb l) ∙ (and_out _ _ e).0 in
        owned_clashing o ∙ sym (only_yes _ _ own)

    -- Where nobody starts in both, nobody has a clash: where no task clashes, where no role owns one, and where the search finds nobody.
    pub no_owner : lowest (starts_in_both d owner (above d (2 ^ b)) (owners_of d (all_clashing d gain))) ≡ 64
        → None ≡ found_clash (clashes_below d owner b gain)
    no_owner e = none_at (clashes_below d owner b gain) (sym e ∙ first_owner)

    holds : (o : ℕ) → starts_in_both d owner (above d (2 ^ b)) (owners_of d (all_clashing d gain)) o ≡ true
        → In (starters d owner (owners_of d (all_clashing d gain))) o
    holds o e = (and_out (bit (starters d owner (above d (2 ^ b))) o) (bit (starters d owner (owners_of d (all_clashing d gain))) o) e).1

    pub no_holders : owners_of d (all_clashing d gain) ≡ 0 → None ≡ found_clash (clashes_below d owner b gain)
    no_holders z =
        no_owner (sym (lowest_end 64 _ (λ o l. refute _ (λ e.
        let x = (starters_exactly owner (owners_of d (all_clashing d gain)) (owners_lt d s (all_clashing d gain)) o).means (holds o e) in
        zero_none x.0 z x.2))))

    pub no_clashing : all_clashing d gain ≡ 0 → None ≡ found_clash (clashes_below d owner b gain)
    no_clashing z =
        no_owner (sym (lowest_end 64 _ (λ o l. refute _ (λ e.
        let x = (owns_one owner (all_clashing d gain) o clashing_lt l).means (holds o e) in zero_none x.0 z x.2))))
