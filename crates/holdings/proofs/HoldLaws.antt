-- 33 and 34 from the searches. Of what c holds those tasks alone count that have a partner in the hand, so it is the same whether all of
-- it is searched or those. 33 goes through the orders and ends at the first that has a pair; such an order is open, for c holds a task in it.
use mathlib.Core.Path.{◌≡◌, refl, sym, ap, ◌∙◌}
use mathlib.Core.Bool.{Bool, true, false}
use Prim.Native.Nat.{ℕ, ◌-◌, ◌^◌, ◌<◌}
use lib.Dec.{ltb}
use lib.Bits.{bit_and}
use borrow.Author.Tests.{lt-ltb}
use Rattle.sets.specs.Mask.{bit, meet, picked}
use Rattle.sets.specs.Search.{lowest}
use Rattle.sets.proofs.Logic.{and_in, and_out, and_fails_r, not_both, refute}
use Rattle.sets.proofs.MaskLaws.{in_both, both_out, in_full, zero_none, meet_in, picked_in}
use Rattle.sets.proofs.SearchLaws.{lowest_end, pair_none}
use Rattle.rules.specs.Book.{Book, tasks, SME, DME}
use Rattle.rules.specs.Requests.{is_open, subject_hand}
use Rattle.rules.specs.Numbers.{Said, accepted, say_xyz, given, some_pair, say_pair, given_pair_in, has_pair, given_lowest_pair, between, held_by}
use Rattle.rules.specs.Numbers.{holds, held_sme, held_dme, held_conflicts, first_of}
use Rattle.rules.specs.Meaning.{Sized, Formed}
use Rattle.rules.proofs.Exactly.{itself, exactly_same}
use Rattle.rules.proofs.HeldLaws.{held_shows, open_order_lem}
use Rattle.std.specs.Prelude.{Option, Some, None}
use Rattle.search.specs.Pairs.{is_pair, found_pair}
use Rattle.search.proofs.PairLaws.{found_same, found_some, given_pair_lem, given_nothing}
use Rattle.answers.specs.declared.Refusal.{Refusal}
use Rattle.answers.specs.Answers.{refused}
use Rattle.deeds.proofs.CascadeLaws.{given_yes, given_stands, given_gives_way}

-- order p is open, and c holds in it a task that is SME to one of the hand
abbrev pub excluded_in : Book → ℕ → ℕ → ℕ → Bool
excluded_in d c hand = has_pair (is_open d) (holds SME d c hand)

-- Where no order is found, 33 is silent.
pub sme_silent : (d : Book) (c hand : ℕ) → 64 ≡ lowest (excluded_in d c hand) → accepted ≡ given_lowest_pair 33 (is_open d) (holds SME d c hand) accepted
unfolding given_lowest_pair given
sme_silent d c hand at = ap (λ (q : ℕ). given (ltb q 64) (say_pair 33 (holds SME d c hand q) q) accepted) at

-- Of table n, what c holds in order p among those, and the hand. All that have a partner in the hand are among those.
module _ (d : Book) (s : Sized d) (c hand : ℕ) (hc : c < 64) where
  -- A search among those finds what a search of all that c holds finds.
  pub held_found : (n p those : ℕ) → ((u v : ℕ) → u < 64 → bit (d.row n u) v ≡ true → bit hand v ≡ true → bit those u ≡ true)
      → {held : ℕ} {v : Option (ℕ × ℕ)} → held ≡ bit_and (held_by d p c) those → v ≡ found_pair (between (d.row n) held hand)
      → v ≡ found_pair (holds n d c hand p)
  held_found n p those enough e f =
      f ∙ ap (λ (m : ℕ). found_pair (between (d.row n) m hand)) e
      ∙ found_same (between (d.row n) (bit_and (held_by d p c) those) hand) (holds n d c hand p) (λ u v hu hv. exactly_same (record {
        means = λ t. (let x = and_out _ _ t in and_in (both_out (held_by d p c) those u x.0).0 x.1);
        holds = λ t. (
            let x = and_out _ _ t in
            let y = and_out (bit (d.row n u) v) (bit hand v) x.1 in
            and_in (in_both (held_by d p c) those u x.0 (enough u v hu y.0 y.1)) x.1);
      }) (itself _))

  -- 33: the tasks that are excluded, whose SME rows meet the hand.
  module _ (formed : Formed d) {excluded : ℕ} (is_excluded : excluded ≡ picked (λ u. meet (d.row SME u) hand) (tasks d)) where
    -- All that have a partner in the hand are among them.
    enough : (u v : ℕ) → u < 64 → bit (d.row SME u) v ≡ true → bit hand v ≡ true → bit excluded u ≡ true
    enough u v hu e f =
        ap (λ (m : ℕ). bit m u) is_excluded
        ∙ picked_in (λ u. meet (d.row SME u) hand) (tasks d) u hu (formed.sme u v e).0 (meet_in (d.row SME u) hand v e f)

    -- What is found in order p among them is what the rules ask of the order.
    pub sme_found : (p : ℕ) {held : ℕ} {v : Option (ℕ × ℕ)} → held ≡ bit_and (held_by d p c) excluded
        → v ≡ found_pair (between (d.row SME) held hand) → v ≡ found_pair (holds SME d c hand p)
    sme_found p = held_found SME p excluded enough

    -- Where nothing is excluded, no order has a pair.
    pub none_excluded : excluded ≡ 0 → accepted ≡ given_lowest_pair 33 (is_open d) (holds SME d c hand) accepted
    none_excluded z = sme_silent d c hand (lowest_end 64 (excluded_in d c hand) (λ p hp. and_fails_r (is_open d p) _
        (pair_none (holds SME d c hand p) (λ u v hu hv. refute _ (λ t.
        let x = and_out (bit (d.row SME u) v) (bit hand v) (and_out (bit (held_by d p c) u) _ t).1 in
        zero_none u z (enough u v hu x.0 x.1))))))

  -- In order p the search gave v.
  module _ (p : ℕ) {v : Option (ℕ × ℕ)} (found : v ≡ found_pair (holds SME d c hand p)) where
    -- No pair: the order is none of those that 33 looks for.
    pub none_here : v ≡ None → excluded_in d c hand p ≡ false
    none_here e = and_fails_r (is_open d p) _ (sym (found_some _ found) ∙ ap is_pair e)

    -- A pair: it is one, and it is open, since c holds a task in it.
    module _ {x y : ℕ} (pair : v ≡ Some (x, y)) where
      some : some_pair (holds SME d c hand p) ≡ true
      some = sym (found_some _ found) ∙ ap is_pair pair

      opened : is_open d p ≡ true
      opened = go (is_open d p) refl
        where
          go : (t : Bool) → is_open d p ≡ t → is_open d p ≡ true
          go true e = e
          go false shut = absurd (not_both _ some (pair_none (holds SME d c hand p) (λ u v hu hv. refute _ (λ t.
              not_both (is_open d p) (open_order_lem d p u (((held_shows d s p).says c u hc).means (and_out (bit (held_by d p c) u) _ t).0).0) shut))))

      pub pair_here : excluded_in d c hand p ≡ true
      pair_here = and_in opened some

      -- The first such order, with its pair, is what 33 gives.
      pub sme_told : p < 64 → p ≡ lowest (excluded_in d c hand) → say_xyz 33 x y p ≡ given_lowest_pair 33 (is_open d) (holds SME d c hand) accepted
      unfolding given_lowest_pair given_pair_in
      sme_told h at =
          let f = holds SME d c hand p in
          sym (given_pair_lem f 33 p accepted found pair)
          ∙ sym (given_yes (some_pair f) (say_pair 33 f p) accepted some)
          ∙ given_yes (ltb p 64) (say_pair 33 f p) accepted (lt-ltb p 64 h)
          ∙ ap (λ (q : ℕ). given (ltb q 64) (say_pair 33 (holds SME d c hand q) q) accepted) at

  -- 34, in order b alone, of all that c holds there.
  module _ (b : ℕ) {held : ℕ} {v : Option (ℕ × ℕ)} (is_held : held ≡ bit_and (held_by d b c) (2 ^ 64 - 1 - 0))
      (found : v ≡ found_pair (between (d.row DME) held hand)) where
    whole : v ≡ found_pair (holds DME d c hand b)
    whole = held_found DME b (2 ^ 64 - 1 - 0) (λ u v hu e f. in_full u hu) is_held found

    pub dme_told : {x y : ℕ} → v ≡ Some (x, y) → say_xyz 34 x y b ≡ given_pair_in 34 (holds DME d c hand b) b accepted
    dme_told e = sym (given_pair_lem _ 34 b accepted whole e)

    pub dme_silent : v ≡ None → accepted ≡ given_pair_in 34 (holds DME d c hand b) b accepted
    dme_silent e = sym (given_nothing _ 34 b accepted whole e)

-- Both in their order: 33 is asked first.
module _ (d : Book) (a b c : ℕ) {hand : ℕ} (is_hand : hand ≡ subject_hand d a b) where
  first : {s : Said} → s ≡ given_lowest_pair 33 (is_open d) (holds SME d c hand) accepted
      → s ≡ given_lowest_pair 33 (is_open d) (holds SME d c (subject_hand d a b)) accepted
  first asked = asked ∙ ap (λ (m : ℕ). given_lowest_pair 33 (is_open d) (holds SME d c m) accepted) is_hand

  -- It stands ..
  pub sme_stands : (r : Refusal) → refused r ≡ given_lowest_pair 33 (is_open d) (holds SME d c hand) accepted → refused r ≡ first_of (held_conflicts c) d a b
  unfolding first_of held_conflicts held_sme given_lowest_pair
  sme_stands r asked = given_stands _ 33 _ _ r (first asked)

  -- .. or it is silent, and 34 is asked.
  pub dme_next : accepted ≡ given_lowest_pair 33 (is_open d) (holds SME d c hand) accepted → {out : Said}
      → out ≡ given_pair_in 34 (holds DME d c hand b) b accepted → out ≡ first_of (held_conflicts c) d a b
  unfolding first_of held_conflicts held_sme held_dme given_lowest_pair
  dme_next asked p = given_gives_way _ 33 _ _ (first asked) (p ∙ ap (λ (m : ℕ). given_pair_in 34 (holds DME d c m b) b accepted) is_hand)
