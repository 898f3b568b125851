-- Kind 13: task a is allocated in order b to subject c, and with it the tasks of its groups in the order.
-- The hand of a relation E is the tasks of order b in a's group along E: E is SB for the subject, SB and RB mixed for the role.
-- A value (S or E of a cell) is new in its hand and as it was elsewhere. A group lies in the hand as a whole or not at all,
-- so rule 10 stands whatever happens. Rule 9 can only break between the hand, which gets c, and a cell that c held, in whatever order:
-- two tasks of the hand are in one subject group, and so exclude each other nowhere. That is what 33 asks of every order and 34 of order b.
use mathlib.Core.Path.{◌≡◌, refl, sym, ap, ◌∙◌, subst}
use mathlib.Core.Logic.{inl, inr}
use mathlib.Core.Bool.{Bool, true, false, ◌&&◌, true≢false}
use Prim.Native.Nat.{ℕ, suc, ◌<◌}
use native.Mathlib.Omega.{arith}
use lib.Dec.{eqb}
use lib.Bits.{bit_and}
use Rattle.sets.specs.Mask.{bit}
use Rattle.sets.proofs.Logic.{not_both}
use Rattle.sets.proofs.MaskLaws.{in_both, both_out}
use Rattle.chains.specs.Relation.{Relation, In, Step, Chain}
use Rattle.chains.proofs.RelationLaws.{chain_join, chain_turn}
use Rattle.rules.specs.Book.{Book, roles, subjects, SME, DME, active, orders, role_in, subject_in}
use Rattle.rules.specs.Requests.{allocate, is_open, role_hand, subject_hand, stamped_cell, allocated, change}
use Rattle.rules.specs.Numbers.{held_by, held_sme, held_dme, held_conflicts, conflicts}
use Rattle.rules.specs.Meaning.{Sized, Symmetric, Both, CellRelation, HandsApart, OneValue, CellWord, Sound}
use Rattle.rules.proofs.Exactly.{Exactly, exactly_and, exactly_eqb, unless_holds}
use Rattle.rules.proofs.ChangeLaws.{unstamped}
use Rattle.rules.proofs.TradeLaws.{step_from, Shows, subject_group_lem, role_group_lem}
use Rattle.rules.proofs.HeldLaws.{Holds, held_shows, open_order_lem}
use Rattle.demands.proofs.Tables.{Sme, Dme, Excluding, SubjectBound, RoleBound, subject_role, role_turns, excluding_turns, excluding_apart}
use Rattle.demands.proofs.Conflicts.{Silent, AllSilent, one_silent, more_silent, Exact, exact, silent_between, silent_some_between}

-- The orders o, and a task a of order b; groups run along the relation E.
module _ (E : Relation) (o : ℕ → ℕ) (a b : ℕ) where
  -- task t is in the hand
  abbrev Hand : ℕ → Type 0
  Hand t = Chain E a t × Step o b t

  -- the cell of order p and task t is in the hand
  abbrev InHand : ℕ → ℕ → Type 0
  InHand p t = (p ≡ b) × Hand t

  -- A value of the cells is n in the hand, and as it was elsewhere.
  record Stamped (cell cell' : ℕ → ℕ → ℕ) (value : ℕ → ℕ) (n : ℕ) : Type 0 where
    either : (p t : ℕ) → Dec (InHand p t)
    inside : (p t : ℕ) → InHand p t → value (cell' p t) ≡ n
    outside : (p t : ℕ) → (InHand p t → ⊥) → value (cell' p t) ≡ value (cell p t)

  -- 33 and 34: the subject with number n holds in an order p a task x whose cell excludes that of a task y of the hand. Here: it holds none.
  abbrev Free : CellRelation → (ℕ → ℕ → ℕ) → ℕ → Type 0
  Free X cell n = (p x y : ℕ) → Step o p x × (subject_in (cell p x) ≡ n) → Hand y → X p b x y → ⊥

  -- The hand holds with a task all of its group in the order.
  whole : (p u v : ℕ) → Both o p u v → Chain E u v → InHand p u → InHand p v
  whole p u v both k (e, (c, i)) = (e, (chain_join c k, subst (λ (x : ℕ). Step o x v) e both.1))

-- The two rules of orders, along a symmetric relation.
module _ {E : Relation} {o : ℕ → ℕ} {a b : ℕ} (turn : Symmetric E) where
  module _ {cell cell' : ℕ → ℕ → ℕ} {value : ℕ → ℕ} {n : ℕ} (stamped : Stamped E o a b cell cell' value n) where
    -- Rule 10 is kept.
    together_kept : OneValue o cell E value → OneValue o cell' E value
    together_kept rule p u v both k = go (stamped.either p u)
      where
        go : Dec (InHand E o a b p u) → value (cell' p u) ≡ value (cell' p v)
        go (yes i) = stamped.inside p u i ∙ sym (stamped.inside p v (whole E o a b p u v both k i))
        go (no f) =
            stamped.outside p u f ∙ rule p u v both k
            ∙ sym (stamped.outside p v (λ i. f (whole E o a b p v u (both.1, both.0) (chain_turn turn k) i)))

  module _ {X : CellRelation} {cell cell' : ℕ → ℕ → ℕ} {n : ℕ} (stamped : Stamped E o a b cell cell' subject_in n) where
    -- Rule 9 is kept where nothing that c holds excludes a task of the hand ..
    apart_kept : ((p q u v : ℕ) → X p q u v → X q p v u) → ((p q u v : ℕ) → X p q u v → Chain E u v → ⊥)
        → HandsApart o cell X → Free E o a b X cell n → HandsApart o cell' X
    apart_kept turn-X apart rule free p q u v iu iv x e h = go (stamped.either p u) (stamped.either q v)
      where
        go : Dec (InHand E o a b p u) → Dec (InHand E o a b q v) → ⊥
        go (yes i) (yes j) = apart p q u v x (chain_join (chain_turn turn i.1.0) j.1.0)
        go (yes i) (no g) =
            free q v u (iv, sym (stamped.outside q v g) ∙ sym e ∙ stamped.inside p u i) i.1
            (subst (λ (y : ℕ). X q y v u) i.0 (turn-X p q u v x))
        go (no f) (yes j) =
            free p u v (iu, sym (stamped.outside p u f) ∙ e ∙ stamped.inside q v j) j.1 (subst (λ (y : ℕ). X p y u v) j.0 x)
        go (no f) (no g) =
            rule p q u v iu iv x (sym (stamped.outside p u f) ∙ e ∙ stamped.outside q v g) (subst (λ (y : ℕ). 0 < y) (stamped.outside p u f) h)

    -- .. and only there.
    apart_needed : 0 < n → HandsApart o cell' X → Free E o a b X cell n
    apart_needed pos rule p x y (i, e) hand q =
        let now-x = now (stamped.either p x) in
        rule p b x y i hand.1 q (now-x ∙ sym (stamped.inside b y (refl, hand))) (subst (λ (z : ℕ). 0 < z) (sym now-x) pos)
      where
        now : Dec (InHand E o a b p x) → subject_in (cell' p x) ≡ n
        now (yes k) = stamped.inside p x k
        now (no f) = stamped.outside p x f ∙ e

-- A test that stands for P says whether P holds.
decided : {t : Bool} {P : Type 0} → Exactly t P → Dec P
decided {t} {P} e = go t refl
  where
    go : (s : Bool) → t ≡ s → Dec P
    go true q = yes (e.means q)
    go false q = no (λ p. not_both t (e.holds p) q)

-- What is written in the role hand is the role ..
stamped_role : (in_role in_subject : Bool) (e c v : ℕ) → c < 64 → in_role ≡ true → role_in (stamped_cell in_role in_subject e c v) ≡ e
unfolding stamped_cell
stamped_role true true e c v h p = omega arith
stamped_role true false e c v h p = omega arith
stamped_role false s e c v h p = absurd (true≢false (sym p))

-- .. in the subject hand the subject too ..
stamped_subject : (in_role in_subject : Bool) (e c v : ℕ) → c < 64 → in_role ≡ true → in_subject ≡ true
    → subject_in (stamped_cell in_role in_subject e c v) ≡ suc c
unfolding stamped_cell
stamped_subject true true e c v h p q = omega arith
stamped_subject true false e c v h p q = absurd (true≢false (sym q))
stamped_subject false s e c v h p q = absurd (true≢false (sym p))

-- .. and outside it the subject stays.
kept_subject : (in_role in_subject : Bool) (e c v : ℕ) → in_subject ≡ false → subject_in (stamped_cell in_role in_subject e c v) ≡ subject_in v
unfolding stamped_cell
kept_subject true true e c v q = absurd (true≢false q)
kept_subject true false e c v q = omega arith
kept_subject false s e c v q = refl

-- A sound book.
module _ (d : Book) (sized : Sized d) (sound : Sound d) (a b c : ℕ) (ha : a < 64) (hc : c < 64) where
  abbrev o : ℕ → ℕ
  o = d.row orders

  -- A hand, as it is computed.
  hand_says : {E : Relation} {sets : ℕ → ℕ} → Shows (Chain E) sets → (t : ℕ) → Exactly (bit (bit_and (sets a) (o b)) t) (Chain E a t × Step o b t)
  hand_says {sets = sets} shows t = record {
    means = λ e. (let s = both_out (sets a) (o b) t e in ((shows.says a t ha).means s.0, s.1));
    holds = λ h. in_both (sets a) (o b) t ((shows.says a t ha).holds h.0) h.1;
  }

  -- the role hand, along SB and RB
  role_says : (t : ℕ) → Exactly (bit (role_hand d a b) t) (Hand (RoleBound d) o a b t)
  unfolding role_hand
  role_says = hand_says (role_group_lem d sized)

  -- the subject hand, along SB
  subject_says : (t : ℕ) → Exactly (bit (subject_hand d a b) t) (Hand (SubjectBound d) o a b t)
  unfolding subject_hand
  subject_says = hand_says (subject_group_lem d sized)

  -- The tasks of order p that c holds, as they are computed.
  held_says : (p x : ℕ) → Exactly (bit (held_by d p c) x) (Holds d p c x)
  held_says p x = (held_shows d sized p).says c x hc

  -- the cells afterwards
  abbrev now : ℕ → ℕ → ℕ
  now = (allocated d a b c).cell

  -- the test by which a cell is written
  writes : (p t : ℕ) → Exactly (eqb p b && bit (role_hand d a b) t) (InHand (RoleBound d) o a b p t)
  writes p t = exactly_and (exactly_eqb p b) (role_says t)

  -- A cell outside the role hand is as it was.
  untouched : (p t : ℕ) → (InHand (RoleBound d) o a b p t → ⊥) → now p t ≡ d.cell p t
  untouched p t f =
      unstamped (eqb p b && bit (role_hand d a b) t) (bit (subject_hand d a b) t) (d.row active c) c (d.cell p t)
      ((unless_holds (writes p t)).fails f)

  -- In the role hand E is c's active role ..
  role_stamped : Stamped (RoleBound d) o a b d.cell now role_in (d.row active c)
  role_stamped = record {
    either = λ p t. decided (writes p t);
    inside = λ p t i. stamped_role (eqb p b && bit (role_hand d a b) t) (bit (subject_hand d a b) t) (d.row active c) c (d.cell p t) hc ((writes p t).holds i);
    outside = λ p t f. ap role_in (untouched p t f);
  }

  -- .. and in the subject hand S is c.
  subject_stamped : Stamped (SubjectBound d) o a b d.cell now subject_in (suc c)
  subject_stamped = record {
    either = λ p t. decided (exactly_and (exactly_eqb p b) (subject_says t));
    inside = λ p t (e, (k, i)). stamped_subject (eqb p b && bit (role_hand d a b) t) (bit (subject_hand d a b) t) (d.row active c) c (d.cell p t) hc
        ((writes p t).holds (e, (subject_role d k, i))) ((subject_says t).holds (k, i));
    outside = λ p t f. elsewhere p t f (decided (writes p t));
  }
    where
      elsewhere : (p t : ℕ) → (InHand (SubjectBound d) o a b p t → ⊥) → Dec (InHand (RoleBound d) o a b p t) → subject_in (now p t) ≡ subject_in (d.cell p t)
      elsewhere p t f (yes i) = kept_subject (eqb p b && bit (role_hand d a b) t) (bit (subject_hand d a b) t) (d.row active c) c (d.cell p t)
          ((unless_holds (subject_says t)).fails (λ h. f (i.0, h)))
      elsewhere p t f (no g) = ap subject_in (untouched p t g)

  -- c holds in order p no task that is X to a task of the hand
  abbrev HoldsNone : Relation → ℕ → Type 0
  HoldsNone X p = (x y : ℕ) → Holds d p c x → Hand (SubjectBound d) o a b y → X x y → ⊥

  -- 33, of SME and every order ..
  silent_held_sme : Silent ((p : ℕ) → HoldsNone (Sme d) p) (held_sme c d a b)
  unfolding held_sme
  silent_held_sme =
      silent_some_between d sized 33 SME (is_open d) (λ p. held_by d p c) (subject_hand d a b) held_says
      (λ p x h. (step_from (sized.rows orders) p x h.0, open_order_lem d p x h.0)) subject_says

  -- .. and 34, of DME and order b.
  silent_held_dme : Silent (HoldsNone (Dme d) b) (held_dme c d a b)
  unfolding held_dme
  silent_held_dme = silent_between d sized 34 DME (held_by d b c) (subject_hand d a b) b (held_says b) subject_says

  -- Both are silent exactly where rule 9 is kept.
  pub allocate_hands : AllSilent (held_conflicts c) d a b (HandsApart o now (Excluding d))
  unfolding held_conflicts
  allocate_hands =
      let asked = more_silent (held_sme c) _ d a b silent_held_sme (one_silent (held_dme c) d a b silent_held_dme) in
      let turn = sound.bindings.sb.rule2 in (
        λ e. (let none = asked.0 e in
            apart_kept turn subject_stamped (excluding_turns d sound) (excluding_apart d sound) sound.orders.rule9 (either none.0 none.1)),
        λ rule. (let free = apart_needed turn subject_stamped (omega arith) rule in
            asked.1 (λ p x y h k e. free p x y h k (inl e), λ x y h k e. free b x y h k (inr (refl, e)))),
      )
    where
      -- Both together: c holds nothing that excludes a task of the hand.
      either : ((p : ℕ) → HoldsNone (Sme d) p) → HoldsNone (Dme d) b → Free (SubjectBound d) o a b (Excluding d) d.cell (suc c)
      either sme dme p x y h k (inl e) = sme p x y h k e
      either sme dme p x y h k (inr (r, e)) = dme x y (subst (λ (z : ℕ). Holds d z c x) r h) k e

  -- The subject c is defined, and has the active role r.
  module _ (r : ℕ) (act : d.row active c ≡ suc r) (dc : In (subjects d) c) where
    -- The changed cells are well-formed.
    cells_formed : (p t : ℕ) → CellWord (roles d) (subjects d) (o p) t (now p t)
    cells_formed p t = go (decided (writes p t)) (subject_stamped.either p t)
      where
        was : CellWord (roles d) (subjects d) (o p) t (d.cell p t)
        was = sound.orders.cells_formed p t

        go : Dec (InHand (RoleBound d) o a b p t) → Dec (InHand (SubjectBound d) o a b p t) → CellWord (roles d) (subjects d) (o p) t (now p t)
        go (no f) h = subst (λ (v : ℕ). CellWord (roles d) (subjects d) (o p) t v) (sym (untouched p t f)) was
        go (yes i) h = record {
          in_order = λ pos. subst (λ (x : ℕ). Step o x t) (sym i.0) i.1.1;
          role = λ q e. (
              let same : r ≡ q = omega (arith, role_stamped.inside p t i) in
              subst (λ (x : ℕ). In (roles d) x) same (sound.ranks.active_formed c r act).1);
          subject = λ q e. (who h q e, omega (arith, role_stamped.inside p t i));
        }
          where
            who : Dec (InHand (SubjectBound d) o a b p t) → (q : ℕ) → subject_in (now p t) ≡ suc q → In (subjects d) q
            who (yes j) q e = let same : c ≡ q = omega (arith, subject_stamped.inside p t j) in subst (λ (x : ℕ). In (subjects d) x) same dc
            who (no f) q e = (was.subject q (sym (subject_stamped.outside p t f) ∙ e)).0

    -- Kind 13 is exact: all other rules stand whatever happens.
    pub allocate_exact : Exact d allocate a b c
    unfolding change conflicts
    allocate_exact =
        exact d allocate a b c allocate_hands
        (λ rule9. record {
          gap = sound.gap;
          bindings = sound.bindings;
          ranks = sound.ranks;
          orders = record {
            orders_formed = sound.orders.orders_formed;
            cells_formed = cells_formed;
            rule9 = rule9;
            rule10_subject = together_kept sound.bindings.sb.rule2 subject_stamped sound.orders.rule10_subject;
            rule10_role = together_kept (role_turns d sound) role_stamped sound.orders.rule10_role;
          };
          rule7 = sound.rule7;
          rule8 = sound.rule8;
        })
        (λ s. s.orders.rule9)
