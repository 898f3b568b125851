-- A test that holds exactly where a statement does, and how such tests are put together.
-- The rules of the audit are tests made of `&&`, `not`, `all` and the like: what each stands for is read off by these laws.
use mathlib.Core.Path.{◌≡◌, refl, sym, ap}
use mathlib.Core.Logic.{◌⊎◌, inl, inr}
use mathlib.Core.Bool.{Bool, true, false, ◌&&◌, ◌||◌, not, true≢false}
use Prim.Native.Nat.{ℕ, ◌+◌, ◌^◌, ◌≤◌, ◌<◌}
use native.Mathlib.Omega.{arith}
use lib.Dec.{ltb, eqb}
use borrow.Author.Tests.{eqb-true, eq-eqb, ltb-true, ltb-false, not-false}
use Rattle.sets.specs.Mask.{bit, within, meet, only, picked}
use Rattle.sets.specs.Search.{lowest_from, all}
use Rattle.sets.proofs.Logic.{and_out, and_in, or_fails_out, or_fails, not_both, refute, not_in, not_out}
use Rattle.sets.proofs.MaskLaws.{bit_lt, zero_none, none_zero, within_out, within_in, meet_in, picked_in, picked_out}
use Rattle.sets.proofs.SearchLaws.{lowest_passes, lowest_first, lowest_from_lem, all_out, all_in, some_or_none, meet_out}
use Rattle.chains.specs.Relation.{In}
use Rattle.rules.specs.Audit.{implies}

-- The test holds exactly where the statement does.
pub record Exactly (t : Bool) (P : Type 0) : Type 0 where
  pub means : t ≡ true → P
  pub holds : P → t ≡ true

-- A test says that it holds.
pub itself : (t : Bool) → Exactly t (t ≡ true)
itself t = record { means = λ e. e; holds = λ e. e }

-- The same said otherwise.
pub exactly_as : {t : Bool} {P Q : Type 0} → (P → Q) → (Q → P) → Exactly t P → Exactly t Q
exactly_as f g x = record { means = λ e. f (x.means e); holds = λ q. x.holds (g q) }

-- Two tests that hold exactly where one statement does are the same.
pub exactly_same : {s t : Bool} {P : Type 0} → Exactly s P → Exactly t P → s ≡ t
exactly_same {s} {t} {P} x y = go s t x y
  where
    go : (a b : Bool) → Exactly a P → Exactly b P → a ≡ b
    go true b x y = sym (y.holds (x.means refl))
    go false true x y = x.holds (y.means refl)
    go false false x y = refl

-- Both of two tests.
pub exactly_and : {s t : Bool} {P Q : Type 0} → Exactly s P → Exactly t Q → Exactly (s && t) (P × Q)
exactly_and {s} {t} x y = record {
  means = λ e. (let z = and_out s t e in (x.means z.0, y.means z.1));
  holds = λ z. and_in (x.holds z.0) (y.holds z.1);
}

-- A test that must fail.
pub exactly_not : {t : Bool} {P : Type 0} → Exactly t P → Exactly (not t) (P → ⊥)
exactly_not {t} x = record { means = λ e p. not_out t e (x.holds p); holds = λ f. not_in t (λ e. f (x.means e)) }

-- A test that is asked only where another holds.
pub exactly_implies : {s t : Bool} {P Q : Type 0} → Exactly s P → Exactly t Q → Exactly (implies s t) (P → Q)
exactly_implies {s} {t} {P} {Q} x y = record { means = λ e p. y.means (out s (x.holds p) e); holds = λ f. into s refl f }
  where
    out : (b : Bool) → b ≡ true → implies b t ≡ true → t ≡ true
    out true p e = e
    out false p e = absurd (true≢false (sym p))

    into : (b : Bool) → s ≡ b → (P → Q) → implies b t ≡ true
    into true e f = y.holds (f (x.means e))
    into false e f = refl

-- Two numbers are equal.
pub exactly_eqb : (x y : ℕ) → Exactly (eqb x y) (x ≡ y)
exactly_eqb x y = record { means = eqb-true x y; holds = eq-eqb x y }

-- A test for what is bad: it fails exactly where a statement holds.
pub record Unless (t : Bool) (P : Type 0) : Type 0 where
  pub means : t ≡ false → P
  pub fails : P → t ≡ false

-- The same said otherwise.
pub unless_as : {t : Bool} {P Q : Type 0} → (P → Q) → (Q → P) → Unless t P → Unless t Q
unless_as f g x = record { means = λ e. f (x.means e); fails = λ q. x.fails (g q) }

-- It is bad where a test does not hold ..
pub unless_not : {t : Bool} {P : Type 0} → Exactly t P → Unless (not t) P
unless_not {t} x = record { means = λ e. x.means (not-false t e); fails = λ p. ap not (x.holds p) }

-- .. where a test holds ..
pub unless_holds : {t : Bool} {P : Type 0} → Exactly t P → Unless t (P → ⊥)
unless_holds {t} x = record { means = λ e p. not_both t (x.holds p) e; fails = λ f. refute t (λ e. f (x.means e)) }

-- .. where either of two is bad.
pub unless_or : {s t : Bool} {P Q : Type 0} → Unless s P → Unless t Q → Unless (s || t) (P × Q)
unless_or {s} {t} x y = record {
  means = λ e. (let z = or_fails_out s t e in (x.means z.0, y.means z.1));
  fails = λ z. or_fails (x.fails z.0) (y.fails z.1);
}

-- Every number below n.
pub exactly_all : (n : ℕ) (f : ℕ → Bool) {P : ℕ → Type 0} → ((i : ℕ) → i < n → Exactly (f i) (P i)) → Exactly (all n f) ((i : ℕ) → i < n → P i)
exactly_all n f x = record {
  means = λ e i h. (x i h).means (all_out n f e i h);
  holds = λ g. all_in n f (λ i h. (x i h).holds (g i h));
}

-- Two tests of all numbers below n, asked together number by number.
pub exactly_both : (n : ℕ) (f g : ℕ → Bool) {P Q : Type 0} → Exactly (all n f) P → Exactly (all n g) Q → Exactly (all n (λ i. f i && g i)) (P × Q)
exactly_both n f g x y = record {
  means = λ e. (
    x.means (all_in n f (λ i h. (and_out (f i) (g i) (all_out n _ e i h)).0)),
    y.means (all_in n g (λ i h. (and_out (f i) (g i) (all_out n _ e i h)).1)),
  );
  holds = λ z. all_in n _ (λ i h. and_in (all_out n f (x.holds z.0) i h) (all_out n g (y.holds z.1) i h));
}

-- A search of n numbers from i on finds something unless each of them fails.
pub unless_found : (n i : ℕ) (f : ℕ → Bool) → Unless (ltb (lowest_from n i f) (i + n)) ((k : ℕ) → i ≤ k → k < i + n → f k ≡ false)
unless_found n i f = record {
  means = λ e k h l. (let z = ltb-false (lowest_from n i f) (i + n) e in lowest_first n i f k h (omega arith));
  fails = λ g. refute _ (λ e.
      let z = ltb-true (lowest_from n i f) (i + n) e in
      not_both _ (lowest_passes n i f z) (g (lowest_from n i f) (lowest_from_lem n i f) z));
}

-- A member of a set that counts only where the test holds.
pub exactly_only : {P Q : Type 0} (t : Bool) (m i : ℕ) → Exactly t P → Exactly (bit m i) Q → Exactly (bit (only t m) i) (P × Q)
exactly_only {P} {Q} t m i x y = record { means = λ e. out t refl e; holds = λ p. into t (x.holds p.0) (y.holds p.1) }
  where
    out : (s : Bool) → t ≡ s → bit (only s m) i ≡ true → P × Q
    out true e q = (x.means e, y.means q)
    out false e q = absurd (zero_none i refl q)

    into : (s : Bool) → s ≡ true → bit m i ≡ true → bit (only s m) i ≡ true
    into s e q = rw e q

-- A member of a set that passes a test.
pub exactly_picked : (f : ℕ → Bool) (m i : ℕ) {P : Type 0} → m < 2 ^ 64 → Exactly (f i) P → Exactly (bit (picked f m) i) (In m i × P)
exactly_picked f m i h x = record {
  means = λ e. (let w = picked_out f m i e in (w.0, x.means w.1));
  holds = λ w. picked_in f m i (bit_lt m i h w.0) w.0 (x.holds w.1);
}

-- A set that is not empty.
pub exactly_some : (m : ℕ) → m < 2 ^ 64 → Exactly (not (eqb m 0)) ((i : ℕ) × In m i)
exactly_some m h = record {
  means = λ e. out (some_or_none 64 (bit m)) e;
  holds = λ w. not_in _ (λ e. zero_none w.0 (eqb-true m 0 e) w.1);
}
  where
    out : ((i : ℕ) × (i < 64) × (bit m i ≡ true)) ⊎ ((i : ℕ) → i < 64 → bit m i ≡ false) → not (eqb m 0) ≡ true → (i : ℕ) × In m i
    out (inl r) e = (r.0, r.2)
    out (inr r) e = absurd (not_out _ e (eq-eqb m 0 (none_zero m h (λ j p. not_both (bit m j) p (r j (bit_lt m j h p))))))

-- Of two sets of 64 bits:
module _ (m n : ℕ) (hm : m < 2 ^ 64) (hn : n < 2 ^ 64) where
  -- they have a common member;
  pub exactly_meet : Exactly (meet m n) ((i : ℕ) × In m i × In n i)
  exactly_meet = record { means = meet_out m n hm hn; holds = λ x. meet_in m n x.0 x.1 x.2 }

  -- the one lies within the other.
  pub exactly_within : Exactly (within m n) ((j : ℕ) → In m j → In n j)
  exactly_within = record { means = λ e j. within_out m n j e; holds = within_in m n hm hn }
