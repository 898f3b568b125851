-- The audit's answer means what specs/Audited.antt says. The idea: its two searches find the lowest bad word and the lowest broken rule,
-- a word is bad and a rule is broken unless its sentence holds, and no two of its numbers are alike.
use mathlib.Core.Path.{◌≡◌, refl, sym, ap, ◌∙◌, subst}
use mathlib.Core.Bool.{Bool, true, false}
use Prim.Native.Nat.{ℕ, ◌+◌, ◌≤◌, ◌<◌}
use native.Mathlib.Omega.{arith}
use lib.Dec.{ltb}
use borrow.Author.Tests.{lt-ltb, ltb-true}
use Rattle.sets.proofs.Logic.{not_both}
use Rattle.sets.proofs.SearchLaws.{lowest_passes, lowest_first, lowest_is}
use Rattle.rules.specs.Book.{Book, book_words, read, bad, first_bad}
use Rattle.rules.specs.Numbers.{Said, accepted, say, say_x, number_of, named_by, given}
use Rattle.rules.specs.Audit.{broken, rule_count, first_broken, audit, audited}
use Rattle.rules.specs.Audited.{AnswersSound, AnswersLowest, AnswersBad}
use Rattle.rules.specs.Meaning.{Sized, Formed, Keeps}
use Rattle.rules.proofs.BookLaws.{read_sized}
use Rattle.rules.proofs.WordLaws.{well_formed, no_bad_word}
use Rattle.rules.proofs.AuditLaws.{broken_unless, none_broken, audit_out, audit_in}

-- Of 4,676 words the audit is that of their tables.
pub whole_audit : (w : ℕ → ℕ) → audited book_words w ≡ audit (read w)
unfolding audited given
whole_audit w = refl

module _ (d : Book) where
  -- a bad word is found, or none is; a broken rule is found, or none is
  abbrev Bad : Bool
  Bad = ltb (first_bad d) book_words

  abbrev Broken : Bool
  Broken = ltb (first_broken d) (rule_count + 1)

  -- What the audit answers, by what its two searches found.
  told : (s t : Bool) → Bad ≡ s → Broken ≡ t → audit d ≡ given s (say_x 2 (first_bad d)) (given t (say (40 + first_broken d)) accepted)
  unfolding audit
  told s t e f = ap (λ (x : Bool). given x (say_x 2 (first_bad d)) (given Broken (say (40 + first_broken d)) accepted)) e
      ∙ ap (λ (x : Bool). given s (say_x 2 (first_bad d)) (given x (say (40 + first_broken d)) accepted)) f

  -- 2 with x = i is told where i is the lowest bad word, and only there ..
  bad_told : (i : ℕ) → Bad ≡ true → first_bad d ≡ i → audit d ≡ say_x 2 i
  unfolding given
  bad_told i e f = told true Broken e refl ∙ ap (say_x 2) f

  bad_only : (i : ℕ) → audit d ≡ say_x 2 i → (Bad ≡ true) × (first_bad d ≡ i)
  unfolding given
  bad_only i e = go Bad Broken refl refl
    where
      go : (s t : Bool) → Bad ≡ s → Broken ≡ t → (Bad ≡ true) × (first_bad d ≡ i)
      go true t p q = (p, ap (λ (x : Said). (named_by x).x) (sym (told true t p q) ∙ e))
      go false true p q = let z = ap number_of (sym (told false true p q) ∙ e) in absurd (omega arith)
      go false false p q = let z = ap number_of (sym (told false false p q) ∙ e) in absurd (omega arith)

  -- .. and 40 + n where no word is bad and n is the lowest broken rule.
  broken_told : (n : ℕ) → Bad ≡ false → Broken ≡ true → first_broken d ≡ n → audit d ≡ say (40 + n)
  unfolding given
  broken_told n e f g = told false true e f ∙ ap (λ (k : ℕ). say (40 + k)) g

  broken_only : (n : ℕ) → audit d ≡ say (40 + n) → (Bad ≡ false) × (Broken ≡ true) × (first_broken d ≡ n)
  unfolding given
  broken_only n e = go Bad Broken refl refl
    where
      go : (s t : Bool) → Bad ≡ s → Broken ≡ t → (Bad ≡ false) × (Broken ≡ true) × (first_broken d ≡ n)
      go true t p q = let z = ap number_of (sym (told true t p q) ∙ e) in absurd (omega arith)
      go false true p q = let z = ap number_of (sym (told false true p q) ∙ e) in (p, q, omega arith)
      go false false p q = let z = ap number_of (sym (told false false p q) ∙ e) in absurd (omega arith)

-- STATEMENT 1: 0 exactly of the well-formed books that keep all ten rules.
pub answers_sound : AnswersSound
answers_sound w fit =
    let d = read w in
    let s = read_sized w fit in (
      λ e. (let a = audit_out d (sym (whole_audit w) ∙ e) in let f = (well_formed d s).means a.0 in (f, (none_broken d s f).means a.1)),
      λ x. whole_audit w ∙ audit_in d ((well_formed d s).fails x.0) ((none_broken d s x.0).fails x.1),
    )

-- STATEMENT 2: 40 + n exactly of the well-formed books that break rule n and keep every lower one.
pub answers_lowest : AnswersLowest
unfolding first_broken
answers_lowest w fit n l h = (out, into)
  where
    d : Book
    d = read w

    s : Sized d
    s = read_sized w fit

    out : audited book_words w ≡ say (40 + n) → Formed d × (Keeps d n → ⊥) × ((k : ℕ) → 1 ≤ k → k < n → Keeps d k)
    out e =
        let x = broken_only d n (sym (whole_audit w) ∙ e) in
        let found = ltb-true (first_broken d) (rule_count + 1) x.1 in
        let f = (well_formed d s).means x.0 in (
          f,
          λ p. not_both (broken d n)
              (subst (λ (k : ℕ). broken d k ≡ true) x.2 (lowest_passes rule_count 1 (broken d) (omega arith)))
              ((broken_unless d s f n h).fails p),
          λ k m p. (broken_unless d s f k (omega arith)).means (lowest_first rule_count 1 (broken d) k m (omega arith)),
        )

    into : Formed d × (Keeps d n → ⊥) × ((k : ℕ) → 1 ≤ k → k < n → Keeps d k) → audited book_words w ≡ say (40 + n)
    into x =
        let breaks = not_kept x.1 in
        let same = lowest_is rule_count 1 (broken d) n l (omega arith) breaks (λ k m p. (broken_unless d s x.0 k (omega arith)).fails (x.2 k m p)) in
        whole_audit w ∙ broken_told d n ((well_formed d s).fails x.0) (lt-ltb (first_broken d) (rule_count + 1) (omega arith)) same
      where
        not_kept : (Keeps d n → ⊥) → broken d n ≡ true
        not_kept f = go (broken d n) refl
          where
            go : (t : Bool) → broken d n ≡ t → broken d n ≡ true
            go true e = e
            go false e = absurd (f ((broken_unless d s x.0 n h).means e))

-- STATEMENT 3: 2 with the lowest bad word; and where no word is bad the book is well-formed.
pub answers_bad : AnswersBad
unfolding first_bad
answers_bad w fit = (λ i. (out i, into i), no_bad_word (read w) (read_sized w fit))
  where
    d : Book
    d = read w

    out : (i : ℕ) → audited book_words w ≡ say_x 2 i → (i < book_words) × (bad d i ≡ true) × ((k : ℕ) → k < i → bad d k ≡ false)
    out i e =
        let x = bad_only d i (sym (whole_audit w) ∙ e) in
        let found = ltb-true (first_bad d) book_words x.0 in (
          omega arith,
          subst (λ (k : ℕ). bad d k ≡ true) x.1 (lowest_passes book_words 0 (bad d) (omega arith)),
          λ k p. lowest_first book_words 0 (bad d) k (omega arith) (omega arith),
        )

    into : (i : ℕ) → (i < book_words) × (bad d i ≡ true) × ((k : ℕ) → k < i → bad d k ≡ false) → audited book_words w ≡ say_x 2 i
    into i x =
        let same = lowest_is book_words 0 (bad d) i (omega arith) (omega arith) x.1 (λ k m p. x.2 k p) in
        whole_audit w ∙ bad_told d i (lt-ltb (first_bad d) book_words (omega arith)) same
