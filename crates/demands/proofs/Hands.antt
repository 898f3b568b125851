-- M-104, proved. Of an allocation by its two conflicts, which are silent exactly where rule 9 is kept. Every other kind leaves the hands, the
-- orders and what excludes as they are, or hands nothing out; and where it adds a pair no order is open.
use mathlib.Core.Path.{◌≡◌, refl, sym, ap, ◌∙◌, subst}
use mathlib.Core.Logic.{◌↔◌, ◌⊎◌, inl, inr}
use mathlib.Core.Bool.{Bool, true, false}
use Prim.Native.Nat.{ℕ}
use native.Mathlib.Omega.{arith}
use lib.Dec.{ltb}
use Rattle.sets.specs.Search.{lowest, all}
use Rattle.chains.specs.Relation.{Step}
use Rattle.rules.specs.Book.{Book, book_words, SME, DME, orders, read, first_bad}
use Rattle.rules.specs.Requests.{Request, a_task, a_subject, Row, allocate, table, row_of, is_open, subject_hand, change}
use Rattle.rules.specs.Numbers.{Named, Said, accepted, says, say_x, number_of, given, some_pair, given_pair_in, has_pair, given_lowest_pair, state_refusal}
use Rattle.rules.specs.Numbers.{refusal, holds, held_sme, held_dme, held_conflicts, conflicts, first_of, conflict, or_else, judge, blind, answer}
use Rattle.rules.specs.Meaning.{Sized, Keeps, Sound}
use Rattle.rules.proofs.SaidLaws.{said_not_accepted}
use Rattle.rules.proofs.NumberLaws.{given_out, Fitting, refusal_out}
use Rattle.rules.proofs.BookLaws.{read_sized}
use Rattle.rules.proofs.ChangeLaws.{Known, no_kind, defines, relates, assigns, activates, opens, allocates, closes, takes_back, unrelates}
use Rattle.rules.proofs.ChangeLaws.{a_task_lem, a_junior, a_role_lem, known_row, fits_lt}
use Rattle.rules.proofs.WordLaws.{well_formed}
use Rattle.rules.proofs.AuditLaws.{sound_formed, audit_sound}
use Rattle.rules.proofs.AuditedLaws.{whole_audit}
use Rattle.demands.specs.Demand3.{Passes, Unrefused}
use Rattle.demands.specs.Hands.{HandsKept, number_told, AllocationBreaks, OthersKeep}
use Rattle.demands.proofs.OneKind.{one_kind}
use Rattle.demands.proofs.RowChanges.{table_before}
use Rattle.demands.proofs.HeldHands.{none_open}
use Rattle.demands.proofs.Allocation.{allocate_hands}
use Rattle.demands.proofs.EveryKind.{shut, deed_exact}
use Rattle.demands.proofs.Demand3.{whole_answer}

-- A request that nothing refuses is answered by its conflicts.
judged : (d : Book) (q : Request) → ltb (first_bad d) book_words ≡ false → refusal d q ≡ accepted → judge d q ≡ conflict d q
unfolding judge given or_else
judged d q well e =
    ap (λ (t : Bool). given t (say_x 2 (first_bad d)) (or_else (refusal d q) (conflict d q))) well ∙ ap (λ (s : Said). or_else s (conflict d q)) e

-- The conflicts of an allocation are silent, or give 33 or 34.
numbered : (d : Book) (a b c : ℕ) {s : Said} → s ≡ first_of (held_conflicts c) d a b → (s ≡ accepted) ⊎ ((number_of s ≡ 33) ⊎ (number_of s ≡ 34))
unfolding first_of held_conflicts held_sme held_dme given_lowest_pair given_pair_in given
numbered d a b c {s} e =
    let hand = subject_hand d a b in
    go (ltb (lowest (has_pair (is_open d) (holds SME d c hand))) 64) (some_pair (holds DME d c hand b)) _ _ e
  where
    go : (t u : Bool) (x y : Named) → s ≡ (elim t [ true ↦ says 33 x | false ↦ elim u [ true ↦ says 34 y | false ↦ accepted ] ])
        → (s ≡ accepted) ⊎ ((number_of s ≡ 33) ⊎ (number_of s ≡ 34))
    go true u x y f = inr (inl (ap number_of f))
    go false true x y f = inr (inr (ap number_of f))
    go false false x y f = inl f

-- A book that passes the audit, and a request that nothing refuses.
module _ (w : ℕ → ℕ) (sized : Sized (read w)) (passes : Passes w) (q : Request) (e : Unrefused w q) where
  -- It is sound ..
  sound : Sound (read w)
  sound = audit_sound (read w) sized (sym (whole_audit w) ∙ passes)

  -- .. and the answer is what conflicts.
  told : answer book_words w q ≡ conflict (read w) q
  told = whole_answer w q ∙ judged (read w) q ((well_formed (read w) sized).fails (sound_formed (read w) sound)) e

  -- Where the request is an allocation, 33 and 34 are what conflicts, and silent exactly where rule 9 is kept.
  module _ (kind : q.kind ≡ 13) where
    told_held : answer book_words w q ≡ first_of (held_conflicts q.c) (read w) q.a q.b
    unfolding row_of table conflict conflicts
    told_held = told ∙ ap (λ (k : ℕ). first_of (conflicts (row_of k).deed q.c) (read w) q.a q.b) kind

    silent_kept : (answer book_words w q ≡ accepted) ↔ Keeps (blind (read w) q) 9
    unfolding row_of table blind change
    silent_kept =
        let f = subst (λ (k : ℕ). Fitting (read w) (row_of k) q.a q.b q.c) kind (refusal_out (read w) q e).fitting in
        let ha = fits_lt (read w) a_task q.a refl f.first in
        let hc = fits_lt (read w) a_subject q.c refl f.third in
        let hands = allocate_hands (read w) sized sound q.a q.b q.c ha hc in
        let made = ap (λ (k : ℕ). change (read w) (row_of k).deed q.a q.b q.c) kind in (
          λ x. subst (λ (d : Book). Keeps d 9) (sym made) (hands.0 (sym told_held ∙ x)),
          λ x. told_held ∙ hands.1 (subst (λ (d : Book). Keeps d 9) made x),
        )

-- STATEMENT 1: an allocation would break rule 9 exactly if 33 or 34 is given.
pub allocation_breaks : AllocationBreaks
allocation_breaks w fit passes q kind e = (breaks (numbered (read w) q.a q.b q.c held), breaking)
  where
    held : answer book_words w q ≡ first_of (held_conflicts q.c) (read w) q.a q.b
    held = told_held w (read_sized w fit) passes q e kind

    kept : (answer book_words w q ≡ accepted) ↔ Keeps (blind (read w) q) 9
    kept = silent_kept w (read_sized w fit) passes q e kind

    breaks : (answer book_words w q ≡ accepted) ⊎ ((number_told w q ≡ 33) ⊎ (number_told w q ≡ 34)) → (HandsKept w q → ⊥)
        → (number_told w q ≡ 33) ⊎ (number_told w q ≡ 34)
    breaks (inl x) f = absurd (f (kept.0 x))
    breaks (inr n) f = n

    breaking : (number_told w q ≡ 33) ⊎ (number_told w q ≡ 34) → HandsKept w q → ⊥
    breaking (inl n) rule = let z = ap number_of (kept.1 rule) in omega arith
    breaking (inr n) rule = let z = ap number_of (kept.1 rule) in omega arith

-- Rule 9 after every deed but an allocation, on a sound book, where no refusal meets it.
others : (d : Book) → Sized d → Sound d → (a b c : ℕ) {row : Row} → Known row → (row.deed ≡ allocate → ⊥) → Fitting d row a b c
    → state_refusal d row.deed a b c ≡ accepted → Keeps (change d row.deed a b c) 9
unfolding change state_refusal conflicts first_of
others d sized sound a b c no_kind n f e = absurd (said_not_accepted e)
others d sized sound a b c (defines m h) n f e = sound.orders.rule9
others d sized sound a b c (relates m h) n f e =
    let same = table_before d m orders _ (omega arith) in
    none_open _ _ _ (λ p t i. shut d sized sound a b c (given_out _ 5 _ _ e).1 p t (subst (λ (g : ℕ → ℕ). Step g p t) same i))
others d sized sound a b c (assigns a_task_lem) n f e = sound.orders.rule9
others d sized sound a b c (assigns a_junior) n f e = sound.orders.rule9
others d sized sound a b c (assigns a_role_lem) n f e = sound.orders.rule9
others d sized sound a b c activates n f e = sound.orders.rule9
others d sized sound a b c opens n f e = ((deed_exact d sized sound a b c opens f e).0 refl).orders.rule9
others d sized sound a b c allocates n f e = absurd (n refl)
others d sized sound a b c closes n f e = ((deed_exact d sized sound a b c closes f e).0 refl).orders.rule9
others d sized sound a b c (takes_back a_task_lem) n f e = sound.orders.rule9
others d sized sound a b c (takes_back a_junior) n f e = sound.orders.rule9
others d sized sound a b c (takes_back a_role_lem) n f e = sound.orders.rule9
others d sized sound a b c (unrelates m h) n f e = ((deed_exact d sized sound a b c (unrelates m h) f e).0 refl).orders.rule9

-- An allocation is kind 13's alone.
allocates_at : (k : ℕ) → (row_of k).deed ≡ allocate → k ≡ 13
unfolding all row_of table
allocates_at = one_kind allocate 13 (omega arith) refl

-- STATEMENT 2: a request of any other kind would keep it.
pub others_keep : OthersKeep
unfolding blind
others_keep w fit passes q n e =
    let sized = read_sized w fit in
    let u = refusal_out (read w) q e in
    others (read w) sized (sound w sized passes q e) q.a q.b q.c (known_row q.kind) (λ x. n (allocates_at q.kind x)) u.fitting u.state
