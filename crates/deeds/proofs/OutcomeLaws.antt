-- How a function shows what it settled: the first refusal stands, and only what is accepted changes the book.
use mathlib.Core.Path.{◌≡◌, refl, sym, ap, ap₂, ◌∙◌}
use mathlib.Core.Bool.{false, true≢false}
use mathlib.Core.List.{List, []}
use Prim.Native.Nat.{ℕ}
use Rattle.rules.specs.Book.{Book}
use Rattle.rules.specs.Requests.{Deed, change}
use Rattle.rules.specs.Numbers.{Said, accepted, says, is_accepted, state_refusal, Conflict, conflicts, first_of, or_else}
use Rattle.book.specs.Slice.{tables, Full}
use Rattle.std.specs.Prelude.{Ok, Err, IsErrAnd}
use Rattle.answers.specs.declared.Refusal.{Refusal}
use Rattle.answers.specs.Answers.{Answer, refused}
use Rattle.answers.proofs.AnswerLaws.{refusal_not_accepted}
use Rattle.deeds.specs.Outcome.{decide, settle, Settled}

-- What a `?` passes up is the refusal that it met.
pub passed_up : (q : Answer) {r : Refusal} → IsErrAnd q (λ e. e ≡ r) → q ≡ Err r
passed_up (Ok done) e = absurd e
passed_up (Err refusal) e = ap Err e

stands_first : (s t : Said) → is_accepted s ≡ false → or_else s t ≡ s
unfolding or_else
stands_first accepted t e = absurd (true≢false e)
stands_first (says n r) t e = refl

-- Where nothing comes after it, an answer is what it is.
stands_alone : (s : Said) → or_else s accepted ≡ s
unfolding or_else
stands_alone accepted = refl
stands_alone (says n r) = refl

module _ (d : Book) (k : Deed) (a b c : ℕ) where
  -- A refusal is the answer ..
  pub decide_refused : (r : Refusal) → refused r ≡ state_refusal d k a b c → refused r ≡ decide d k a b c
  unfolding decide
  decide_refused r e = e ∙ sym (stands_first (state_refusal d k a b c) _ (ap is_accepted (sym e) ∙ refusal_not_accepted r))

  -- .. and where there is none, the conflicts decide.
  pub decide_conflict : {s : Said} → accepted ≡ state_refusal d k a b c → s ≡ first_of (conflicts k c) d a b → s ≡ decide d k a b c
  unfolding decide or_else
  decide_conflict e f = f ∙ ap (λ (t : Said). or_else t (first_of (conflicts k c) d a b)) e

  -- Of a deed that nothing conflicts with, the refusals decide.
  pub decide_unopposed : conflicts k c ≡ [] → state_refusal d k a b c ≡ decide d k a b c
  unfolding decide first_of
  decide_unopposed e =
      sym (ap (λ (fs : List Conflict). or_else (state_refusal d k a b c) (first_of fs d a b)) e ∙ stands_alone (state_refusal d k a b c))

-- The book after a refusal is the old one.
settle_kept : (s : Said) (new old : Book) → is_accepted s ≡ false → settle s new old ≡ old
unfolding settle
settle_kept accepted new old e = absurd (true≢false e)
settle_kept (says n r) new old e = refl

module _ {before : List ℕ} {k : Deed} {a b c : ℕ} where
  -- It is accepted and the change was made.
  pub settled_changed : {after : List ℕ} → accepted ≡ decide (tables before) k a b c → Full after → tables after ≡ change (tables before) k a b c
      → Settled before after k a b c (Ok tt)
  unfolding settle
  settled_changed told full book = record {
    answer = told;
    full = full;
    book = book ∙ ap (λ (s : Said). settle s (change (tables before) k a b c) (tables before)) told;
  }

  -- It is refused and nothing was stored.
  pub settled_kept : {r : Refusal} → refused r ≡ decide (tables before) k a b c → Full before → Settled before before k a b c (Err r)
  settled_kept {r} told full = record {
    answer = told;
    full = full;
    book = sym (settle_kept (decide (tables before) k a b c) _ _ (ap is_accepted (sym told) ∙ refusal_not_accepted r));
  }

-- A deed that does not look at b or c has settled the same whatever they are.
pub settled_for : {before after : List ℕ} {k : Deed} {a b c b' c' : ℕ} {r : Answer} → decide (tables before) k a b c ≡ decide (tables before) k a b' c'
    → change (tables before) k a b c ≡ change (tables before) k a b' c' → Settled before after k a b c r → Settled before after k a b' c' r
settled_for {before} e f s = record {
  answer = s.answer ∙ e;
  full = s.full;
  book = s.book ∙ ap₂ (λ (t : Said) (d : Book). settle t d (tables before)) e f;
}
