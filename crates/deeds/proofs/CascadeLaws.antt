-- How a cascade of early returns shows the answer of the rules: at each test the answer is given, or the rest is asked.
use mathlib.Core.Path.{◌≡◌, sym, ap, ◌∙◌}
use mathlib.Core.Bool.{Bool, true, false, true≢false}
use Prim.Native.Nat.{ℕ}
use lib.Dec.{ltb}
use borrow.Author.Tests.{lt-ltb}
use Rattle.std.specs.Prelude.{Some, None}
use Rattle.sets.specs.Search.{lowest}
use Rattle.sets.specs.Members.{IsLowest}
use Rattle.rules.specs.Numbers.{Named, Said, accepted, says, say_x, given, given_lowest, is_accepted}
use Rattle.answers.specs.declared.Refusal.{Refusal}
use Rattle.answers.specs.Answers.{refused}
use Rattle.answers.proofs.AnswerLaws.{refusal_not_accepted}

module _ (t : Bool) (s rest : Said) where
  -- The test holds: its answer.
  pub given_yes : t ≡ true → s ≡ given t s rest
  unfolding given
  given_yes e = sym (ap (λ (x : Bool). given x s rest) e)

  -- The test fails: what the rest gives.
  pub given_no : {out : Said} → t ≡ false → out ≡ rest → out ≡ given t s rest
  unfolding given
  given_no e p = p ∙ sym (ap (λ (x : Bool). given x s rest) e)

module _ (n : ℕ) (f : ℕ → Bool) (rest : Said) where
  -- A search found x: the number is given with it ..
  pub lowest_yes : {x : ℕ} → IsLowest f (Some x) → say_x n x ≡ given_lowest n f rest
  unfolding given_lowest
  lowest_yes {x} (h, e) =
      ap (say_x n) (sym e) ∙ given_yes (ltb (lowest f) 64) (say_x n (lowest f)) rest (ap (λ (k : ℕ). ltb k 64) e ∙ lt-ltb x 64 h)

  -- .. and where it found nothing the rest is asked.
  pub lowest_no : {out : Said} → IsLowest f None → out ≡ rest → out ≡ given_lowest n f rest
  unfolding given_lowest
  lowest_no e p = given_no (ltb (lowest f) 64) (say_x n (lowest f)) rest (ap (λ (k : ℕ). ltb k 64) e) p

-- A conflict that was asked by itself: where it refuses, that is the answer; where it does not, the rest is asked.
module _ (t : Bool) (n : ℕ) (named : Named) (rest : Said) where
  pub given_stands : (r : Refusal) → refused r ≡ given t (says n named) accepted → refused r ≡ given t (says n named) rest
  unfolding given
  given_stands r e = go t e
    where
      go : (x : Bool) → refused r ≡ (elim x [ true ↦ says n named | false ↦ accepted ]) → refused r ≡ (elim x [ true ↦ says n named | false ↦ rest ])
      go true p = p
      go false p = absurd (true≢false (sym (ap is_accepted p) ∙ refusal_not_accepted r))

  pub given_gives_way : {out : Said} → accepted ≡ given t (says n named) accepted → out ≡ rest → out ≡ given t (says n named) rest
  unfolding given
  given_gives_way {out} e q = go t e
    where
      go : (x : Bool) → accepted ≡ (elim x [ true ↦ says n named | false ↦ accepted ]) → out ≡ (elim x [ true ↦ says n named | false ↦ rest ])
      go true p = absurd (true≢false (ap is_accepted p))
      go false p = q
