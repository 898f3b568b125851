-- Laws of the words that are the book: their front.
use mathlib.Core.Path.{◌≡◌, sym, ap, ◌∙◌}
use mathlib.Core.List.{List, ◌++◌}
use Prim.Native.Nat.{ℕ, ◌<◌}
use native.Mathlib.Omega.{arith}
use native.Mathlib.Decide.{dec_lt}
use lib.ListN.{length, take, drop, drop_of_length-le}
use lib.Seq.{length_front, length-take-le, take_all, take_at, drop_at}
use Rattle.rules.specs.Requests.{Request}
use Rattle.rules.specs.Numbers.{answer}
use Rattle.book.specs.Slice.{words}
use Rattle.answers.specs.Answers.{Answer, said}
use Rattle.answers.specs.Replies.{reply_of}
use Rattle.desk.specs.Guarantee.{Stored, Answered}
use Rattle.replay.specs.Obeyed.{Front, reply_to, Changed}

-- The front is taken as if all n were there ..
pub front_take : (n r : ℕ) (l : List ℕ) → Front n (length l) r → take r l ≡ take n l
front_take n r l f = go (dec_lt n (length l))
  where
    go : Dec (n < length l) → take r l ≡ take n l
    go (yes h) = let e = f.as_asked (omega arith) in rw e
    go (no h) = let e = f.all (omega arith) in take_all r l (omega arith) ∙ sym (take_all n l (omega arith))

-- .. and what stands behind it is left.
front_drop : (n r : ℕ) (l : List ℕ) → Front n (length l) r → drop r l ≡ drop n l
front_drop n r l f = go (dec_lt n (length l))
  where
    go : Dec (n < length l) → drop r l ≡ drop n l
    go (yes h) = let e = f.as_asked (omega arith) in rw e
    go (no h) = let e = f.all (omega arith) in drop_of_length-le l {i = r} (omega arith) ∙ sym (drop_of_length-le l {i = n} (omega arith))

module _ (n r : ℕ) (l e : List ℕ) (q : Request) (a : Answer) (f : Front n (length l) r) (answered : Answered (take r l) e q a) where
  -- What was answered to a request on the front is the reply to it ..
  pub replied : reply_of (said a) ≡ reply_to l n q
  replied = ap reply_of answered.told ∙ ap (λ (front : List ℕ). reply_of (answer (length front) (words front) q)) (front_take n r l f)

  -- .. and as it left e where the front stood, the words are changed.
  pub changed : Changed l (e ++ drop r l) n q
  changed = record { stored = stored; beyond = beyond }
    where
      long : length e ≡ r
      long = answered.stored.as_long ∙ length-take-le r l f.within

      same : length (e ++ drop r l) ≡ length l
      same = length_front l e r answered.stored.as_long

      fits : Front n (length (e ++ drop r l)) r
      fits = rw same f

      left : take n (e ++ drop r l) ≡ e
      left = sym (front_take n r _ fits) ∙ take_at e (drop r l) r long

      stored : Stored (take n l) (take n (e ++ drop r l)) q
      stored = rw (left, ← front_take n r l f) answered.stored

      beyond : drop n (e ++ drop r l) ≡ drop n l
      beyond = sym (front_drop n r _ fits) ∙ drop_at e (drop r l) r long ∙ front_drop n r l f
