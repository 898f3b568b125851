-- Two requests of kinds 4 to 10 change places. The book after the second alone has fewer steps than the book after both, which is
-- sound; so it is sound too, and the checks, being exact, let the second through. Both ways round the same steps are added, so the
-- book after both is the same one, and the first is let through as well. Only this much of the kinds is used: what joins.
use mathlib.Core.Path.{◌≡◌, sym, subst}
use mathlib.Core.Logic.{◌⊎◌, inl, inr, ◌↔◌}
use Prim.Native.Nat.{ℕ}
use Rattle.chains.specs.Relation.{Step}
use Rattle.rules.specs.Book.{Book}
use Rattle.rules.specs.Requests.{Request}
use Rattle.rules.specs.Numbers.{accepted, refusal, judge, blind}
use Rattle.rules.specs.Meaning.{Sized, Sound}
use Rattle.rules.proofs.NumberLaws.{judge_out}
use Rattle.rules.proofs.ChangeLaws.{blind_sized}
use Rattle.rules.proofs.AuditLaws.{audit_sound, sound_audit}
use Rattle.demands.proofs.Fewer.{Beside, sound_fewer}
use Rattle.demands.proofs.TakenBack.{pairs_of}
use Rattle.demands.proofs.Demand3.{book_exact}
use Rattle.clicks.specs.Clicks.{Adding, Joins}
use Rattle.clicks.proofs.Growth.{beside_turn, beside_on, Turns, grown_turns, same_steps}
use Rattle.clicks.proofs.AddingKinds.{blind_grown, joins_turn, not_there, unrefused_beside}

-- On a sound book, a request that is not refused is accepted exactly where the changed book is sound.
pub accepted_sound : (d : Book) → Sized d → Sound d → (q : Request) → refusal d q ≡ accepted → (judge d q ≡ accepted) ↔ Sound (blind d q)
accepted_sound d sized sound q e =
    let x = book_exact d sized (sound_audit d sized sound) q e in
    let after = blind_sized q sized e in
    (λ p. audit_sound (blind d q) after (x.1 p), λ s. x.0 (sound_audit (blind d q) after s))

-- In a sound book the pair tables run both ways.
pub sound_turns : (d : Book) → Sound d → Turns (λ n. Step (d.row n))
sound_turns d sound n h = (pairs_of d sound n h).rule2

-- An accepted request is not refused, the book after it has its size, and after a sound book it is sound.
pub unrefused : (d : Book) (q : Request) → judge d q ≡ accepted → refusal d q ≡ accepted
unrefused d q e = (judge_out d q e).1

pub sized_after : (d : Book) → Sized d → (q : Request) → judge d q ≡ accepted → Sized (blind d q)
sized_after d sized q e = blind_sized q sized (unrefused d q e)

pub sound_after : (d : Book) → Sized d → Sound d → (q : Request) → judge d q ≡ accepted → Sound (blind d q)
sound_after d sized sound q e = (accepted_sound d sized sound q (unrefused d q e)).0 e

-- What is shown of p and then q, where q and then p were accepted.
pub record Swapped (d : Book) (q p : Request) : Type 0 where
  pub first : judge d p ≡ accepted
  pub then : judge (blind d p) q ≡ accepted
  pub same : blind (blind d p) q ≡ blind (blind d q) p

module _ (d : Book) (sized : Sized d) (sound : Sound d) (q p : Request) (adds_q : Adding q) (adds_p : Adding p) (e : judge d q ≡ accepted)
    (f : judge (blind d q) p ≡ accepted) where
  -- the books after q, after p, after q and then p, after p and then q
  abbrev dq : Book
  dq = blind d q

  abbrev dp : Book
  dp = blind d p

  abbrev dqp : Book
  dqp = blind dq p

  abbrev dpq : Book
  dpq = blind dp q

  -- dq and dqp are sound books.
  sized_q : Sized dq
  sized_q = sized_after d sized q e

  sound_q : Sound dq
  sound_q = sound_after d sized sound q e

  sized_qp : Sized dqp
  sized_qp = sized_after dq sized_q p f

  sound_qp : Sound dqp
  sound_qp = sound_after dq sized_q sound_q p f

  -- What joins by p is not in dq, where p is not refused. So it is not in d either, and p is not refused there.
  new_p : (n u v : ℕ) → Joins p n u v → Step (dq.row n) u v → ⊥
  new_p = not_there p adds_p dq (sound_turns dq sound_q) (unrefused dq p f)

  unrefused_p : refusal d p ≡ accepted
  unrefused_p =
      let g = blind_grown q adds_q d in
      unrefused_beside p adds_p (beside_turn g.beside) (unrefused dq p f) (λ n u v x i. new_p n u v x (g.old n u v i))

  sized_p : Sized dp
  sized_p = blind_sized p sized unrefused_p

  -- The steps of dp are among those of dqp ..
  among : (n u v : ℕ) → Step (dp.row n) u v → Step (dqp.row n) u v
  among n u v i = go ((blind_grown p adds_p d).out n u v i)
    where
      go : Step (d.row n) u v ⊎ Joins p n u v → Step (dqp.row n) u v
      go (inl j) = (blind_grown p adds_p dq).old n u v ((blind_grown q adds_q d).old n u v j)
      go (inr x) = (blind_grown p adds_p dq).new n u v x

  beside_p : Beside dqp dp
  beside_p =
      beside_on (beside_turn (blind_grown p adds_p dq).beside) (beside_on (beside_turn (blind_grown q adds_q d).beside) (blind_grown p adds_p d).beside)

  -- .. so dp is sound.
  sound_p : Sound dp
  sound_p =
      sound_fewer dqp dp
      (record { beside = beside_p; steps = among; turns = grown_turns (blind_grown p adds_p d) (joins_turn p adds_p) (sound_turns d sound) }) sound_qp

  -- q is not refused on dp: what joins by q is not in d; and were it what joins by p, then p would find it in dq.
  unrefused_pq : refusal dp q ≡ accepted
  unrefused_pq =
      let g = blind_grown p adds_p d in
      unrefused_beside q adds_q g.beside (unrefused d q e) (λ n u v x i. apart n u v x (g.out n u v i))
    where
      apart : (n u v : ℕ) → Joins q n u v → Step (d.row n) u v ⊎ Joins p n u v → ⊥
      apart n u v x (inl i) = not_there q adds_q d (sound_turns d sound) (unrefused d q e) n u v x i
      apart n u v x (inr y) = new_p n u v y ((blind_grown q adds_q d).new n u v x)

  -- dpq and dqp have the same steps.
  to : (n u v : ℕ) → Step (dpq.row n) u v → Step (dqp.row n) u v
  to n u v i = go ((blind_grown q adds_q dp).out n u v i)
    where
      go : Step (dp.row n) u v ⊎ Joins q n u v → Step (dqp.row n) u v
      go (inl j) = among n u v j
      go (inr x) = (blind_grown p adds_p dq).old n u v ((blind_grown q adds_q d).new n u v x)

  from : (n u v : ℕ) → Step (dqp.row n) u v → Step (dpq.row n) u v
  from n u v i = go ((blind_grown p adds_p dq).out n u v i)
    where
      first : Step (d.row n) u v ⊎ Joins q n u v → Step (dpq.row n) u v
      first (inl j) = (blind_grown q adds_q dp).old n u v ((blind_grown p adds_p d).old n u v j)
      first (inr x) = (blind_grown q adds_q dp).new n u v x

      go : Step (dq.row n) u v ⊎ Joins p n u v → Step (dpq.row n) u v
      go (inl j) = first ((blind_grown q adds_q d).out n u v j)
      go (inr x) = (blind_grown q adds_q dp).old n u v ((blind_grown p adds_p d).new n u v x)

  same_book : dpq ≡ dqp
  same_book =
      same_steps dpq dqp (blind_sized q sized_p unrefused_pq) sized_qp
      (beside_on (beside_turn (blind_grown q adds_q dp).beside) (beside_turn beside_p)) to from

  -- So p and then q are accepted, and lead to the same book.
  pub swapped : Swapped d q p
  swapped = record {
    first = (accepted_sound d sized sound p unrefused_p).1 sound_p;
    then = (accepted_sound dp sized_p sound_p q unrefused_pq).1 (subst Sound (sym same_book) sound_qp);
    same = same_book;
  }
