-- A request of kinds 4 to 10, and at once the one that takes it back: what joined is lost again, and nothing of it was there before.
-- So the book is as it was. It was sound, so taking back is accepted.
use mathlib.Core.Path.{◌≡◌, sym, subst}
use mathlib.Core.Logic.{◌⊎◌, inl, inr}
use Prim.Native.Nat.{ℕ}
use Rattle.chains.specs.Relation.{Step}
use Rattle.rules.specs.Book.{Book}
use Rattle.rules.specs.Requests.{Request}
use Rattle.rules.specs.Numbers.{accepted, refusal, judge, blind}
use Rattle.rules.specs.Meaning.{Sized, Sound}
use Rattle.rules.proofs.ChangeLaws.{blind_sized}
use Rattle.clicks.specs.Clicks.{Adding, TakesBack, Joins}
use Rattle.clicks.proofs.Growth.{beside_turn, beside_on, Grown, Shrunk, same_steps}
use Rattle.clicks.proofs.AddingKinds.{blind_grown, not_there, back_unrefused, back_shrunk}
use Rattle.clicks.proofs.Swap.{accepted_sound, sound_turns, unrefused, sized_after, sound_after}

module _ (d : Book) (sized : Sized d) (sound : Sound d) (q p : Request) (adds : Adding q) (takes : TakesBack q p) (e : judge d q ≡ accepted) where
  -- the books after q, and after q and then p
  abbrev after : Book
  after = blind d q

  abbrev again : Book
  again = blind after p

  back_free : refusal after p ≡ accepted
  back_free = back_unrefused q adds p takes d (unrefused d q e)

  gained : Grown d after (Joins q)
  gained = blind_grown q adds d

  lost : Shrunk after again (Joins q)
  lost = back_shrunk q adds p takes d (unrefused d q e) (sized_after d sized q e)

  -- Taken back at once, the book is as it was ..
  pub undone_book : again ≡ d
  undone_book =
      same_steps again d (blind_sized p (sized_after d sized q e) back_free) sized
      (beside_on (beside_turn lost.beside) (beside_turn gained.beside))
      (λ n u v i. was n u v i (gained.out n u v (lost.old n u v i)))
      (λ n u v i. lost.left n u v (gained.old n u v i) (λ x. not_there q adds d (sound_turns d sound) (unrefused d q e) n u v x i))
    where
      was : (n u v : ℕ) → Step (again.row n) u v → Step (d.row n) u v ⊎ Joins q n u v → Step (d.row n) u v
      was n u v i (inl j) = j
      was n u v i (inr x) = absurd (lost.gone n u v i x)

  -- .. and taking back is accepted.
  pub undone_accepted : judge after p ≡ accepted
  undone_accepted =
      (accepted_sound after (sized_after d sized q e) (sound_after d sized sound q e) p back_free).1
      (subst Sound (sym undone_book) sound)
