-- What the tests of specs/Tests.antt say of the conditions of specs/Clicks.antt.
use mathlib.Core.Path.{◌≡◌, refl, ap}
use mathlib.Core.Bool.{true, ◌&&◌}
use mathlib.Core.List.{List, [], ◌∷◌}
use Prim.Native.Nat.{ℕ}
use lib.Dec.{leb}
use borrow.Author.Tests.{leb-true}
use Rattle.sets.proofs.Logic.{and_out, and_in}
use Rattle.rules.specs.Book.{book_words}
use Rattle.rules.specs.Requests.{Request}
use Rattle.rules.specs.Numbers.{is_accepted, answer}
use Rattle.rules.proofs.SaidLaws.{accepted_out}
use Rattle.demands.specs.Demand3.{kept}
use Rattle.clicks.specs.Clicks.{AllAdding, AllAccepted}
use Rattle.clicks.specs.Tests.{all_adding, all_accepted}

-- Each of a list is of kinds 4 to 10.
pub adding_out : (qs : List Request) → all_adding qs ≡ true → AllAdding qs
adding_out [] e = tt
adding_out (q ∷ qs) e =
    let x = and_out (leb 4 q.kind && leb q.kind 10) (all_adding qs) e in
    let y = and_out (leb 4 q.kind) (leb q.kind 10) x.0 in
    ((leb-true 4 q.kind y.0, leb-true q.kind 10 y.1), adding_out qs x.1)

-- All are accepted one after the other,
pub accepts_out : (w : ℕ → ℕ) (qs : List Request) → all_accepted w qs ≡ true → AllAccepted w qs
accepts_out w [] e = tt
accepts_out w (q ∷ qs) e =
    let x = and_out (is_accepted (answer book_words w q)) (all_accepted (kept w q) qs) e in
    (accepted_out _ x.0, accepts_out (kept w q) qs x.1)

-- and back.
pub accepts_in : (w : ℕ → ℕ) (qs : List Request) → AllAccepted w qs → all_accepted w qs ≡ true
accepts_in w [] run = refl
accepts_in w (q ∷ qs) (e, run) = and_in (ap is_accepted e) (accepts_in (kept w q) qs run)
