-- What the answer 0 says: each test on the way fails, and the rest gives 0 too; and back.
-- Every refusal and conflict is asked by `given`, `given_lowest`, `given_set`, `given_pair_in` or `given_lowest_pair`, so these laws read all of them.
use mathlib.Core.Path.{◌≡◌, refl, ap, ◌∙◌}
use mathlib.Core.Bool.{Bool, true, false, not}
use Prim.Native.Nat.{ℕ, ◌<◌}
use lib.Dec.{ltb}
use borrow.Author.Tests.{not-false}
use Rattle.sets.specs.Search.{lowest}
use Rattle.sets.proofs.Logic.{and_out, and_in, not_both, refute}
use Rattle.sets.proofs.SearchLaws.{none_passes, none_found, no_pair, pair_none}
use Rattle.rules.specs.Book.{Book, book_words, first_bad}
use Rattle.rules.specs.Requests.{Request, Row, row_of, fits}
use Rattle.rules.specs.Numbers.{Named, Said, accepted, says, given, given_lowest, has_some, given_set, some_pair, given_pair_in, has_pair, given_lowest_pair}
use Rattle.rules.specs.Numbers.{argument_fault, state_refusal, refusal, conflict, or_else, judge}
use Rattle.rules.proofs.SaidLaws.{said_not_accepted}

-- Where an answer is 0, its test failed and the rest gave 0 ..
pub given_out : (t : Bool) (n : ℕ) (r : Named) (rest : Said) → given t (says n r) rest ≡ accepted → (t ≡ false) × (rest ≡ accepted)
unfolding given
given_out true n r rest e = absurd (said_not_accepted e)
given_out false n r rest e = (refl, e)

-- .. and back.
pub given_in : (t : Bool) (s rest : Said) → t ≡ false → rest ≡ accepted → given t s rest ≡ accepted
unfolding given
given_in t s rest e f = ap (λ (x : Bool). given x s rest) e ∙ f

-- A search for the lowest gives 0 exactly where no number below 64 passes, and the rest gives 0 ..
pub lowest_out : (n : ℕ) (f : ℕ → Bool) (rest : Said) → given_lowest n f rest ≡ accepted → ((k : ℕ) → k < 64 → f k ≡ false) × (rest ≡ accepted)
unfolding given_lowest
lowest_out n f rest e = let g = given_out (ltb (lowest f) 64) n _ rest e in (none_passes f g.0, g.1)

-- .. and back.
pub lowest_in : (n : ℕ) (f : ℕ → Bool) (rest : Said) → ((k : ℕ) → k < 64 → f k ≡ false) → rest ≡ accepted → given_lowest n f rest ≡ accepted
unfolding given_lowest
lowest_in n f rest h e = given_in (ltb (lowest f) 64) _ rest (none_found f h) e

-- A search for a set that is not empty gives 0 exactly where all are empty, and the rest gives 0 ..
pub set_out : (n : ℕ) (f : ℕ → ℕ) (rest : Said) → given_set n f rest ≡ accepted → ((k : ℕ) → k < 64 → has_some f k ≡ false) × (rest ≡ accepted)
unfolding given_set
set_out n f rest e = let g = given_out (ltb (lowest (has_some f)) 64) n _ rest e in (none_passes (has_some f) g.0, g.1)

-- .. and back.
pub set_in : (n : ℕ) (f : ℕ → ℕ) (rest : Said) → ((k : ℕ) → k < 64 → has_some f k ≡ false) → rest ≡ accepted → given_set n f rest ≡ accepted
unfolding given_set
set_in n f rest h e = given_in (ltb (lowest (has_some f)) 64) _ rest (none_found (has_some f) h) e

-- A search for a pair gives 0 exactly where no pair of numbers below 64 passes, and the rest gives 0 ..
pub pair_out : (n : ℕ) (f : ℕ → ℕ → Bool) (z : ℕ) (rest : Said) → given_pair_in n f z rest ≡ accepted
    → ((u v : ℕ) → u < 64 → v < 64 → f u v ≡ false) × (rest ≡ accepted)
unfolding given_pair_in
pair_out n f z rest e = let g = given_out (some_pair f) n _ rest e in (no_pair f g.0, g.1)

-- .. and back.
pub pair_in : (n : ℕ) (f : ℕ → ℕ → Bool) (z : ℕ) (rest : Said) → ((u v : ℕ) → u < 64 → v < 64 → f u v ≡ false)
    → rest ≡ accepted → given_pair_in n f z rest ≡ accepted
unfolding given_pair_in
pair_in n f z rest h e = given_in (some_pair f) _ rest (pair_none f h) e

-- A search for the lowest of those asked that has a pair gives 0 exactly where none of them has one, and the rest gives 0 ..
pub lowest_pair_out : (n : ℕ) (asked : ℕ → Bool) (f : ℕ → ℕ → ℕ → Bool) (rest : Said) → given_lowest_pair n asked f rest ≡ accepted
    → ((p u v : ℕ) → p < 64 → u < 64 → v < 64 → asked p ≡ true → f p u v ≡ false) × (rest ≡ accepted)
unfolding given_lowest_pair
lowest_pair_out n asked f rest e =
    let g = given_out (ltb (lowest (has_pair asked f)) 64) n _ rest e in
    (λ p u v h hu hv q. no_pair (f p) (refute _ (λ s. not_both _ (and_in q s) (none_passes (has_pair asked f) g.0 p h))) u v hu hv, g.1)

-- .. and back.
pub lowest_pair_in : (n : ℕ) (asked : ℕ → Bool) (f : ℕ → ℕ → ℕ → Bool) (rest : Said)
    → ((p u v : ℕ) → p < 64 → u < 64 → v < 64 → asked p ≡ true → f p u v ≡ false) → rest ≡ accepted → given_lowest_pair n asked f rest ≡ accepted
unfolding given_lowest_pair
lowest_pair_in n asked f rest h e = given_in _ _ rest (none_found (has_pair asked f) (λ p hp.
    refute _ (λ s. let x = and_out (asked p) (some_pair (f p)) s in not_both _ x.1 (pair_none (f p) (λ u v hu hv. h p u v hp hu hv x.0))))) e

-- The first of two answers that is not 0: 0 where both are ..
pub or_else_out : (s t : Said) → or_else s t ≡ accepted → (s ≡ accepted) × (t ≡ accepted)
unfolding or_else
or_else_out accepted t e = (refl, e)
or_else_out (says n r) t e = absurd (said_not_accepted e)

-- .. and back.
pub or_else_in : (s t : Said) → s ≡ accepted → t ≡ accepted → or_else s t ≡ accepted
unfolding or_else
or_else_in s t e f = ap (λ (x : Said). or_else x t) e ∙ f

-- The three arguments are what a row asks for.
pub record Fitting (d : Book) (row : Row) (a b c : ℕ) : Type 0 where
  pub first : fits d row.a a ≡ true
  pub second : fits d row.b b ≡ true
  pub third : fits d row.c c ≡ true

-- Where no argument is at fault, all three fit.
pub fault_out : (d : Book) (row : Row) (a b c : ℕ) (rest : Said) → argument_fault d row a b c rest ≡ accepted → Fitting d row a b c × (rest ≡ accepted)
unfolding argument_fault
fault_out d row a b c rest e =
    let x = given_out (not (fits d row.a a)) 4 _ _ e in
    let y = given_out (not (fits d row.b b)) 4 _ _ x.1 in
    let z = given_out (not (fits d row.c c)) 4 _ _ y.1 in
    (record { first = not-false _ x.0; second = not-false _ y.0; third = not-false _ z.0 }, z.1)

-- .. and back.
pub fault_in : (d : Book) (row : Row) (a b c : ℕ) (rest : Said) → Fitting d row a b c → rest ≡ accepted → argument_fault d row a b c rest ≡ accepted
unfolding argument_fault
fault_in d row a b c rest f e = given_in _ _ _ (ap not f.first) (given_in _ _ _ (ap not f.second) (given_in _ _ _ (ap not f.third) e))

-- None of the numbers 3 to 11 applies to a request.
pub record Unrefused (d : Book) (q : Request) : Type 0 where
  pub fitting : Fitting d (row_of q.kind) q.a q.b q.c
  pub state : state_refusal d (row_of q.kind).deed q.a q.b q.c ≡ accepted

-- A request that is not refused has arguments that fit, a known kind, and a book whose state allows it.
pub refusal_out : (d : Book) (q : Request) → refusal d q ≡ accepted → Unrefused d q
unfolding refusal
refusal_out d q e = let y = fault_out d (row_of q.kind) q.a q.b q.c _ e in record { fitting = y.0; state = y.1 }

-- .. and back.
pub refusal_in : (d : Book) (q : Request) → Unrefused d q → refusal d q ≡ accepted
unfolding refusal
refusal_in d q u = fault_in d (row_of q.kind) q.a q.b q.c _ u.fitting u.state

-- A request is accepted exactly where no word is bad, it is not refused and no conflict is given ..
pub judge_out : (d : Book) (q : Request) → judge d q ≡ accepted
    → (ltb (first_bad d) book_words ≡ false) × (refusal d q ≡ accepted) × (conflict d q ≡ accepted)
unfolding judge
judge_out d q e =
    let x = given_out (ltb (first_bad d) book_words) 2 _ _ e in
    let y = or_else_out (refusal d q) (conflict d q) x.1 in
    (x.0, y.0, y.1)

-- .. and back.
pub judge_in : (d : Book) (q : Request) → ltb (first_bad d) book_words ≡ false → refusal d q ≡ accepted → conflict d q ≡ accepted
    → judge d q ≡ accepted
unfolding judge
judge_in d q w r c = given_in (ltb (first_bad d) book_words) _ _ w (or_else_in (refusal d q) (conflict d q) r c)
