-- M-102, "The order of clicking must not matter". Two foremen set up one cell from one list, each in an order of their own.
-- Four statements, each proved under its own name: 1 to 3 in proofs/Clicks.antt, 4 in proofs/JustThat.antt. They speak of the words w of a
-- book, and of what passes the audit, is accepted and is kept as demand 3 does (demands/specs/Demand3.antt).
use Rattle.std.specs.Prelude.{◌≡◌, ◌⊎◌, ◌↔◌, true, false, ℕ, ◌+◌, ◌-◌, ◌≤◌, ◌<◌, ltb, get_or}
use mathlib.Core.List.{List, [], ◌∷◌, Perm}
use Rattle.chains.specs.Relation.{Relation, In}
use Rattle.rules.specs.Book.{book_words, table_at, SME, DME, RB, SB, juniors, tasks_of, roles_of, active}
use Rattle.rules.specs.Requests.{Request}
use Rattle.rules.specs.Meaning.{Fits}
use Rattle.demands.specs.Demand3.{Passes, Accepted, kept}

-- a request that adds something: one of kinds 4 to 10
abbrev pub Adding : Request → Type 0
Adding q = (4 ≤ q.kind) × (q.kind ≤ 10)

-- a list of such requests
abbrev pub AllAdding : List Request → Type 0
AllAdding [] = Unit {0}
AllAdding (q ∷ qs) = Adding q × AllAdding qs

-- All of a list are accepted one after the other: the first on the words w, the second on the words kept after it, and so on.
abbrev pub AllAccepted : (ℕ → ℕ) → List Request → Type 0
AllAccepted w [] = Unit {0}
AllAccepted w (q ∷ qs) = Accepted w q × AllAccepted (kept w q) qs

-- the words of the final book, after the last of them
abbrev pub final : (ℕ → ℕ) → List Request → ℕ → ℕ
final w [] = w
final w (q ∷ qs) = final (kept w q) qs

-- 1. Take a book that passes the audit and a run of requests of kinds 4 to 10, all accepted one after the other. In any rearrangement all
-- are accepted as well, and the final book is equal in every word. A rearrangement is mathlib's `Perm`: neighbours swapped, any number of
-- times, so that each request stands in both lists equally often.
abbrev pub OrderFree : Type 0
OrderFree =
    (w : ℕ → ℕ) → Fits w → Passes w → (qs ps : List Request) → AllAdding qs → AllAccepted w qs → Perm qs ps
    → AllAccepted w ps × ((i : ℕ) → final w ps i ≡ final w qs i)

-- the kind that takes back what kind k adds: 18, 19, 20, 21 for 4, 5, 6, 7, and 15, 16, 17 for 8, 9, 10
abbrev pub kind_back : ℕ → ℕ
kind_back k = elim (ltb k 8) [ true ↦ k + 14 | false ↦ k + 7 ]

-- The request p names the two things that q names; of a pair, kinds 4 to 7, in either order. The third number is not used, and may be any.
abbrev pub NamesSame : Request → Request → Type 0
NamesSame q p = ((p.a ≡ q.a) × (p.b ≡ q.b)) ⊎ ((q.kind < 8) × (p.a ≡ q.b) × (p.b ≡ q.a))

-- p takes back what q adds: it is of that kind, and names the same.
abbrev pub TakesBack : Request → Request → Type 0
TakesBack q p = (p.kind ≡ kind_back q.kind) × NamesSame q p

-- 2. On a book that passes the audit, a request of kinds 4 to 10 followed at once by the one that takes it back, both accepted,
-- restores every word. (Past the last word of the book there is nothing to restore.)
abbrev pub Restored : Type 0
Restored =
    (w : ℕ → ℕ) → Fits w → Passes w → (q p : Request) → Adding q → TakesBack q p → Accepted w q → Accepted (kept w q) p
    → (i : ℕ) → i < book_words → kept (kept w q) p i ≡ w i

-- 3. More than was asked: the second of the two is accepted whenever the first is.
abbrev pub BackAccepted : Type 0
BackAccepted = (w : ℕ → ℕ) → Fits w → Passes w → (q p : Request) → Adding q → TakesBack q p → Accepted w q → Accepted (kept w q) p

-- the table that a kind of 4 to 10 adds to
abbrev pub adds_to : ℕ → ℕ
adds_to k = get_or (SME ∷ DME ∷ RB ∷ SB ∷ tasks_of ∷ juniors ∷ roles_of ∷ []) (k - 4) 0

-- What q adds, whatever the book. All seven kinds add a to the row of b; of a pair, kinds 4 to 7, b joins the row of a too ..
abbrev pub JoinsRow : Request → Relation
JoinsRow q u v = ((u ≡ q.b) × (v ≡ q.a)) ⊎ ((q.kind < 8) × (u ≡ q.a) × (v ≡ q.b))

-- .. in that table: number v joins row u of table n.
abbrev pub Joins : Request → ℕ → Relation
Joins q n u v = (n ≡ adds_to q.kind) × JoinsRow q u v

-- 4. Why it is so: whatever the words, an accepted request of kinds 4 to 10 adds just that. A number is in a row of tables 0 to 6
-- afterwards exactly if it was before, or joins it; every other word is as it was. What is added does not depend on the book.
abbrev pub AddsJustThat : Type 0
AddsJustThat =
    (w : ℕ → ℕ) (q : Request) → Adding q → Accepted w q
    → ((n u v : ℕ) → n < active → u < 64 → In (kept w q (table_at n + u)) v ↔ (In (w (table_at n + u)) v ⊎ Joins q n u v))
    × ((i : ℕ) → i < book_words → (i < table_at SME) ⊎ (table_at active ≤ i) → kept w q i ≡ w i)
