-- What the audit's tests stand for, over relations and in the document's words: a well-formed book that keeps the ten rules.
-- Nothing is searched or closed here: rows are relations, groups are chains. proofs/AuditLaws.antt shows that the audit answers 0
-- exactly of the sound books.
-- The statements go over the tables that they read, so that a change to another table leaves them as they are.
use Rattle.std.specs.Prelude.{◌≡◌, ◌⊎◌, List, [], ◌∷◌, ℕ, suc, ◌^◌, ◌≤◌, ◌<◌, get_or}
use Rattle.chains.specs.Relation.{Relation, Subset, In, Step, Chain, Reaches}
use Rattle.rules.specs.Book.{Book, book_words, tasks, roles, subjects, role_in, subject_in}
use Rattle.rules.specs.Book.{SME, DME, RB, SB, juniors, tasks_of, roles_of, active, orders}
use Rattle.rules.specs.Trade.{Owner, role, subject}

-- Every word of a book has 64 bits.
abbrev pub Fits : (ℕ → ℕ) → Type 0
Fits w = (i : ℕ) → i < book_words → w i < 2 ^ 64

-- So in its tables every row has 64 bits, a table has 64 rows, and there is no cell past order 63 or task 63.
pub record Tall (rows : ℕ → ℕ) : Type 0 where
  pub fits : (i : ℕ) → rows i < 2 ^ 64
  pub ends : (i : ℕ) → 64 ≤ i → rows i ≡ 0

pub record Sized (d : Book) : Type 0 where
  pub head : Tall d.head
  pub rows : (n : ℕ) → Tall (d.row n)
  pub cells : (p t : ℕ) → (64 ≤ p) ⊎ (64 ≤ t) → d.cell p t ≡ 0

-- Well-formed. Rows of things of I, each a mask of things of J.
abbrev pub Between : ℕ → ℕ → (ℕ → ℕ) → Type 0
Between I J rows = (i j : ℕ) → Step rows i j → In I i × In J j

-- a cell v of task t, in an order of the tasks O, where the roles R and the subjects S are defined
pub record CellWord (R S O t v : ℕ) : Type 0 where
  pub in_order : 0 < v → In O t
  pub role : (r : ℕ) → role_in v ≡ suc r → In R r
  pub subject : (s : ℕ) → subject_in v ≡ suc s → In S s × (0 < role_in v)

-- A well-formed book, table by table.
pub record Formed (d : Book) : Type 0 where
  pub gap : d.head 3 ≡ 0
  pub sme : Between (tasks d) (tasks d) (d.row SME)
  pub dme : Between (tasks d) (tasks d) (d.row DME)
  pub rb : Between (tasks d) (tasks d) (d.row RB)
  pub sb : Between (tasks d) (tasks d) (d.row SB)
  pub juniors_formed : Between (roles d) (roles d) (d.row juniors)
  pub tasks_formed : Between (roles d) (tasks d) (d.row tasks_of)
  pub roles_formed : Between (subjects d) (roles d) (d.row roles_of)
  pub active_formed : (s r : ℕ) → d.row active s ≡ suc r → In (subjects d) s × In (roles d) r
  pub orders_formed : (p t : ℕ) → Step (d.row orders) p t → In (tasks d) t
  pub cells_formed : (p t : ℕ) → CellWord (roles d) (subjects d) (d.row orders p) t (d.cell p t)

-- Rule 1. No task is in its own row.
abbrev pub NoneOwn : Relation → Type 0
NoneOwn X = (t : ℕ) → X t t → ⊥

-- Rule 2. The table is symmetric.
abbrev pub Symmetric : Relation → Type 0
Symmetric X = (u v : ℕ) → X u v → X v u

-- Rule 3. No pair is both.
abbrev pub Disjoint : Relation → Relation → Type 0
Disjoint X Y = (u v : ℕ) → X u v → Y u v → ⊥

-- Rules 4 and 5. No pair of X lies in one group of E.
abbrev pub Apart : Relation → Relation → Type 0
Apart X E = (u v : ℕ) → X u v → Chain E u v → ⊥

-- Rule 6. No role reaches itself.
abbrev pub NoCycle : Relation → Type 0
NoCycle E = (r : ℕ) → Reaches E r r → ⊥

-- What is owned from the start roles S, along the juniors E, with the tasks G given to roles.
abbrev pub Owned : Relation → Relation → Subset → Subset
Owned E G S t = (r : ℕ) × (q : ℕ) × S r × Chain E r q × G q t

-- Rules 7 and 8. No owner owns both tasks of a pair of X.
abbrev pub PairFree : Relation → Subset → Type 0
PairFree X O = (u v : ℕ) → X u v → O u → O v → ⊥

-- Two tasks of one order.
abbrev pub Both : (ℕ → ℕ) → ℕ → Relation
Both o p u v = Step o p u × Step o p v

-- A relation of two cells: that of task u in order p, and that of task v in order q.
abbrev pub CellRelation : Type 1
CellRelation = (p q u v : ℕ) → Type 0

-- Rule 9. No cell of an open order has the same S above 0 as one, of that order or another, that it excludes.
abbrev pub HandsApart : (ℕ → ℕ) → (ℕ → ℕ → ℕ) → CellRelation → Type 0
HandsApart o cell X =
    (p q u v : ℕ) → Step o p u → Step o q v → X p q u v → subject_in (cell p u) ≡ subject_in (cell q v) → 0 < subject_in (cell p u) → ⊥

-- Rule 10. In one order the cells of one group have all the same value.
abbrev pub OneValue : (ℕ → ℕ) → (ℕ → ℕ → ℕ) → Relation → (ℕ → ℕ) → Type 0
OneValue o cell E value = (p u v : ℕ) → Both o p u v → Chain E u v → value (cell p u) ≡ value (cell p v)

-- One of the four pair tables, of defined tasks T.
pub record Pairs (T : ℕ) (rows : ℕ → ℕ) : Type 0 where
  pub formed : Between T T rows
  pub rule1 : NoneOwn (Step rows)
  pub rule2 : Symmetric (Step rows)

-- SB and RB mixed: a step of either.
abbrev pub Mixed : (ℕ → ℕ) → (ℕ → ℕ) → Relation
Mixed s r u v = Step s u v ⊎ Step r u v

-- The pair tables: x is SME, y DME, r RB, s SB.
pub record Bindings (T : ℕ) (x y r s : ℕ → ℕ) : Type 0 where
  pub sme : Pairs T x
  pub dme : Pairs T y
  pub rb : Pairs T r
  pub sb : Pairs T s
  pub rule3 : Disjoint (Step x) (Step y)
  pub rule4 : Apart (Step x) (Mixed s r)
  pub rule5 : Apart (Step y) (Step s)

-- Roles and subjects: j is the juniors, g the tasks of roles, h the roles of subjects, act the active roles.
pub record Ranks (T R S : ℕ) (j g h act : ℕ → ℕ) : Type 0 where
  pub juniors_formed : Between R R j
  pub tasks_formed : Between R T g
  pub roles_formed : Between S R h
  pub active_formed : (s r : ℕ) → act s ≡ suc r → In S s × In R r
  pub rule6 : NoCycle (Step j)

-- u excludes v if v is in u's SME or DME row: by SME in whatever orders the two cells are, by DME in one order.
abbrev pub Excludes : (ℕ → ℕ) → (ℕ → ℕ) → CellRelation
Excludes x y p q u v = Step x u v ⊎ ((p ≡ q) × Step y u v)

-- Orders o and their cells.
pub record Orders (T R S : ℕ) (x y r s o : ℕ → ℕ) (cell : ℕ → ℕ → ℕ) : Type 0 where
  pub orders_formed : (p t : ℕ) → Step o p t → In T t
  pub cells_formed : (p t : ℕ) → CellWord R S (o p) t (cell p t)
  pub rule9 : HandsApart o cell (Excludes x y)
  pub rule10_subject : OneValue o cell (Step s) subject_in
  pub rule10_role : OneValue o cell (Mixed s r) role_in

-- The tasks owned by one that starts with the roles of m.
abbrev pub OwnedFrom : Book → ℕ → Subset
OwnedFrom d m = Owned (Step (d.row juniors)) (Step (d.row tasks_of)) (In m)

-- Rules 7 and 8, of roles and of subjects.
abbrev pub OwnersFree : Book → Owner → Type 0
OwnersFree d start = (o : ℕ) → o < 64 → PairFree (Step (d.row SME)) (OwnedFrom d (start o))

-- A sound book: well-formed, and all ten rules kept.
pub record Sound (d : Book) : Type 0 where
  pub gap : d.head 3 ≡ 0
  pub bindings : Bindings (tasks d) (d.row SME) (d.row DME) (d.row RB) (d.row SB)
  pub ranks : Ranks (tasks d) (roles d) (subjects d) (d.row juniors) (d.row tasks_of) (d.row roles_of) (d.row active)
  pub orders : Orders (tasks d) (roles d) (subjects d) (d.row SME) (d.row DME) (d.row RB) (d.row SB) (d.row orders) d.cell
  pub rule7 : OwnersFree d role
  pub rule8 : OwnersFree d (subject d)

-- What holds of each of the four pair tables.
abbrev pub OfFour : ((ℕ → ℕ) → Type 0) → Book → Type 0
OfFour P d = P (d.row SME) × (P (d.row DME) × (P (d.row RB) × P (d.row SB)))

-- The ten rules as sentences, in their order; place 0 is no rule.
abbrev pub sentences : List (Book → Type 0)
sentences =
    (λ d. Unit {0})
    ∷ OfFour (λ rows. NoneOwn (Step rows))
    ∷ OfFour (λ rows. Symmetric (Step rows))
    ∷ (λ d. Disjoint (Step (d.row SME)) (Step (d.row DME)))
    ∷ (λ d. Apart (Step (d.row SME)) (Mixed (d.row SB) (d.row RB)))
    ∷ (λ d. Apart (Step (d.row DME)) (Step (d.row SB)))
    ∷ (λ d. NoCycle (Step (d.row juniors)))
    ∷ (λ d. OwnersFree d role)
    ∷ (λ d. OwnersFree d (subject d))
    ∷ (λ d. HandsApart (d.row orders) d.cell (Excludes (d.row SME) (d.row DME)))
    ∷ (λ d. OneValue (d.row orders) d.cell (Step (d.row SB)) subject_in × OneValue (d.row orders) d.cell (Mixed (d.row SB) (d.row RB)) role_in)
    ∷ []

-- The book keeps rule n.
abbrev pub Keeps : Book → ℕ → Type 0
Keeps d n = (get_or sentences n (λ d. Unit {0})) d
