-- Document 01, "The numbers that come back", with M-100, M-104 and M-105: refusals 1 to 11, the conflicts 20 to 34, the answer and the book afterwards.
use Rattle.std.specs.Prelude.{Bool, true, false, ◌&&◌, not, List, [], ◌∷◌, ℕ, suc, ◌-◌, ◌^◌, ltb, eqb}
use Rattle.sets.specs.Mask.{bit, meet, only, picked}
use Rattle.sets.specs.Search.{lowest, paired}
use Rattle.rules.specs.Book.{Book, book_words, SME, DME, RB, SB, juniors, tasks_of, roles_of, active, orders, role_in, subject_in, read, write, first_bad}
use Rattle.rules.specs.Trade.{Owner, role, subject, reach, owns_role, owned_tasks, subject_group, role_group}
use Rattle.rules.specs.Requests.{Request, Deed, nothing, define, relate, assign, activate, open_order, allocate, close_order, take_back, unrelate}
use Rattle.rules.specs.Requests.{Row, row_of, fits, is_open, role_hand, subject_hand, change}

-- What an answer names beside its number: x, y and z, which are 0 where nothing is said.
pub record Named : Type 0 where
  pub x : ℕ
  pub y : ℕ
  pub z : ℕ

-- An answer is 0, accepted, or another number with what it names:
pub data Said : Type 0 where
  accepted : Said
  says : ℕ → Named → Said

-- nothing,
abbrev pub say : ℕ → Said
say n = says n (record { x = 0; y = 0; z = 0 })

-- x,
abbrev pub say_x : ℕ → ℕ → Said
say_x n x = says n (record { x = x; y = 0; z = 0 })

-- x and y,
abbrev pub say_xy : ℕ → ℕ → ℕ → Said
say_xy n x y = says n (record { x = x; y = y; z = 0 })

-- or x, y and z.
abbrev pub say_xyz : ℕ → ℕ → ℕ → ℕ → Said
say_xyz n x y z = says n (record { x = x; y = y; z = z })

abbrev pub number_of : Said → ℕ
number_of accepted = 0
number_of (says n r) = n

abbrev pub named_by : Said → Named
named_by accepted = record { x = 0; y = 0; z = 0 }
named_by (says n r) = r

-- the number is 0
abbrev pub is_accepted : Said → Bool
is_accepted accepted = true
is_accepted (says n r) = false

-- the answer s where the test holds, else what the rest gives
unfoldable pub given : Bool → Said → Said → Said
given t s rest = elim t [ true ↦ s | false ↦ rest ]

-- number n with the lowest that passes f as x
unfoldable pub given_lowest : ℕ → (ℕ → Bool) → Said → Said
given_lowest n f rest = let i = lowest f in given (ltb i 64) (say_x n i) rest

-- the set of o is not empty
abbrev pub has_some : (ℕ → ℕ) → ℕ → Bool
has_some f o = not (eqb (f o) 0)

-- number n with x the lowest whose set is not empty, and y that whole set
unfoldable pub given_set : ℕ → (ℕ → ℕ) → Said → Said
given_set n f rest = let i = lowest (has_some f) in given (ltb i 64) (say_xy n i (f i)) rest

-- some number has a partner
abbrev pub some_pair : (ℕ → ℕ → Bool) → Bool
some_pair f = ltb (lowest (paired f)) 64

-- number n with x the lowest that has a partner, then y its lowest partner; z is given
abbrev pub say_pair : ℕ → (ℕ → ℕ → Bool) → ℕ → Said
say_pair n f z = let i = lowest (paired f) in say_xyz n i (lowest (f i)) z

unfoldable pub given_pair_in : ℕ → (ℕ → ℕ → Bool) → ℕ → Said → Said
given_pair_in n f z rest = given (some_pair f) (say_pair n f z) rest

-- the same where nothing is said of z
abbrev pub given_pair : ℕ → (ℕ → ℕ → Bool) → Said → Said
given_pair n f = given_pair_in n f 0

-- p is one of those asked, and has a pair
abbrev pub has_pair : (ℕ → Bool) → (ℕ → ℕ → ℕ → Bool) → ℕ → Bool
has_pair asked f p = asked p && some_pair (f p)

-- number n with z the lowest of those asked that has a pair, then x and y the lowest for it
unfoldable pub given_lowest_pair : ℕ → (ℕ → Bool) → (ℕ → ℕ → ℕ → Bool) → Said → Said
given_lowest_pair n asked f rest = let p = lowest (has_pair asked f) in given (ltb p 64) (say_pair n (f p) p) rest

-- 4: an argument is not what it must be; x = 1, 2 or 3, the first at fault
unfoldable pub argument_fault : Book → Row → ℕ → ℕ → ℕ → Said → Said
argument_fault d row a b c rest =
    given (not (fits d row.a a)) (say_x 4 1)
    (given (not (fits d row.b b)) (say_x 4 2)
    (given (not (fits d row.c c)) (say_x 4 3) rest))

-- the active word of c names a role that c owns now
unfoldable pub active_owned : Book → ℕ → Bool
active_owned d c = not (eqb (d.row active c) 0) && owns_role d (subject d c) (d.row active c - 1)

-- t is in xs and not in ys
abbrev pub outside : ℕ → ℕ → ℕ → Bool
outside xs ys t = bit xs t && not (bit ys t)

-- Kind 13, stage by stage; e is the active role of c, plus 1. 11: the role doesn't own some task of the role group of a in the order
abbrev pub task_refusal : Book → ℕ → ℕ → ℕ → Said
task_refusal d a b e = given_lowest 11 (outside (role_hand d a b) (owned_tasks d (role (e - 1)))) accepted

-- 10: the cell v has a role other than e's; then 11
abbrev pub other_role : ℕ → ℕ → Bool
other_role v e = not (eqb (role_in v) 0) && not (eqb (role_in v) e)

abbrev pub role_refusal : Book → ℕ → ℕ → ℕ → Said
role_refusal d a b e = given (other_role (d.cell b a) e) (say_x 10 (role_in (d.cell b a) - 1)) (task_refusal d a b e)

-- 9: the cell has a subject; then 10 and 11
abbrev pub cell_refusal : Book → ℕ → ℕ → ℕ → Said
cell_refusal d a b e = given (not (eqb (subject_in (d.cell b a)) 0)) (say_x 9 (subject_in (d.cell b a) - 1)) (role_refusal d a b e)

-- 4 where a is not in order b; 8; then 9 to 11
unfoldable pub allocate_refusal : Book → ℕ → ℕ → ℕ → Said
allocate_refusal d a b c =
    given (not (bit (d.row orders b) a)) (say_x 4 1)
    (given (not (active_owned d c)) (say 8)
    (cell_refusal d a b (d.row active c)))

-- 7, kinds 4 to 7 and 18 to 21: some order is open; x = lowest
abbrev pub open_refusal : Book → Said
open_refusal d = given_lowest 7 (is_open d) accepted

-- 3, and 5 to 11, of a kind whose arguments fit. 3: a kind outside 1..21, whose row asks for nothing, so that no 4 comes before it.
-- In kind 13 the second half of 4 comes first.
unfoldable pub state_refusal : Book → Deed → ℕ → ℕ → ℕ → Said
state_refusal d nothing a b c = say 3
state_refusal d (define n) a b c = given (bit (d.head n) a) (say 5) accepted
state_refusal d (relate n) a b c = given (bit (d.row n a) b) (say 5) (open_refusal d)
state_refusal d (assign n) a b c = given (bit (d.row n b) a) (say 5) accepted
state_refusal d activate a b c = given (not (owns_role d (subject d b) a)) (say 8) accepted
state_refusal d open_order a b c = given (is_open d a) (say 5) accepted
state_refusal d allocate a b c = allocate_refusal d a b c
state_refusal d close_order a b c = accepted
state_refusal d (take_back n) a b c = given (not (bit (d.row n b) a)) (say 6) accepted
state_refusal d (unrelate n) a b c = given (not (bit (d.row n a) b)) (say 6) (open_refusal d)

-- 3 to 11
unfoldable pub refusal : Book → Request → Said
refusal d q =
    let row = row_of q.kind in
    let rest = state_refusal d row.deed q.a q.b q.c in
    argument_fault d row q.a q.b q.c rest

-- A conflict, for the arguments a and b: its own answer where it is given, else what the rest gives.
abbrev pub Conflict : Type 0
Conflict = Book → ℕ → ℕ → Said → Said

-- 20: self constraint
unfoldable pub self_constraint : Conflict
self_constraint d a b = given (eqb a b) (say 20)

-- 21 / 22: a and b are already DME / SME
unfoldable pub already_dme : Conflict
already_dme d a b = given (bit (d.row DME a) b) (say 21)

unfoldable pub already_sme : Conflict
already_sme d a b = given (bit (d.row SME a) b) (say 22)

-- 23: a and b lie in one subject group
unfoldable pub one_subject_group : Conflict
one_subject_group d a b = given (bit (subject_group d a) b) (say 23)

-- 24: a and b lie in one role group
unfoldable pub one_role_group : Conflict
one_role_group d a b = given (bit (role_group d a) b) (say 24)

-- an owner owns a and b
abbrev pub owns_both : Book → Owner → ℕ → ℕ → ℕ → Bool
owns_both d start a b o = let mine = owned_tasks d (start o) in bit mine a && bit mine b

-- 25 / 26: a role / a subject owns a and b; x = lowest
unfoldable pub role_owns_both : Conflict
role_owns_both d a b = given_lowest 25 (owns_both d role a b)

unfoldable pub subject_owns_both : Conflict
subject_owns_both d a b = given_lowest 26 (owns_both d (subject d) a b)

-- u of the set xs and v of the set ys, v in u's row
abbrev pub between : (ℕ → ℕ) → ℕ → ℕ → ℕ → ℕ → Bool
between rows xs ys u v = bit xs u && (bit (rows u) v && bit ys v)

-- 27: SME between a task x of a's role group and a task y of b's
unfoldable pub sme_between_groups : Conflict
sme_between_groups d a b = given_pair 27 (between (d.row SME) (role_group d a) (role_group d b))

-- 28: DME between a task x of a's subject group and a task y of b's
unfoldable pub dme_between_groups : Conflict
dme_between_groups d a b = given_pair 28 (between (d.row DME) (subject_group d a) (subject_group d b))

-- 29 / 30: self inheritance, a = b / cycle, a reaches b
unfoldable pub self_inheritance : Conflict
self_inheritance d a b = given (eqb a b) (say 29)

unfoldable pub cycle : Conflict
cycle d a b = given (bit (reach d a) b) (say 30)

-- the owned tasks that are SME to one that would be gained
abbrev pub clashing : (ℕ → ℕ) → ℕ → ℕ → ℕ
clashing sme gain owned = picked (λ t. meet (sme t) gain) owned

-- such tasks of owner o, if o is one of those asked
abbrev pub clashes : Book → Owner → (ℕ → Bool) → ℕ → ℕ → ℕ
clashes d start asked gain o = only (asked o) (clashing (d.row SME) gain (owned_tasks d (start o)))

-- 31: x = lowest role, among b and its seniors, that owns a task SME to one it would gain; y = the mask of all such tasks that it owns
-- 32: x = lowest subject likewise, in kinds 8 and 9 among those owning role b; y likewise
-- What is gained: task a in 8 ..
abbrev pub gained_task : Book → ℕ → ℕ
gained_task d a = 2 ^ a

-- .. all tasks owned by role a in 9 and 10.
abbrev pub gained_role : Book → ℕ → ℕ
gained_role d a = owned_tasks d (role a)

unfoldable pub task_assignment : (Book → ℕ → ℕ) → Conflict
task_assignment gained d a b = given_set 31 (clashes d role (λ o. owns_role d (role o) b) (gained d a))

unfoldable pub role_assignment : (Book → ℕ → ℕ) → Conflict
role_assignment gained d a b = given_set 32 (clashes d (subject d) (λ o. owns_role d (subject d o) b) (gained d a))

-- kind 10: b itself
unfoldable pub own_role_assignment : Conflict
own_role_assignment d a b = given_set 32 (clashes d (subject d) (eqb b) (gained_role d a))

-- the cell of task t in order b has subject c
abbrev pub in_hand : Book → ℕ → ℕ → ℕ → Bool
in_hand d b c t = eqb (subject_in (d.cell b t)) (suc c)

-- the tasks of order b that c holds
unfoldable pub held_by : Book → ℕ → ℕ → ℕ
held_by d b c = picked (in_hand d b c) (d.row orders b)

-- c holds in order p a task x whose row of table n has a task y of the hand
abbrev pub holds : ℕ → Book → ℕ → ℕ → ℕ → ℕ → ℕ → Bool
holds n d c hand p = between (d.row n) (held_by d p c) hand

-- 33: c holds, in any open order, a task x SME to a task y of a's subject group in order b; z = lowest such order, x and y the lowest for it
unfoldable pub held_sme : ℕ → Conflict
held_sme c d a b = given_lowest_pair 33 (is_open d) (holds SME d c (subject_hand d a b))

-- 34: c holds in order b a task x DME to a task y of a's subject group in the order; z = b
unfoldable pub held_dme : ℕ → Conflict
held_dme c d a b = given_pair_in 34 (holds DME d c (subject_hand d a b) b) b

-- Conflicts by kind, in the order listed. 4: 20, 21, 23, 24, 25, 26.
unfoldable pub sme_conflicts : List Conflict
sme_conflicts = self_constraint ∷ already_dme ∷ one_subject_group ∷ one_role_group ∷ role_owns_both ∷ subject_owns_both ∷ []

-- 5: 20, 22, 23.
unfoldable pub dme_conflicts : List Conflict
dme_conflicts = self_constraint ∷ already_sme ∷ one_subject_group ∷ []

-- 6: 20, 22, 27.
unfoldable pub rb_conflicts : List Conflict
rb_conflicts = self_constraint ∷ already_sme ∷ sme_between_groups ∷ []

-- 7: 20, 21, 22, 27, 28.
unfoldable pub sb_conflicts : List Conflict
sb_conflicts = self_constraint ∷ already_dme ∷ already_sme ∷ sme_between_groups ∷ dme_between_groups ∷ []

-- 8: 31, 32.
unfoldable pub task_conflicts : List Conflict
task_conflicts = task_assignment gained_task ∷ role_assignment gained_task ∷ []

-- 9: 29, 30, 31, 32.
unfoldable pub junior_conflicts : List Conflict
junior_conflicts = self_inheritance ∷ cycle ∷ task_assignment gained_role ∷ role_assignment gained_role ∷ []

-- 10: 32.
unfoldable pub role_conflicts : List Conflict
role_conflicts = own_role_assignment ∷ []

-- 13: 33, 34, of subject c.
unfoldable pub held_conflicts : ℕ → List Conflict
held_conflicts c = held_sme c ∷ held_dme c ∷ []

-- Kinds that do the same to different tables go by the table. One that is not listed is no kind's: 3.
unfoldable pub unlisted : Conflict
unlisted d a b rest = say 3

unfoldable pub by_table : List (ℕ × List Conflict) → ℕ → List Conflict
by_table [] n = unlisted ∷ []
by_table (x ∷ xs) n = elim (eqb n x.0) [ true ↦ x.1 | false ↦ by_table xs n ]

unfoldable pub pair_conflicts : ℕ → List Conflict
pair_conflicts = by_table ((SME, sme_conflicts) ∷ (DME, dme_conflicts) ∷ (RB, rb_conflicts) ∷ (SB, sb_conflicts) ∷ [])

unfoldable pub assign_conflicts : ℕ → List Conflict
assign_conflicts = by_table ((tasks_of, task_conflicts) ∷ (juniors, junior_conflicts) ∷ (roles_of, role_conflicts) ∷ [])

-- Others none.
unfoldable pub conflicts : Deed → ℕ → List Conflict
conflicts nothing c = []
conflicts (define n) c = []
conflicts (relate n) c = pair_conflicts n
conflicts (assign n) c = assign_conflicts n
conflicts activate c = []
conflicts open_order c = []
conflicts allocate c = held_conflicts c
conflicts close_order c = []
conflicts (take_back n) c = []
conflicts (unrelate n) c = []

-- the first that is given, in the order listed; the rest is computed only where it is asked
unfoldable pub first_of : List Conflict → Book → ℕ → ℕ → Said
first_of [] d a b = accepted
first_of (f ∷ fs) d a b = let rest = first_of fs d a b in f d a b rest

unfoldable pub conflict : Book → Request → Said
conflict d q = first_of (conflicts (row_of q.kind).deed q.c) d q.a q.b

-- the first of two answers that is not 0
unfoldable pub or_else : Said → Said → Said
or_else accepted s = s
or_else (says n r) s = says n r

-- 2: some word is bad; x = lowest index
unfoldable pub judge : Book → Request → Said
judge d q =
    let i = first_bad d in
    let after = conflict d q in
    let rest = or_else (refusal d q) after in
    given (ltb i book_words) (say_x 2 i) rest

-- the blind change
unfoldable pub blind : Book → Request → Book
blind d q = change d (row_of q.kind).deed q.a q.b q.c

-- Any answer but 0 leaves the book untouched.
unfoldable pub kept : Said → Book → Request → Book
kept accepted d q = blind d q
kept (says n r) d q = d

-- THE ANSWER to a request on a lent slice of n words w. 1: the slice hasn't 4,676 words.
unfoldable pub answer : ℕ → (ℕ → ℕ) → Request → Said
answer n w q = given (not (eqb n book_words)) (say 1) (judge (read w) q)

-- THE WORDS AFTERWARDS, by the answer: those of the changed book where it is 0, else those that stood there.
unfoldable pub words_after : Said → (ℕ → ℕ) → Request → ℕ → ℕ
words_after accepted w q = write (blind (read w) q)
words_after (says n r) w q = w
