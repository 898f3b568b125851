-- Document 01, "Requests", with M-100 and M-101: the twenty-one kinds, the fixed table of what each argument must be, and the change of each kind.
use Rattle.std.specs.Prelude.{Bool, true, false, ◌&&◌, not, List, [], ◌∷◌, ℕ, suc, ltb, eqb, get_or}
use Rattle.std.specs.Int.Bits.{bit_and}
use Rattle.sets.specs.Mask.{bit, with, without, within}
use Rattle.rules.specs.Book.{Book, tasks, roles, subjects, SME, DME, RB, SB, juniors, tasks_of, roles_of, active, orders, cell_of, subject_in}
use Rattle.rules.specs.Trade.{subject_group, role_group}

-- A request is a kind and three numbers.
pub record Request : Type 0 where
  pub kind : ℕ
  pub a : ℕ
  pub b : ℕ
  pub c : ℕ

-- What a kind does; kinds that do the same to different tables are one case, with the table.
pub data Deed : Type 0 where
  -- no kind of 1..21
  nothing : Deed
  -- 1, 2, 3: define task a, role a, subject a (the word of the head)
  define : ℕ → Deed
  -- 4, 5, 6, 7: add SME, DME, RB, SB between tasks a and b (the pair table)
  relate : ℕ → Deed
  -- 8, 9, 10: assign task a to role b; make role a a direct junior of role b; assign role a to subject b (with M-101 nothing becomes active)
  assign : ℕ → Deed
  -- 11: make role a the active role of subject b
  activate : Deed
  -- 12: open order a with task mask c
  open_order : Deed
  -- 13: allocate task a in order b to subject c
  allocate : Deed
  -- 14: close order a
  close_order : Deed
  -- 15, 16, 17: take back what 8, 9, 10 added
  take_back : ℕ → Deed
  -- 18, 19, 20, 21: take back SME, DME, RB, SB between tasks a and b (the pair table)
  unrelate : ℕ → Deed

-- What an argument must be.
pub data Needs : Type 0 where
  unused in_range a_task a_role a_subject an_open_order a_task_mask : Needs

pub record Row : Type 0 where
  pub deed : Deed
  pub a : Needs
  pub b : Needs
  pub c : Needs

abbrev pub asks : Deed → Needs → Needs → Needs → Row
asks k a b c = record { deed = k; a = a; b = b; c = c }

abbrev pub no_row : Row
no_row = asks nothing unused unused unused

-- The one fixed table of twenty-one rows; row 0 is no kind.
unfoldable pub table : List Row
table =
    no_row
    ∷ asks (define 0) in_range unused unused
    ∷ asks (define 1) in_range unused unused
    ∷ asks (define 2) in_range unused unused
    ∷ asks (relate SME) a_task a_task unused
    ∷ asks (relate DME) a_task a_task unused
    ∷ asks (relate RB) a_task a_task unused
    ∷ asks (relate SB) a_task a_task unused
    ∷ asks (assign tasks_of) a_task a_role unused
    ∷ asks (assign juniors) a_role a_role unused
    ∷ asks (assign roles_of) a_role a_subject unused
    ∷ asks activate a_role a_subject unused
    ∷ asks open_order in_range unused a_task_mask
    ∷ asks allocate a_task an_open_order a_subject
    ∷ asks close_order an_open_order unused unused
    ∷ asks (take_back tasks_of) a_task a_role unused
    ∷ asks (take_back juniors) a_role a_role unused
    ∷ asks (take_back roles_of) a_role a_subject unused
    ∷ asks (unrelate SME) a_task a_task unused
    ∷ asks (unrelate DME) a_task a_task unused
    ∷ asks (unrelate RB) a_task a_task unused
    ∷ asks (unrelate SB) a_task a_task unused
    ∷ []

unfoldable pub row_of : ℕ → Row
row_of k = get_or table k no_row

-- an order is open
unfoldable pub is_open : Book → ℕ → Bool
is_open d p = not (eqb (d.row orders p) 0)

-- the argument v is what it must be
unfoldable pub fits : Book → Needs → ℕ → Bool
fits d unused v = true
fits d in_range v = ltb v 64
fits d a_task v = ltb v 64 && bit (tasks d) v
fits d a_role v = ltb v 64 && bit (roles d) v
fits d a_subject v = ltb v 64 && bit (subjects d) v
fits d an_open_order v = ltb v 64 && is_open d v
fits d a_task_mask v = not (eqb v 0) && within v (tasks d)

-- The changes. One row of a table ..
unfoldable pub set_row : (ℕ → ℕ) → ℕ → ℕ → ℕ → ℕ
set_row rows r v = λ s. elim (eqb s r) [ true ↦ v | false ↦ rows s ]

abbrev pub add_to : (ℕ → ℕ) → ℕ → ℕ → ℕ → ℕ
add_to rows r i = set_row rows r (with (rows r) i)

abbrev pub take_from : (ℕ → ℕ) → ℕ → ℕ → ℕ → ℕ
take_from rows r i = set_row rows r (without (rows r) i)

-- both bits of a pair added
abbrev pub add_pair : (ℕ → ℕ) → ℕ → ℕ → ℕ → ℕ
add_pair rows a b = add_to (add_to rows a b) b a

-- both bits taken back
abbrev pub take_pair : (ℕ → ℕ) → ℕ → ℕ → ℕ → ℕ
take_pair rows a b = take_from (take_from rows b a) a b

-- .. and one table of the book.
abbrev pub set_head : Book → (ℕ → ℕ) → Book
set_head d f = record { head = f; row = d.row; cell = d.cell }

abbrev pub set_table : Book → ℕ → (ℕ → ℕ) → Book
set_table d n f = record { head = d.head; row = λ m. elim (eqb m n) [ true ↦ f | false ↦ d.row m ]; cell = d.cell }

-- order p has the task mask m, all its cells 0
abbrev pub set_order : Book → ℕ → ℕ → Book
set_order d p m = record {
  head = d.head;
  row = λ n. elim (eqb n orders) [ true ↦ set_row (d.row orders) p m | false ↦ d.row n ];
  cell = λ q t. elim (eqb q p) [ true ↦ 0 | false ↦ d.cell q t ];
}

-- role a is the active role of subject b
abbrev pub set_active : Book → ℕ → ℕ → Book
set_active d a b = set_table d active (set_row (d.row active) b (suc a))

-- the tasks of order b in the role group of a, and in its subject group
unfoldable pub role_hand : Book → ℕ → ℕ → ℕ
role_hand d a b = bit_and (role_group d a) (d.row orders b)

unfoldable pub subject_hand : Book → ℕ → ℕ → ℕ
subject_hand d a b = bit_and (subject_group d a) (d.row orders b)

-- a cell after kind 13: E in the role group, S too in the subject group; e is c's active role, plus 1
unfoldable pub stamped_cell : Bool → Bool → ℕ → ℕ → ℕ → ℕ
stamped_cell in_role in_subject e c v =
    elim in_role [ true ↦ elim in_subject [ true ↦ cell_of e (suc c) | false ↦ cell_of e (subject_in v) ] | false ↦ v ]

-- Kind 13 changes only cells of order b's tasks: E in the role hand, S too in the subject hand.
abbrev pub stamped : Book → ℕ → ℕ → ℕ → ℕ → ℕ → Book
stamped d b by_role by_subject e c = record {
  head = d.head;
  row = d.row;
  cell = λ p t. stamped_cell (eqb p b && bit by_role t) (bit by_subject t) e c (d.cell p t);
}

abbrev pub allocated : Book → ℕ → ℕ → ℕ → Book
allocated d a b c = stamped d b (role_hand d a b) (subject_hand d a b) (d.row active c) c

-- The change of each kind, made blindly.
unfoldable pub change : Book → Deed → ℕ → ℕ → ℕ → Book
change d nothing a b c = d
change d (define n) a b c = set_head d (add_to d.head n a)
change d (relate n) a b c = set_table d n (add_pair (d.row n) a b)
change d (assign n) a b c = set_table d n (add_to (d.row n) b a)
change d activate a b c = set_active d a b
change d open_order a b c = set_order d a c
change d allocate a b c = allocated d a b c
change d close_order a b c = set_order d a 0
change d (take_back n) a b c = set_table d n (take_from (d.row n) b a)
change d (unrelate n) a b c = set_table d n (take_pair (d.row n) a b)
