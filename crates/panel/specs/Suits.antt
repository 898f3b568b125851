-- What the panel takes as the arguments of each kind is what document 01's one fixed table asks of them.
use Rattle.std.specs.Prelude.{◌≡◌, Bool, true, ◌&&◌, ℕ, ◌+◌, ◌-◌, eqb, ltb, length}
use Rattle.sets.specs.Search.{all}
use Rattle.rules.specs.Requests.{Needs, unused, in_range, a_task, a_role, a_subject, an_open_order, a_task_mask, table, row_of}
use Rattle.labels.specs.declared.Sort.{Sort}
use Rattle.labels.specs.declared.Sort.TheVariants.{Task, Role, Person, Order, Unused, Mask}
use Rattle.labels.specs.Names.{sort_number}
use Rattle.typed.specs.Arguments.{wanted}

-- the two sorts are one
unfoldable pub same_sort : Sort → Sort → Bool
same_sort sort other = eqb (sort_number sort) (sort_number other)

-- a sort of argument suits what the table asks; where it asks for any number in range, for a thing that need not be there yet
unfoldable pub suits : Needs → Sort → Bool
suits unused sort = same_sort sort Unused
suits in_range sort = ltb (sort_number sort) (sort_number Unused)
suits a_task sort = same_sort sort Task
suits a_role sort = same_sort sort Role
suits a_subject sort = same_sort sort Person
suits an_open_order sort = same_sort sort Order
suits a_task_mask sort = same_sort sort Mask

-- all three arguments of a kind suit
unfoldable pub kind_suits : ℕ → Bool
kind_suits kind =
    suits (row_of kind).a (wanted kind).0
    && suits (row_of kind).b (wanted kind).1
    && suits (row_of kind).c (wanted kind).2

-- how many kinds there are: the rows of the table, but for row 0, which is no kind
unfoldable pub kind_count : ℕ
kind_count = length table - 1

-- Those of every kind do, from kind 1 on. proofs/EachSuits.antt computes it.
abbrev pub EachSuits : Type 0
EachSuits = all kind_count (λ i. kind_suits (i + 1)) ≡ true
