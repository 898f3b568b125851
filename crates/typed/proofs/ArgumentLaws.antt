-- Laws of arguments.
use mathlib.Core.Path.{◌≡◌, refl, sym, ap, ◌∙◌}
use mathlib.Core.Bool.{Bool, true, false, ◌&&◌}
use mathlib.Core.List.{List, [], ◌∷◌}
use Prim.Native.Nat.{ℕ, zero, suc, ◌-◌, ◌≤◌, ◌<◌}
use native.Mathlib.Omega.{arith}
use lib.Dec.{ltb}
use lib.ListN.{length, get_or, get_or-eq_default}
use borrow.Author.Tests.{lt-ltb, le-ltb}
use Rattle.sets.specs.Mask.{with}
use Rattle.labels.specs.Names.{sort_number, is_name, found}
use Rattle.typed.specs.Words.{start_from, word_at, span_from, by_word}
use Rattle.typed.proofs.WordLaws.{starts, ends, bytes_of, said_of, said_cut, said_over, said_there}
use Rattle.typed.specs.Arguments.{Argument, Is, Not, takes, table, wanted, called_by, counts, value_of, thing_at}
use Rattle.typed.specs.Arguments.{WordRead, IsCut, IsOver, added_to, tasks_from, is_tasks, listed, mask_at, argument_at}
use Rattle.typed.specs.declared.arguments.Reason.TheVariants.{TooLong, UnknownName, NotInRange}
use Rattle.std.proofs.Common.{Ok, Err, Option, Some, None}
use Rattle.std.specs.Option.{SomeIff, ok_or}
use Rattle.labels.specs.declared.Sort.{Sort}
use Rattle.labels.specs.declared.Sort.TheVariants.{Task, Role, Person, Order, Unused, Any}
use mathlib.Core.Logic.{◌⊎◌, inl, inr}
use Rattle.typed.specs.declared.arguments.Fault.{Fault}
use Rattle.typed.specs.declared.arguments.Takes.{Takes}
use Rattle.typed.specs.declared.words.Span.{Span}

same_inside : {A : Type 0} (l : List A) (i : ℕ) (d e : A) → i < length l → get_or l i d ≡ get_or l i e
same_inside [] i d e h = absurd (omega arith)
same_inside (x ∷ l) zero d e h = refl
same_inside (x ∷ l) (suc i) d e h = same_inside l i d e (omega arith)

-- What a kind takes stands in the table, whatever stands for what is past its end.
pub listed_want : (kind : ℕ) (d : Takes) → kind < length table → get_or table kind d ≡ wanted kind
unfolding wanted
listed_want kind d h = same_inside table kind d (takes Any Any Any) h

-- Another kind takes any number.
pub other_want : (kind : ℕ) → length table ≤ kind → takes Any Any Any ≡ wanted kind
unfolding wanted
other_want kind h = sym (get_or-eq_default table (takes Any Any Any) h)

-- A name that something has stands for that thing; one that nothing has is told as unknown.
pub called_found : (names : List ℕ) (sort : Sort) (word : List ℕ) (r : Option ℕ)
    → SomeIff r (found names (sort_number sort) word < 64) (found names (sort_number sort) word) → ok_or r UnknownName ≡ called_by names sort word
unfolding called_by
called_found names sort word (Some n) h = ap Ok h.1 ∙ rw (called_by, lt-ltb (found names (sort_number sort) word) 64 h.0)
called_found names sort word None h =
    let l : 64 ≤ found names (sort_number sort) word = omega arith in rw (called_by, le-ltb (found names (sort_number sort) word) 64 l)

-- Where a thing of a sort is wanted a name stands for it, and any other word is a number.
module _ (names : List ℕ) (sort : Sort) (word : List ℕ) (s t : Bool) (d : s ≡ ltb (sort_number sort) 4) (e : t ≡ is_name word) where
  pub by_name : (s && t) ≡ true → called_by names sort word ≡ value_of names sort word
  unfolding value_of
  by_name h = rw (value_of, sym d, sym e, h)

  pub by_number_lem : (s && t) ≡ false → counts word ≡ value_of names sort word
  unfolding value_of
  by_number_lem h = rw (value_of, sym d, sym e, h)

-- Where no steps are left, the set is as it is.
pub tasks_none : (line : List ℕ) (whole : Bool) (names : List ℕ) (steps set at : ℕ) → steps ≡ 0 → Is set at ≡ tasks_from line whole names steps set at
unfolding tasks_from
tasks_none line whole names steps set at h = rw (h)

-- One task more of a list of tasks.
module _ (line : List ℕ) (whole : Bool) (names : List ℕ) (steps set at : ℕ) (some : steps ≡ 0 → ⊥) where
  one_less : steps ≡ suc (steps - 1)
  one_less = omega arith

  -- what follows from the thing that was read
  abbrev added : Argument → Argument
  added = added_to line whole names (tasks_from line whole names (steps - 1)) set (start_from line at)

  one_more : by_word line whole at (Not TooLong (start_from line at)) (Is set at) (added (thing_at line whole names Task at))
      ≡ tasks_from line whole names steps set at
  unfolding tasks_from
  one_more = ap (λ (n : ℕ). tasks_from line whole names n set at) (sym one_less)

  pub tasks_cut : (fault : Fault) → IsCut line whole at fault → Err fault ≡ tasks_from line whole names steps set at
  tasks_cut fault h = said_cut line whole at Err fault h _ _ ∙ one_more

  pub tasks_over : IsOver line whole at → Is set at ≡ tasks_from line whole names steps set at
  tasks_over h = said_over line whole at h _ _ _ ∙ one_more

  -- Its word is w.
  module _ (w : Span) (h : WordRead line whole at w) where
    there : (a : Argument) → a ≡ thing_at line whole names Task at → added a ≡ tasks_from line whole names steps set at
    there a q = ap added q ∙ said_there line whole at w h (λ start end bytes. added (thing_at line whole names Task at)) _ _ ∙ one_more

    pub tasks_more : (n behind : ℕ) → Is n behind ≡ thing_at line whole names Task at → n < 64 → (more : ℕ) → more ≡ with set n →
        tasks_from line whole names (steps - 1) more behind ≡ tasks_from line whole names steps set at
    unfolding added_to
    tasks_more n behind q l m g =
        let more : tasks_from line whole names (steps - 1) m behind ≡ added (Is n behind) = rw (added_to, lt-ltb n 64 l, g) in
        more ∙ there _ q

    pub tasks_range : (n behind : ℕ) → Is n behind ≡ thing_at line whole names Task at → 64 ≤ n →
        Not NotInRange w.start ≡ tasks_from line whole names steps set at
    unfolding added_to
    tasks_range n behind q l =
        let none : Not NotInRange (start_from line at) ≡ added (Is n behind) = rw (added_to, le-ltb n 64 l) in
        ap (Not NotInRange) (starts line whole at w h.from_at) ∙ none ∙ there _ q

    pub tasks_bad : (f : Fault) → Err f ≡ thing_at line whole names Task at → Err f ≡ tasks_from line whole names steps set at
    unfolding added_to
    tasks_bad f q = there _ q

-- The tasks of an order, whose first word is w: a mask, or the word `tasks` and tasks.
module _ (line : List ℕ) (whole : Bool) (names : List ℕ) (at : ℕ) (w : Span) (e : w ≡ span_from line at whole) (t : Bool)
    (q : t ≡ is_tasks (bytes_of line whole at w e)) where
  asks : is_tasks (word_at line at) ≡ t
  asks = sym (q ∙ said_of line whole at w e (λ s u b. is_tasks b))

  pub mask_number : t ≡ false → thing_at line whole names Unused at ≡ mask_at line whole names at
  unfolding mask_at
  mask_number h = rw (mask_at, asks ∙ h)

  listing : t ≡ true → listed line whole names w.end (thing_at line whole names Task w.end) ≡ mask_at line whole names at
  unfolding mask_at
  listing h = rw (mask_at, asks ∙ h, ends line whole at w e)

  pub mask_listed : t ≡ true → (n behind : ℕ) → thing_at line whole names Task w.end ≡ Is n behind →
      tasks_from line whole names 64 0 w.end ≡ mask_at line whole names at
  unfolding listed
  mask_listed h n behind r = rw (r) at listing h

  pub mask_bad_lem : t ≡ true → (f : Fault) → thing_at line whole names Task w.end ≡ Err f → Err f ≡ mask_at line whole names at
  unfolding listed
  mask_bad_lem h f s = rw (s) at listing h

-- A thing of a sort with names is read as such.
pub want_thing : (line : List ℕ) (whole : Bool) (names : List ℕ) (sort : Sort) (at : ℕ) → (sort ≡ Task) ⊎ ((sort ≡ Role) ⊎ ((sort ≡ Person) ⊎ (sort ≡ Order)))
    → thing_at line whole names sort at ≡ argument_at line whole names sort at
unfolding argument_at
want_thing line whole names sort at (inl e) = rw (e)
want_thing line whole names sort at (inr (inl e)) = rw (e)
want_thing line whole names sort at (inr (inr (inl e))) = rw (e)
want_thing line whole names sort at (inr (inr (inr e))) = rw (e)
