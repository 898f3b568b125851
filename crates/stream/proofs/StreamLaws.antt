-- Laws of the grammar: where a field ends, what its number does to a command, and what the first field's length decides.
use Rattle.std.proofs.Common.{◌≡◌, refl, sym, ap, ◌∙◌, Bool, true, false, ◌&&◌, ◌||◌, ◌==◌, not, cond, true≢false, arith}
use Rattle.std.proofs.Common.{List, [], ◌∷◌, ℕ, suc, ◌+◌, ◌≤◌, nat_lt, length, take, drop, get_or, Option, None, Some, Result, Ok, Err, unwrap_or}
use Rattle.std.proofs.lemmas.List.Sums.{prefix_len-le-length}
use borrow.Author.Tests.{ne_eqb, eqb-true}
use Rattle.std.proofs.Math.Numerals.{one-add}
use Rattle.std.specs.List.{position, position_or_len}
use Rattle.std.specs.Borrow.{Bor}
use Rattle.std.specs.Bool.{then_some}
use Rattle.std.specs.Result.{result_ok}
use Rattle.decimal.specs.Decimal.{number_of}
use Rattle.decimal.specs.declared.Unread.{Unread}
use Rattle.stream.specs.declared.Command.{Command}
use Rattle.stream.specs.declared.Command.TheVariants.{Other}
use Rattle.stream.specs.Stream.{Fields, Further, is_space, longer, fields_of, number_in, with_number, ended, given, fields_behind, goes_on, Starts}
use Rattle.stream.specs.Stream.{named, command_in, command_of}

-- A space parts two fields, and any other byte goes in front of the first.
split : (b : ℕ) (l : List ℕ) (t : Bool) → is_space b ≡ t → fields_of (b ∷ l) ≡ cond t ([] ∷ fields_of l) (longer b (fields_of l))
unfolding fields_of
split b l true e = rw (fields_of, e)
split b l false e = rw (fields_of, e)

-- Where the first space stands; the length, where there is none.
abbrev pub first_space : List ℕ → ℕ
first_space l = unwrap_or (position is_space l) (length l)

at_space : (l : List ℕ) → first_space l ≡ position_or_len is_space l
at_space l = go (nat_lt (position_or_len is_space l) (length l)) refl
  where
    n : ℕ
    n = position_or_len is_space l

    go : (t : Bool) → nat_lt n (length l) ≡ t → unwrap_or (cond t (Some n) None) (length l) ≡ n
    go true e = refl
    go false e = let h : n ≤ length l = prefix_len-le-length _ l in let k : length l ≤ n = grind (arith, e) in omega arith

-- The bytes before the first space are the first field, and the others stand behind it.
pub parted : (l : List ℕ) → fields_of l ≡ take (position_or_len is_space l) l ∷ fields_behind (drop (position_or_len is_space l) l)
unfolding fields_of fields_behind longer
parted [] = refl
parted (b ∷ l) = go (parted l) (is_space b)
  where
    n : ℕ
    n = position_or_len is_space l

    first : Bool → ℕ
    first t = cond (not t) (1 + n) 0

    go : fields_of l ≡ take n l ∷ fields_behind (drop n l)
        → (t : Bool) → elim t [ true ↦ [] ∷ fields_of l | false ↦ longer b (fields_of l) ] ≡ take (first t) (b ∷ l) ∷ fields_behind (drop (first t) (b ∷ l))
    go behind true = refl
    go behind false = rw one-add (ap (longer b) behind)

-- A list with something in front is not empty.
not_empty : (n : ℕ) → (suc n == 0) ≡ false
not_empty n = ne_eqb (suc n) 0 (λ h. omega (arith, h))

-- There is always a first field ..
ended_fields : (l : List ℕ) (c : Command) → ended (fields_of l) c ≡ Other
unfolding ended
ended_fields l c = rw (parted l)

-- .. so a command is complete where nothing is left, and the test holds.
pub complete : (rest : List ℕ) (t : Bool) (c : Command) → unwrap_or (then_some ((length rest == 0) && t) c) Other ≡ ended (fields_behind rest) (given t c)
unfolding fields_behind ended given
complete [] true c = refl
complete [] false c = refl
complete (b ∷ l) t c = rw (not_empty (length l)) (sym (ended_fields l _))

-- The same, with no test more.
pub complete_alone : (rest : List ℕ) (c : Command) → unwrap_or (then_some (length rest == 0) c) Other ≡ ended (fields_behind rest) c
unfolding fields_behind ended
complete_alone [] c = refl
complete_alone (b ∷ l) c = rw (not_empty (length l)) (sym (ended_fields l _))

-- Where nothing is left there is no number.
pub none_left : (rest : List ℕ) → length rest ≡ 0 → Starts (fields_behind rest) None
unfolding fields_behind with_number goes_on
none_left [] h further = refl
none_left (b ∷ l) h further = absurd (omega arith)

-- What a field's number does to a command.
told : Option ℕ → Fields → Further → Command
told None fs further = Other
told (Some v) fs further = further v fs

told_of : (f : List ℕ) (fs : Fields) (further : Further) → with_number (f ∷ fs) further ≡ told (result_ok (number_in f)) fs further
unfolding with_number told
told_of f fs further = go (number_in f)
  where
    go : (r : Result ℕ Unread) → elim r [ Ok v ↦ further v fs | Err e ↦ Other ] ≡ told (result_ok r) fs further
    go (Ok v) = refl
    go (Err e) = refl

-- A field of no bytes writes none, and any other what its bytes write.
none_in : (f : List ℕ) → true ≡ (length f == 0) → result_ok (number_in f) ≡ None
unfolding number_in
none_in [] e = refl
none_in (b ∷ l) e = absurd (true≢false (e ∙ not_empty (length l)))

some_in : (f : List ℕ) → false ≡ (length f == 0) → number_in f ≡ number_of f
unfolding number_in
some_in [] e = absurd (true≢false (sym e))
some_in (b ∷ l) e = refl

-- Behind the space that is left, a field is cut off before the next space, and the others stand behind it.
pub cut : (rest fields field left : List ℕ) (space n : ℕ) → rest ≡ space ∷ fields → n ≡ first_space fields → field ≡ take n fields
    → left ≡ drop n fields → fields_behind rest ≡ field ∷ fields_behind left
unfolding fields_behind
cut rest fields field left space n is at front back = rw (is, front, back, at, at_space fields) (parted fields)

module _ (rest field : List ℕ) (left : Bor (List ℕ)) (behind : fields_behind rest ≡ field ∷ fields_behind left.now) where
  pub no_bytes : true ≡ (length field == 0) → Starts (fields_behind rest) None
  unfolding goes_on told
  no_bytes e further = rw (behind, told_of, none_in field e)

  pub no_number : false ≡ (length field == 0) → None ≡ result_ok (number_of field) → Starts (fields_behind rest) None
  unfolding goes_on told
  no_number e h further = rw (behind, told_of, some_in field e, sym h)

  pub a_number : (v : ℕ) → false ≡ (length field == 0) → Some v ≡ result_ok (number_of field) → Starts (fields_behind rest) (Some (v, left))
  unfolding goes_on told
  a_number v e h further = rw (behind, told_of, some_in field e, sym h)

-- A byte in front of a space, or of the line's end, is the name.
name_then : (b : ℕ) (l : List ℕ) (fs : Fields) (n : ℕ) → fields_of l ≡ [] ∷ fs → command_in (fields_of (b ∷ l)) n ≡ named b fs n
unfolding command_in longer named
name_then b l fs n e = go (is_space b) refl
  where
    go : (t : Bool) → is_space b ≡ t → command_in (fields_of (b ∷ l)) n ≡ named b fs n
    go true h = rw (split b l true h, eqb-true b 32 h)
    go false h = rw (split b l false h, e)

-- A line that is not whole says nothing ..
pub cut_off : (line : List ℕ) (whole : Bool) (n : ℕ) → whole ≡ false → command_of line whole n ≡ Other
unfolding command_of
cut_off line whole n e = rw e

-- .. nor does one of no bytes.
pub blank : (line : List ℕ) (whole : Bool) (n : ℕ) → whole ≡ true → length line ≡ 0 → command_of line whole n ≡ Other
unfolding command_of fields_of command_in
blank [] whole n e h = rw e
blank (b ∷ l) whole n e h = absurd (omega arith)

-- The first byte of a line is the name, where the rest is parted from it ..
pub in_front : (line rest : List ℕ) (b : ℕ) (whole : Bool) (n : ℕ) → line ≡ b ∷ rest → whole ≡ true
    → true ≡ ((length rest == 0) || is_space (get_or rest 0 0)) → command_of line whole n ≡ named b (fields_behind rest) n
unfolding command_of fields_of fields_behind
in_front line [] b whole n is e h = rw (is, e) (name_then b [] [] n refl)
in_front line (c ∷ l) b whole n is e h = rw (is, e) (name_then b (c ∷ l) (fields_of l) n (split c l true (sym (rw (not_empty (length l)) at h))))

-- .. and a name of two bytes is none.
pub two_bytes : (line rest : List ℕ) (b : ℕ) (whole : Bool) (n : ℕ) → line ≡ b ∷ rest → whole ≡ true
    → false ≡ ((length rest == 0) || is_space (get_or rest 0 0)) → command_of line whole n ≡ Other
unfolding command_of command_in longer
two_bytes line [] b whole n is e h = absurd (true≢false (sym h))
two_bytes line (c ∷ l) b whole n is e h = rw (is, e) (go (is_space b) refl)
  where
    longest : (fs : Fields) → command_in (longer b (longer c fs)) n ≡ Other
    longest [] = refl
    longest (f ∷ fs) = refl

    go : (t : Bool) → is_space b ≡ t → command_in (fields_of (b ∷ c ∷ l)) n ≡ Other
    go true k = rw (split b (c ∷ l) true k)
    go false k = rw (split b (c ∷ l) false k, split c l false (sym (rw (not_empty (length l)) at h))) (longest (fields_of l))

-- What has no name of the four is no command.
pub no_name : (b : ℕ) (fs : Fields) (n : ℕ) → (b ≡ 110 → ⊥) → (b ≡ 119 → ⊥) → (b ≡ 114 → ⊥) → (b ≡ 97 → ⊥) → named b fs n ≡ Other
unfolding named
no_name b fs n h i j k = rw (named, ne_eqb b 110 h, ne_eqb b 119 i, ne_eqb b 114 j, ne_eqb b 97 k)
