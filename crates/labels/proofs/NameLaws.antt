-- Laws of names, over the values that the functions read: what is a name, what is found, and what the table becomes.
use mathlib.Core.Path.{◌≡◌, refl, sym, ap, ap₂, ◌∙◌}
use mathlib.Core.Bool.{Bool, true, false, not, ◌&&◌, ◌||◌}
use mathlib.Core.List.{List, ◌++◌}
use Prim.Native.Nat.{ℕ, ◌+◌, ◌-◌, ◌≤◌, ◌<◌}
use native.Mathlib.Decide.{dec_lt}
use native.Mathlib.Omega.{arith}
use lib.Dec.{ltb, leb, eqb}
use lib.ListN.{length, take, drop, get_or, replicate}
use Rattle.std.proofs.Common.{[], Option, Some, None, append_assoc}
use Rattle.std.proofs.lemmas.List.{drop-drop, drop-replicate, get_or_default}
use Rattle.std.specs.Option.{MatchOption, IsSome, unwrap_or}
use denote.Ref.{Bor}
use borrow.Rule.Slice.PartMut.{put_mid}
use borrow.Author.Tests.{lt-ltb, le-ltb, ltb-true, leb-true, eq-eqb, ne_eqb}
use Rattle.std.specs.List.{list_all, slice_range}
use mathlib.Core.Logic.{◌⊎◌, inl, inr}
use Rattle.std.proofs.lemmas.List.Sums.{AllPass-from_list_all, list_all-from_AllPass}
use Rattle.sets.proofs.Logic.{and_out, and_fails_l, and_fails_r, not_both, refute}
use Rattle.sets.specs.Search.{all, lowest_from}
use Rattle.sets.proofs.SearchLaws.{all_in, all_out, lowest_is, lowest_end, lowest_first, lowest_most}
use Rattle.std.specs.Char.{is_ascii_digit, is_ascii_alphanumeric}
use Rattle.std.proofs.lemmas.Bool.Decides.{nat_tests}
use Rattle.decimal.specs.Decimal.{is_digit}
use Rattle.decimal.proofs.DecimalLaws.{known_digit}
use Rattle.text.specs.Rows.{letter_at, filled, find_row}
use Rattle.text.proofs.RowLaws.{letter_in, letter_out}
use Rattle.labels.specs.Names.{is_letter, is_name_byte, has_name_bytes, is_name, row_at, found, with_row, is_place, given, name_letter, name_length, name_bytes}

-- The letters and digits are those that std knows.
pub name_byte : (b : ℕ) → (is_ascii_alphanumeric b || eqb b 45 || eqb b 95) ≡ is_name_byte b
unfolding is_name_byte is_letter is_digit
name_byte b = grind (arith, nat_tests)

-- the byte at i may stand in a name
abbrev pub passes : List ℕ → ℕ → Bool
passes word i = is_name_byte (letter_at word i)

-- The bytes tested one by one, as they are listed.
pub bytes_listed : (word : List ℕ) → list_all is_name_byte word ≡ has_name_bytes word
unfolding has_name_bytes
bytes_listed word = go (list_all is_name_byte word) refl
  where
    at_i : (i : ℕ) → i < length word → is_name_byte (get_or word i 0) ≡ passes word i
    at_i i h = ap is_name_byte (letter_in word i h)

    at_any : (i d : ℕ) → i < length word → is_name_byte (get_or word i d) ≡ passes word i
    at_any i d h = ap is_name_byte (get_or_default word i d 0 h) ∙ at_i i h

    go : (t : Bool) → list_all is_name_byte word ≡ t → list_all is_name_byte word ≡ all (length word) (passes word)
    go true e = e ∙ sym (all_in (length word) (passes word) (λ i h. sym (at_i i h) ∙ AllPass-from_list_all is_name_byte word e i 0 h))
    go false e =
        e ∙ sym (refute _ (λ p. not_both _ (list_all-from_AllPass is_name_byte word (λ i d h. at_any i d h ∙ all_out (length word) (passes word) p i h)) e))

-- No bytes are no name.
pub name_empty : (word : List ℕ) → length word ≡ 0 → false ≡ is_name word
unfolding is_name
name_empty word h = rw (is_name, eq-eqb (length word) 0 h)

-- Of others the length, the first byte and all bytes are tested.
pub name_tested : (word : List ℕ) (digit bytes : Bool) → 1 ≤ length word → digit ≡ is_ascii_digit (get_or word 0 0) → bytes ≡ has_name_bytes word
    → (leb (length word) 24 && not digit && bytes) ≡ is_name word
unfolding is_name
name_tested word digit bytes some d b =
    rw (is_name, ne_eqb (length word) 0 (λ e. omega arith), b, d ∙ known_digit _ ∙ ap is_digit (letter_in word 0 (omega arith)))

-- A name fits its row.
pub name_fits : (word : List ℕ) → is_name word ≡ true → length word ≤ 24
unfolding is_name
name_fits word e = leb-true _ _ (and_out _ _ (and_out _ _ (and_out _ _ e).0).0).1

-- No letter of a name is a blank.
pub name_no_blank : (word : List ℕ) → is_name word ≡ true → (i : ℕ) → i < length word → eqb (letter_at word i) 32 ≡ false
unfolding is_name has_name_bytes is_name_byte is_letter is_digit
name_no_blank word e i h =
    let may = (and_out (not (eqb (length word) 0) && leb (length word) 24 && not (is_digit (letter_at word 0))) _ e).1 in
    ne_eqb (letter_at word i) 32 (λ b. not_both (is_name_byte 32) (sym (ap is_name_byte b) ∙ all_out (length word) (passes word) may i h) blank_no_byte)
  where
    blank_no_byte : is_name_byte 32 ≡ false
    blank_no_byte = refl

module _ (names : List ℕ) (sort : ℕ) (word : List ℕ) where
  -- Nothing is found where the sort is none ..
  pub found_no_sort : 4 ≤ sort → 64 ≡ found names sort word
  unfolding found
  found_no_sort h = rw (found, le-ltb sort 4 h)

  -- .. so where something is, it is one ..
  pub found_sort : found names sort word < 64 → sort < 4
  found_sort h = go (dec_lt sort 4)
    where
      go : Dec (sort < 4) → sort < 4
      go (yes d) = d
      go (no d) = absurd (omega (arith, found_no_sort (omega arith)))

  -- .. and nothing where the word is no name.
  pub found_no_name : is_name word ≡ false → 64 ≡ found names sort word
  unfolding found
  found_no_name e = rw (found, and_fails_r (ltb sort 4) _ e)

  -- Else the rows are searched.
  pub found_row : (first : ℕ) → sort < 4 → is_name word ≡ true → first ≡ row_at sort 0 → find_row names first 64 24 word ≡ found names sort word
  unfolding found
  found_row first h e f = ap (λ (k : ℕ). find_row names k 64 24 word) f ∙ rw (found, lt-ltb sort 4 h, e)

-- A row of blanks whose front becomes the word is the word, filled up with blanks.
pub front_written : (word : List ℕ) (n : ℕ) → n ≡ 24 → word ++ drop (length word) (replicate n 32) ≡ filled 24 word
unfolding filled
front_written word n h = ap (λ (l : List ℕ). word ++ l) (drop-replicate (length word) n 32 ∙ ap (λ (k : ℕ). replicate (k - length word) 32) h)

-- A table in whose place the filled row is put back is the table with the word.
pub row_put : (names : List ℕ) (at : ℕ) (word row : List ℕ) → row ≡ filled 24 word → put_mid at (at + 24 - at) names row ≡ with_row names at word
unfolding with_row
row_put names at word row e =
    let h : at + (at + 24 - at) ≡ at + 24 = omega arith in
    ap₂ (λ (l r : List ℕ). take at names ++ (l ++ r)) e (drop-drop (at + 24 - at) at names ∙ ap (λ (k : ℕ). drop k names) h)
    ∙ sym (append_assoc (take at names) (filled 24 word) (drop (at + 24) names))

module _ (names : List ℕ) (sort n : ℕ) (word : List ℕ) where
  -- The table stays as it is where it is not whole ..
  pub kept_unless_whole : (length names ≡ 6144 → ⊥) → names ≡ given names sort n word
  unfolding given is_place
  kept_unless_whole h = rw (given, ne_eqb (length names) 6144 h)

  -- .. where there is no such thing ..
  pub kept_unless_thing : ((sort < 4) × (n < 64) → ⊥) → names ≡ given names sort n word
  unfolding given is_place
  kept_unless_thing h = rw (given, and_fails_l _ (is_name word) no_place)
    where
      no_place : is_place names sort n ≡ false
      no_place = refute _ (λ e. let p = and_out _ _ e in h (ltb-true _ _ (and_out _ _ p.0).1, ltb-true _ _ p.1))

  -- .. and where the word is no name.
  pub kept_unless_name : is_name word ≡ false → names ≡ given names sort n word
  unfolding given
  kept_unless_name e = rw (given, and_fails_r (is_place names sort n) _ e)

  -- Else the row of the thing is the word.
  pub given_row : length names ≡ 6144 → sort < 4 → (at : ℕ) → n < 64 → is_name word ≡ true → at ≡ row_at sort n
      → with_row names at word ≡ given names sort n word
  unfolding given is_place
  given_row w s at h e f = ap (λ (k : ℕ). with_row names k word) f ∙ rw (given, eq-eqb (length names) 6144 w, lt-ltb sort 4 s, lt-ltb n 64 h, e)

module _ (names : List ℕ) (sort n i : ℕ) where
  -- There are only blanks where there is no such thing ..
  pub letter_no_thing : ((sort < 4) × (n < 64) → ⊥) → name_letter names sort n i ≡ 32
  unfolding name_letter
  letter_no_thing h = go (dec_lt sort 4) (dec_lt n 64)
    where
      go : Dec (sort < 4) → Dec (n < 64) → name_letter names sort n i ≡ 32
      go (yes s) (yes t) = absurd (h (s, t))
      go (yes s) (no t) = let l : 64 ≤ n = omega arith in rw (name_letter, lt-ltb sort 4 s, le-ltb n 64 l)
      go (no s) d = let l : 4 ≤ sort = omega arith in rw (name_letter, le-ltb sort 4 l)

  module _ (s : sort < 4) where
    -- .. and behind the row.
    pub letter_behind : n < 64 → 24 ≤ i → 32 ≡ name_letter names sort n i
    unfolding name_letter
    letter_behind h l = rw (name_letter, lt-ltb sort 4 s, lt-ltb n 64 h, le-ltb i 24 l)

    -- Else the letter is read in the row.
    pub letter_within : (at : ℕ) → n < 64 → i < 24 → at ≡ row_at sort n → letter_at names (at + i) ≡ name_letter names sort n i
    unfolding name_letter
    letter_within at h l e = ap (λ (k : ℕ). letter_at names (k + i)) e ∙ rw (name_letter, lt-ltb sort 4 s, lt-ltb n 64 h, lt-ltb i 24 l)

-- the letter at i is a blank
abbrev pub blank_at : List ℕ → ℕ → ℕ → ℕ → Bool
blank_at names sort n i = eqb (name_letter names sort n i) 32

-- The name is as long as letters stand before the first blank.
pub length_begins : (names : List ℕ) (sort n : ℕ) → lowest_from 24 0 (blank_at names sort n) ≡ name_length names sort n
unfolding name_length
length_begins names sort n = refl

module _ (names : List ℕ) (sort n : ℕ) where
  -- Where there is no such thing there is no name.
  pub no_thing_no_name : ((sort < 4) × (n < 64) → ⊥) → [] ≡ name_bytes names sort n
  unfolding name_length name_bytes
  no_thing_no_name h =
      let blank = eq-eqb _ _ (letter_no_thing names sort n 0 h) in
      let none : name_length names sort n ≡ 0 =
      lowest_is 24 0 (blank_at names sort n) 0 (omega arith) (omega arith) blank (λ j a b. absurd (omega arith)) in
      ap (λ (k : ℕ). take k (drop (row_at sort n) names)) (sym none)

  -- The first blank is where the name ends; where the row has none, its end.
  pub first_blank : (r : Option ℕ)
      → MatchOption r ((k : ℕ) → 0 ≤ k → k < 24 → name_letter names sort n k ≡ 32 → ⊥)
      (λ i. (0 ≤ i) × (i < 24) × (name_letter names sort n i ≡ 32) × ((k : ℕ) → 0 ≤ k → k < i → name_letter names sort n k ≡ 32 → ⊥))
      → unwrap_or r 24 ≡ name_length names sort n
  unfolding name_length
  first_blank None f = lowest_end 24 (blank_at names sort n) (λ k b. ne_eqb _ _ (f k (omega arith) b))
  first_blank (Some i) f =
      sym (lowest_is 24 0 (blank_at names sort n) i (omega arith) (omega arith) (eq-eqb _ _ f.2) (λ k a b. ne_eqb _ _ (f.3 k a b)))

  -- No name is longer than its row.
  pub name_short : name_length names sort n ≤ 24
  unfolding name_length
  name_short = omega (arith, lowest_most 24 0 (blank_at names sort n))

  module _ (s : sort < 4) (h : n < 64) (at : ℕ) (e : at ≡ row_at sort n) where
    -- Where it has letters, they lie within the table.
    name_within : 0 < name_length names sort n → at + name_length names sort n ≤ length names
    unfolding name_length
    name_within p = go (dec_lt (length names) (at + name_length names sort n))
      where
        last : eqb (name_letter names sort n (name_length names sort n - 1)) 32 ≡ false
        last = lowest_first 24 0 (blank_at names sort n) (name_length names sort n - 1) (omega arith) (omega arith)

        within : name_length names sort n - 1 < 24
        within = omega (arith, name_short)

        go : Dec (length names < at + name_length names sort n) → at + name_length names sort n ≤ length names
        go (yes d) = absurd (not_both _ (eq-eqb _ _ (sym (letter_within names sort n _ s at h within e) ∙ sym (letter_out names _ (omega arith)))) last)
        go (no d) = omega arith

    -- So the name is what a read up to there gives, and where it gives nothing, no bytes.
    pub name_read : (end : ℕ) → end ≡ at + name_length names sort n → (g : Option (Bor (List ℕ))) (none : Bor (List ℕ)) → none.now ≡ []
        → MatchOption g ((end < at) ⊎ (length names < end))
        (λ x. (at ≤ end) × (end ≤ length names) × (x.now ≡ slice_range names at end) × (length x.now + at ≡ end))
        × ((at ≤ end) × (end ≤ length names) → IsSome g)
        → (unwrap_or g none).now ≡ name_bytes names sort n
    unfolding name_bytes
    name_read end q None none z f = z ∙ ap (λ (k : ℕ). take k (drop (row_at sort n) names)) (go (dec_lt 0 (name_length names sort n)) f.0)
      where
        go : Dec (0 < name_length names sort n) → (end < at) ⊎ (length names < end) → 0 ≡ name_length names sort n
        go (no d) o = omega arith
        go (yes d) (inl o) = absurd (omega arith)
        go (yes d) (inr o) = absurd (omega (arith, name_within d))
    name_read end q (Some x) none z f = f.0.2 ∙ ap₂ (λ (k m : ℕ). take k (drop m names)) (omega arith) e
