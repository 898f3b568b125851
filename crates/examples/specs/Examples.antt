-- Document 01, "Numbers to check by": P1 to P14 as one computed table. Each "then" is the next step of a run. With M-101 a role is active
-- where it was activated: in book B by its active words, in P14 by a request. With M-104 an answer has a third number, and with M-105 y is a mask
-- in P6, P7 and P9.
-- The runs are computed over tables; OnWords.antt says the same of the words that the guarantees speak of.
use Rattle.std.specs.Prelude.{Bool, true, false, ◌&&◌, List, [], ◌∷◌, ℕ, ltb, eqb}
use Rattle.rules.specs.Book.{Book, book_words, read, write}
use Rattle.rules.specs.Requests.{Request}
use Rattle.rules.specs.Numbers.{Said, accepted, says, say, say_x, say_xy, say_xyz, judge, kept}
use Rattle.rules.specs.Small.{Word, cell, book_of, small}

-- all zeros
abbrev pub blank : List Word
blank = []

-- Book B: tasks 0..5, roles 0..3, subjects 0..2. SME 0-1, DME 2-4, SB 2-3, RB 3-5.
-- Tasks: role 0 {0}, role 1 {1}, role 2 {2,3}, role 3 {4,5}. Role 2 is junior of role 3.
-- Subject 0 has role 0; subjects 1 and 2 have role 3; those are active: words 452 to 454 are what activating them left.
abbrev pub book_b : List Word
book_b =
    (0, 63) ∷ (1, 15) ∷ (2, 7)
    ∷ (4, 2) ∷ (5, 1)
    ∷ (70, 16) ∷ (72, 4)
    ∷ (135, 32) ∷ (137, 8)
    ∷ (198, 8) ∷ (199, 4)
    ∷ (263, 4)
    ∷ (324, 1) ∷ (325, 2) ∷ (326, 12) ∷ (327, 48)
    ∷ (388, 1) ∷ (389, 8) ∷ (390, 8)
    ∷ (452, 1) ∷ (453, 4) ∷ (454, 4) ∷ []

-- a request, what it is answered, and words of the book afterwards
pub record Step : Type 0 where
  pub request : Request
  pub answer : Said
  pub words : List Word

abbrev pub ask : ℕ → ℕ → ℕ → ℕ → Said → List Word → Step
ask k a b c s ws = record { request = record { kind = k; a = a; b = b; c = c }; answer = s; words = ws }

-- a run of requests on a small book
pub record Run : Type 0 where
  pub start : List Word
  pub steps : List Step

abbrev pub on : List Word → List Step → Run
on b ss = record { start = b; steps = ss }

abbrev pub same : Said → Said → Bool
same accepted accepted = true
same accepted (says n r) = false
same (says m q) accepted = false
same (says m q) (says n r) = eqb m n && (eqb q.x r.x && (eqb q.y r.y && eqb q.z r.z))

-- the words listed are words of the book, and stand there
abbrev pub stand : Book → List Word → Bool
stand d [] = true
stand d (x ∷ xs) = (ltb x.0 book_words && eqb (write d x.0) x.1) && stand d xs

-- each step gets its answer, and leaves its words
abbrev pub goes : Book → List Step → Bool
goes d [] = true
goes d (s ∷ ss) =
    let told = judge d s.request in
    let after = kept told d s.request in
    elim (same told s.answer && stand after s.words) [ true ↦ goes after ss | false ↦ false ]

abbrev pub all_go : List Run → Bool
all_go [] = true
all_go (r ∷ rs) = elim (small r.start && goes (read (book_of r.start)) r.steps) [ true ↦ all_go rs | false ↦ false ]

abbrev pub examples : List Run
examples =
    on book_b
    ( -- P1 DME 0-1; P2 SME 2-3; P3 SME 2-5; P4 SME 4-5
    ask 5 0 1 0 (say 22) []
    ∷ ask 4 2 3 0 (say 23) []
    ∷ ask 4 2 5 0 (say 24) []
    ∷ ask 4 4 5 0 (say_x 25 3) []
    -- P5 SB 3-4; P6 role 1 to subject 0; P7 task 1 to role 0
    ∷ ask 7 3 4 0 (say_xy 28 2 4) []
    ∷ ask 10 1 0 0 (say_xy 32 0 1) []
    ∷ ask 8 1 0 0 (say_xy 31 0 1) []
    -- P8 role 3 junior of role 2; P9 role 0 junior of role 1
    ∷ ask 9 3 2 0 (say 30) []
    ∷ ask 9 0 1 0 (say_xy 31 1 2) []
    -- P10 open order 0 with mask 60, allocate task 2 to subject 1
    ∷ ask 12 0 0 60 accepted []
    ∷ ask 13 2 0 1 accepted (cell 0 2 514 ∷ cell 0 3 514 ∷ cell 0 4 0 ∷ cell 0 5 512 ∷ [])
    -- P11 then task 4 to subject 1; to subject 2
    ∷ ask 13 4 0 1 (say_xyz 34 2 4 0) []
    ∷ ask 13 4 0 2 accepted (cell 0 4 515 ∷ [])
    -- P12 then task 3 to subject 2; task 5 to subject 2; SME 0-2
    ∷ ask 13 3 0 2 (say_x 9 1) []
    ∷ ask 13 5 0 2 accepted (cell 0 5 515 ∷ [])
    ∷ ask 4 0 2 0 (say_x 7 0) []
    ∷ [])
    -- P13 blank plus tasks 0..3, SB 0-1, SB 2-3, SME 1-3: adding SB 0-2
    ∷ on blank
    (ask 1 0 0 0 accepted []
    ∷ ask 1 1 0 0 accepted []
    ∷ ask 1 2 0 0 accepted []
    ∷ ask 1 3 0 0 accepted []
    ∷ ask 7 0 1 0 accepted []
    ∷ ask 7 2 3 0 accepted []
    ∷ ask 4 1 3 0 accepted []
    ∷ ask 7 0 2 0 (say_xy 27 1 3) []
    ∷ [])
    -- P14 tasks 0, 1 SME; role 0 {0}, role 1 {1}; subject 0 has role 0, and it is active, by kind 11 alone. Open order 0 with mask 3,
    -- task 0 to subject 0, take role 0 back (the active word stays), assign role 1; without activating it, and activated: task 1
    ∷ on blank
    (ask 1 0 0 0 accepted []
    ∷ ask 1 1 0 0 accepted []
    ∷ ask 2 0 0 0 accepted []
    ∷ ask 2 1 0 0 accepted []
    ∷ ask 3 0 0 0 accepted []
    ∷ ask 4 0 1 0 accepted []
    ∷ ask 8 0 0 0 accepted []
    ∷ ask 8 1 1 0 accepted []
    ∷ ask 10 0 0 0 accepted ((388, 1) ∷ (452, 0) ∷ [])
    ∷ ask 11 0 0 0 accepted ((452, 1) ∷ [])
    ∷ ask 12 0 0 3 accepted []
    ∷ ask 13 0 0 0 accepted []
    ∷ ask 17 0 0 0 accepted ((388, 0) ∷ (452, 1) ∷ [])
    ∷ ask 10 1 0 0 accepted ((388, 2) ∷ (452, 1) ∷ [])
    ∷ ask 13 1 0 0 (say 8) []
    ∷ ask 11 1 0 0 accepted ((452, 2) ∷ [])
    ∷ ask 13 1 0 0 (say_xyz 33 0 1 0) []
    ∷ [])
    ∷ []
