-- No answer but 0 has the number 0. Every refusal, every conflict and every finding is given with a number of its own, and what is given
-- is one of these or the rest; so it goes along the definitions, list by list.
use mathlib.Core.Path.{◌≡◌, refl, sym, ap, ◌∙◌}
use mathlib.Core.Bool.{Bool, true, false, not}
use mathlib.Core.List.{List, [], ◌∷◌}
use Prim.Native.Nat.{ℕ, ◌+◌, ◌<◌}
use native.Mathlib.Omega.{arith}
use lib.Dec.{ltb, eqb}
use lib.ListN.{length, get_or}
use Rattle.sets.specs.Search.{lowest}
use Rattle.rules.specs.Book.{Book, book_words, read, first_bad}
use Rattle.rules.specs.Requests.{Request, Deed, nothing, define, relate, assign, activate, open_order, allocate, close_order, take_back, unrelate}
use Rattle.rules.specs.Requests.{row_of}
use Rattle.rules.specs.Numbers.{Said, accepted, says, say, number_of, given, given_lowest, has_some, given_set}
use Rattle.rules.specs.Numbers.{some_pair, given_pair_in, has_pair, given_lowest_pair}
use Rattle.rules.specs.Numbers.{argument_fault, allocate_refusal, state_refusal, refusal}
use Rattle.rules.specs.Numbers.{Conflict, self_constraint, already_dme, already_sme, one_subject_group, one_role_group, role_owns_both, subject_owns_both}
use Rattle.rules.specs.Numbers.{sme_between_groups, dme_between_groups, self_inheritance, cycle, task_assignment, role_assignment, own_role_assignment}
use Rattle.rules.specs.Numbers.{held_sme, held_dme, unlisted, sme_conflicts, dme_conflicts, rb_conflicts, sb_conflicts, task_conflicts, junior_conflicts}
use Rattle.rules.specs.Numbers.{role_conflicts, held_conflicts, by_table, pair_conflicts, assign_conflicts, conflicts, first_of, conflict}
use Rattle.rules.specs.Numbers.{or_else, judge, answer}
use Rattle.rules.specs.Audit.{audit, audited, first_broken, rule_count}
use Rattle.book.specs.Slice.{words}
use Rattle.towerplank.specs.Told.{four_words, Told, ToldAudit}
use Rattle.assurance.specs.Zero.{ZeroAccepts, ZeroPasses, ZeroInC, ZeroAuditInC}

-- an answer that is accepted, or has a number above 0
abbrev Numbered : Said → Type 0
Numbered accepted = Unit {0}
Numbered (says n r) = 0 < n

-- What is given where a test holds, or the rest.
given_numbered : (t : Bool) (s rest : Said) → Numbered s → Numbered rest → Numbered (given t s rest)
unfolding given
given_numbered true s rest x y = x
given_numbered false s rest x y = y

lowest_numbered : (n : ℕ) (f : ℕ → Bool) (rest : Said) → 0 < n → Numbered rest → Numbered (given_lowest n f rest)
unfolding given_lowest
lowest_numbered n f rest h y = given_numbered (ltb (lowest f) 64) _ rest h y

set_numbered : (n : ℕ) (f : ℕ → ℕ) (rest : Said) → 0 < n → Numbered rest → Numbered (given_set n f rest)
unfolding given_set
set_numbered n f rest h y = given_numbered (ltb (lowest (has_some f)) 64) _ rest h y

pair_numbered : (n : ℕ) (f : ℕ → ℕ → Bool) (z : ℕ) (rest : Said) → 0 < n → Numbered rest → Numbered (given_pair_in n f z rest)
unfolding given_pair_in
pair_numbered n f z rest h y = given_numbered (some_pair f) _ rest h y

lowest_pair_numbered : (n : ℕ) (asked : ℕ → Bool) (f : ℕ → ℕ → ℕ → Bool) (rest : Said) → 0 < n → Numbered rest
    → Numbered (given_lowest_pair n asked f rest)
unfolding given_lowest_pair
lowest_pair_numbered n asked f rest h y = given_numbered (ltb (lowest (has_pair asked f)) 64) _ rest h y

-- The refusals 3 to 11.
allocate_numbered : (d : Book) (a b c : ℕ) → Numbered (allocate_refusal d a b c)
unfolding allocate_refusal
allocate_numbered d a b c =
    given_numbered _ _ _ (omega arith) (given_numbered _ _ _ (omega arith)
    (given_numbered _ _ _ (omega arith) (given_numbered _ _ _ (omega arith) (lowest_numbered 11 _ accepted (omega arith) tt))))

state_numbered : (d : Book) (deed : Deed) (a b c : ℕ) → Numbered (state_refusal d deed a b c)
unfolding state_refusal
state_numbered d nothing a b c = omega arith
state_numbered d (define n) a b c = given_numbered _ _ accepted (omega arith) tt
state_numbered d (relate n) a b c = given_numbered _ _ _ (omega arith) (lowest_numbered 7 _ accepted (omega arith) tt)
state_numbered d (assign n) a b c = given_numbered _ _ accepted (omega arith) tt
state_numbered d activate a b c = given_numbered _ _ accepted (omega arith) tt
state_numbered d open_order a b c = given_numbered _ _ accepted (omega arith) tt
state_numbered d allocate a b c = allocate_numbered d a b c
state_numbered d close_order a b c = tt
state_numbered d (take_back n) a b c = given_numbered _ _ accepted (omega arith) tt
state_numbered d (unrelate n) a b c = given_numbered _ _ _ (omega arith) (lowest_numbered 7 _ accepted (omega arith) tt)

refusal_numbered : (d : Book) (q : Request) → Numbered (refusal d q)
unfolding refusal argument_fault
refusal_numbered d q =
    given_numbered _ _ _ (omega arith) (given_numbered _ _ _ (omega arith)
    (given_numbered _ _ _ (omega arith) (state_numbered d (row_of q.kind).deed q.a q.b q.c)))

-- A conflict gives such an answer where the rest does: with a test, a search, a pair, or the lowest that has a pair.
abbrev Gives : Conflict → Type 0
Gives f = (d : Book) (a b : ℕ) (rest : Said) → Numbered rest → Numbered (f d a b rest)

by_test : (n : ℕ) (f : Book → ℕ → ℕ → Bool) → 0 < n → Gives (λ d a b. given (f d a b) (say n))
by_test n f h d a b rest y = given_numbered (f d a b) (say n) rest h y

by_lowest : (n : ℕ) (f : Book → ℕ → ℕ → ℕ → Bool) → 0 < n → Gives (λ d a b. given_lowest n (f d a b))
by_lowest n f h d a b rest y = lowest_numbered n (f d a b) rest h y

by_set : (n : ℕ) (f : Book → ℕ → ℕ → ℕ → ℕ) → 0 < n → Gives (λ d a b. given_set n (f d a b))
by_set n f h d a b rest y = set_numbered n (f d a b) rest h y

by_pair : (n : ℕ) (f : Book → ℕ → ℕ → ℕ → ℕ → Bool) (z : ℕ → ℕ) → 0 < n → Gives (λ d a b. given_pair_in n (f d a b) (z b))
by_pair n f z h d a b rest y = pair_numbered n (f d a b) (z b) rest h y

by_lowest_pair : (n : ℕ) (asked : Book → ℕ → Bool) (f : Book → ℕ → ℕ → ℕ → ℕ → ℕ → Bool) → 0 < n → Gives (λ d a b. given_lowest_pair n (asked d) (f d a b))
by_lowest_pair n asked f h d a b rest y = lowest_pair_numbered n (asked d) (f d a b) rest h y

-- A list of conflicts, in order.
abbrev AllGive : List Conflict → Type 0
AllGive [] = Unit {0}
AllGive (f ∷ fs) = Gives f × AllGive fs

first_numbered : (fs : List Conflict) → AllGive fs → (d : Book) (a b : ℕ) → Numbered (first_of fs d a b)
unfolding first_of
first_numbered [] x d a b = tt
first_numbered (f ∷ fs) (x, xs) d a b = x d a b (first_of fs d a b) (first_numbered fs xs d a b)

-- The lists of the kinds.
sme_give : AllGive sme_conflicts
unfolding sme_conflicts self_constraint already_dme one_subject_group one_role_group role_owns_both subject_owns_both
sme_give = (
  by_test 20 _ (omega arith),
  (
    by_test 21 _ (omega arith),
    (
      by_test 23 _ (omega arith),
      (
        by_test 24 _ (omega arith),
        (by_lowest 25 _ (omega arith), (by_lowest 26 _ (omega arith), tt)),
      ),
    ),
  ),
)

dme_give : AllGive dme_conflicts
unfolding dme_conflicts self_constraint already_sme one_subject_group
dme_give = (by_test 20 _ (omega arith), (by_test 22 _ (omega arith), (by_test 23 _ (omega arith), tt)))

rb_give : AllGive rb_conflicts
unfolding rb_conflicts self_constraint already_sme sme_between_groups
rb_give = (by_test 20 _ (omega arith), (by_test 22 _ (omega arith), (by_pair 27 _ (λ b. 0) (omega arith), tt)))

sb_give : AllGive sb_conflicts
unfolding sb_conflicts self_constraint already_dme already_sme sme_between_groups dme_between_groups
sb_give = (
  by_test 20 _ (omega arith),
  (
    by_test 21 _ (omega arith),
    (
      by_test 22 _ (omega arith),
      (by_pair 27 _ (λ b. 0) (omega arith), (by_pair 28 _ (λ b. 0) (omega arith), tt)),
    ),
  ),
)

task_give : AllGive task_conflicts
unfolding task_conflicts task_assignment role_assignment
task_give = (by_set 31 _ (omega arith), (by_set 32 _ (omega arith), tt))

junior_give : AllGive junior_conflicts
unfolding junior_conflicts self_inheritance cycle task_assignment role_assignment
junior_give = (by_test 29 _ (omega arith), (by_test 30 _ (omega arith), (by_set 31 _ (omega arith), (by_set 32 _ (omega arith), tt))))

role_give : AllGive role_conflicts
unfolding role_conflicts own_role_assignment
role_give = (by_set 32 _ (omega arith), tt)

held_give : (c : ℕ) → AllGive (held_conflicts c)
unfolding held_conflicts held_sme held_dme
held_give c = (by_lowest_pair 33 _ _ (omega arith), (by_pair 34 _ (λ b. b) (omega arith), tt))

-- A table that is listed has one of these lists, and one that is not the answer 3.
abbrev AllListed : List (ℕ × List Conflict) → Type 0
AllListed [] = Unit {0}
AllListed (x ∷ xs) = AllGive x.1 × AllListed xs

table_give : (xs : List (ℕ × List Conflict)) → AllListed xs → (n : ℕ) → AllGive (by_table xs n)
unfolding by_table unlisted
table_give [] l n = (λ d a b rest y. omega arith, tt)
table_give (x ∷ xs) (g, l) n = go (eqb n x.0) (table_give xs l n)
  where
    go : (t : Bool) → AllGive (by_table xs n) → AllGive (elim t [ true ↦ x.1 | false ↦ by_table xs n ])
    go true rest = g
    go false rest = rest

deed_give : (deed : Deed) (c : ℕ) → AllGive (conflicts deed c)
unfolding conflicts pair_conflicts assign_conflicts
deed_give nothing c = tt
deed_give (define n) c = tt
deed_give (relate n) c = table_give _ (sme_give, (dme_give, (rb_give, (sb_give, tt)))) n
deed_give (assign n) c = table_give _ (task_give, (junior_give, (role_give, tt))) n
deed_give activate c = tt
deed_give open_order c = tt
deed_give allocate c = held_give c
deed_give close_order c = tt
deed_give (take_back n) c = tt
deed_give (unrelate n) c = tt

-- The answer to a request ..
else_numbered : (s t : Said) → Numbered s → Numbered t → Numbered (or_else s t)
unfolding or_else
else_numbered accepted t x y = y
else_numbered (says n r) t x y = x

answer_numbered : (n : ℕ) (w : ℕ → ℕ) (q : Request) → Numbered (answer n w q)
unfolding answer judge conflict
answer_numbered n w q =
    let d = read w in
    given_numbered (not (eqb n book_words)) _ _ (omega arith) (given_numbered (ltb (first_bad d) book_words) _ _ (omega arith)
    (else_numbered (refusal d q) _ (refusal_numbered d q) (first_numbered _ (deed_give (row_of q.kind).deed q.c) d q.a q.b)))

-- .. and that of the audit.
audit_numbered : (n : ℕ) (w : ℕ → ℕ) → Numbered (audited n w)
unfolding audited audit
audit_numbered n w =
    given_numbered (not (eqb n book_words)) _ _ (omega arith) (given_numbered (ltb (first_bad (read w)) book_words) _ _ (omega arith)
    (given_numbered (ltb (first_broken (read w)) (rule_count + 1)) _ _ (omega arith) tt))

-- So 0 is said by `accepted` alone.
numbered_zero : (s : Said) → Numbered s → number_of s ≡ 0 → s ≡ accepted
numbered_zero accepted x e = refl
numbered_zero (says n r) x e = absurd (omega arith)

-- STATEMENTS 1 and 2: of the answers.
pub zero_accepts : ZeroAccepts
zero_accepts n w q = numbered_zero (answer n w q) (answer_numbered n w q)

pub zero_passes : ZeroPasses
zero_passes n w = numbered_zero (audited n w) (audit_numbered n w)

-- What is told in C is told of an answer: where the first of the four words is 0, the answer is.
told_zero : (s : Said) {four : List ℕ} → four ≡ four_words s → get_or four 0 1 ≡ 0 → number_of s ≡ 0
told_zero s o e = sym (ap (λ (l : List ℕ). get_or l 0 1) o) ∙ e

-- So the request is accepted,
pub told_accepted : {before after : List ℕ} {q : Request} {four : List ℕ} → Told before after q four → get_or four 0 1 ≡ 0
    → answer (length before) (words before) q ≡ accepted
told_accepted {before} {q = q} o e = zero_accepts (length before) (words before) q (told_zero (answer (length before) (words before) q) o.told e)

-- or the audit finds nothing.
pub told_passes : (l : List ℕ) {four : List ℕ} → ToldAudit l four → get_or four 0 1 ≡ 0 → audited (length l) (words l) ≡ accepted
told_passes l o e = zero_passes (length l) (words l) (told_zero (audited (length l) (words l)) o e)

-- STATEMENTS 3 and 4: of the four words that are told.
pub zero_in_c : ZeroInC
zero_in_c before after q four o e = record { told = sym (ap four_words (told_accepted o e)); stored = o.stored }

pub zero_audit_in_c : ZeroAuditInC
zero_audit_in_c l four o e = sym (ap four_words (told_passes l o e))
