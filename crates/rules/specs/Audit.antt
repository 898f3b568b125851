-- Document 01, "The audit", with M-104: ten rules, each a test that computes, and the answer. It only reads.
-- Meaning.antt says of each rule what it stands for, over relations; proofs/AuditLaws.antt shows that the test holds exactly then.
use Rattle.std.specs.Prelude.{Bool, true, false, ◌&&◌, not, List, [], ◌∷◌, ℕ, ◌+◌, ◌-◌, ◌^◌, ltb, eqb, get_or}
use Rattle.sets.specs.Mask.{bit, meet, only, joined}
use Rattle.sets.specs.Search.{lowest_from, all}
use Rattle.rules.specs.Book.{Book, book_words, SME, DME, RB, SB, orders, role_in, subject_in, read, first_bad}
use Rattle.rules.specs.Trade.{Owner, role, subject, reach, owned_tasks, subject_group, role_group}
use Rattle.rules.specs.Requests.{is_open}
use Rattle.rules.specs.Numbers.{Said, accepted, say, say_x, given, held_by}

abbrev pub implies : Bool → Bool → Bool
implies true t = t
implies false t = true

-- What a rule asks of one number: of task x in 1 to 5 and 10, of role x in 6 and 7, of subject x in 8 and 9.
abbrev pub Rule : Type 0
Rule = Book → ℕ → Bool

-- what is asked of x in each of the four pair tables
abbrev pub of_four : ((ℕ → ℕ) → ℕ → Bool) → Rule
of_four f d x = f (d.row SME) x && (f (d.row DME) x && (f (d.row RB) x && f (d.row SB) x))

-- 1. No task is in its own row of the four pair tables.  6. No role reaches itself.
unfoldable pub not_own : (ℕ → ℕ) → ℕ → Bool
not_own sets x = not (bit (sets x) x)

-- 2. The four pair tables are symmetric.
abbrev pub two_sided : (ℕ → ℕ) → ℕ → ℕ → Bool
two_sided rows u v = implies (bit (rows u) v) (bit (rows v) u)

unfoldable pub symmetric : (ℕ → ℕ) → ℕ → Bool
symmetric rows u = all 64 (two_sided rows u)

-- 3. No pair is both SME and DME.  4. No SME pair lies in one role group.  5. No DME pair lies in one subject group.
-- The row of the one family does not meet the set of the other.
unfoldable pub apart : (ℕ → ℕ) → (ℕ → ℕ) → ℕ → Bool
apart rows sets u = not (meet (rows u) (sets u))

-- the set m holds no pair of the rows
unfoldable pub pair_free : (ℕ → ℕ) → ℕ → Bool
pair_free rows m = all 64 (λ u. not (bit m u && meet (rows u) m))

-- 7, 8. No role, no subject, owns both tasks of an SME pair.
unfoldable pub owner_free : Book → Owner → ℕ → Bool
owner_free d start o = pair_free (d.row SME) (owned_tasks d (start o))

-- the tasks that subject s holds in one open order or another
unfoldable pub held_anywhere : Book → ℕ → ℕ
held_anywhere d s = joined 64 (λ p. only (is_open d p) (held_by d p s)) (2 ^ 64 - 1)

-- 9. No subject holds both tasks of an SME pair, in whatever open orders, nor both tasks of a DME pair in one.
unfoldable pub hands_apart : Book → ℕ → Bool
hands_apart d s = pair_free (d.row SME) (held_anywhere d s) && all 64 (λ p. implies (is_open d p) (pair_free (d.row DME) (held_by d p s)))

-- what is asked of task u in order p, if it is a task of the order, beside each task v of the order
abbrev pub in_order : (ℕ → ℕ → ℕ → Bool) → Book → ℕ → ℕ → Bool
in_order f d u p = implies (bit (d.row orders p) u) (all 64 (λ v. implies (bit (d.row orders p) v) (f p u v)))

unfoldable pub in_orders : (ℕ → ℕ → ℕ → Bool) → Book → ℕ → Bool
in_orders f d u = all 64 (in_order f d u)

abbrev pub same_subject : Book → ℕ → ℕ → ℕ → Bool
same_subject d p u v = eqb (subject_in (d.cell p u)) (subject_in (d.cell p v))

abbrev pub same_role : Book → ℕ → ℕ → ℕ → Bool
same_role d p u v = eqb (role_in (d.cell p u)) (role_in (d.cell p v))

-- 10. In one open order, looking only at the cells of its own tasks:
-- those of one subject group have all the same S, and those of one role group all the same E (0 counts as a value).
abbrev pub hands_together : Book → ℕ → ℕ → ℕ → ℕ → ℕ → Bool
hands_together d by_subject by_role p u v = implies (bit by_subject v) (same_subject d p u v) && implies (bit by_role v) (same_role d p u v)

-- The ten rules in their order; place 0 is no rule.
unfoldable pub rules : List Rule
rules =
    (λ d x. true)
    ∷ of_four not_own
    ∷ of_four symmetric
    ∷ (λ d. apart (d.row SME) (d.row DME))
    ∷ (λ d. apart (d.row SME) (role_group d))
    ∷ (λ d. apart (d.row DME) (subject_group d))
    ∷ (λ d. not_own (reach d))
    ∷ (λ d. owner_free d role)
    ∷ (λ d. owner_free d (subject d))
    ∷ hands_apart
    ∷ (λ d u. in_orders (hands_together d (subject_group d u) (role_group d u)) d u)
    ∷ []

-- rule n is kept at x
unfoldable pub kept_at : Book → ℕ → ℕ → Bool
kept_at d n x = (get_or rules n (λ d x. true)) d x

-- rule n is broken: it is not kept at every number
unfoldable pub broken : Book → ℕ → Bool
broken d n = not (all 64 (kept_at d n))

-- how many rules there are
abbrev pub rule_count : ℕ
rule_count = 10

-- the lowest broken rule; 11 where none is
unfoldable pub first_broken : Book → ℕ
first_broken d = lowest_from rule_count 1 (broken d)

-- 2 as above, else 40 + n for the lowest broken rule n, else 0
unfoldable pub audit : Book → Said
audit d =
    let i = first_bad d in
    let n = first_broken d in
    given (ltb i book_words) (say_x 2 i) (given (ltb n (rule_count + 1)) (say (40 + n)) accepted)

-- THE AUDIT of a lent slice of n words w
unfoldable pub audited : ℕ → (ℕ → ℕ) → Said
audited n w = given (not (eqb n book_words)) (say 1) (audit (read w))
