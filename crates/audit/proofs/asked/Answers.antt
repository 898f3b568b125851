-- Each arm of the match is a range of rules.
use mathlib.Core.Path.{◌≡◌, ◌∙◌}
use Prim.Native.Nat.{ℕ, ◌≤◌, ◌<◌}
use native.Mathlib.Omega.{arith}
use native.Mathlib.Decide.{dec_lt}
use borrow.Author.Tests.{lt-ltb, le-ltb}
use Rattle.rules.specs.Book.{Book, tasks, roles}
use Rattle.book.specs.Slice.{tables}
use Rattle.audit.specs.Asked.{asked_by}
use Rattle.audit.proofs.asked.Goals as goal
use Rattle.audit.proofs.asked.Goals.{in_default-via-then-rule-lt6, in_default-via-else-rule-lt6+else-rule-lt8}

-- What is none of 6 to 8 is asked of the tasks.
asked-tasks : (d : Book) (n : ℕ) → (6 ≤ n → 8 < n) → tasks d ≡ asked_by d n
unfolding asked_by
asked-tasks d n f = go (dec_lt n 6)
  where
    go : Dec (n < 6) → tasks d ≡ asked_by d n
    go (yes h) = rw (asked_by, lt-ltb n 6 h)
    go (no h) = let l = f (omega arith) in rw (asked_by, le-ltb n 6 (omega arith), le-ltb n 8 (omega arith), le-ltb n 9 l)

-- 6 and 7 are asked of the roles.
asked-roles : (d : Book) (n : ℕ) → 6 ≤ n → n < 8 → roles d ≡ asked_by d n
unfolding asked_by
asked-roles d n h l = rw (asked_by, le-ltb n 6 h, lt-ltb n 8 l)

pub returns-in-8 : goal.returns-in-8
unfolding asked_by
returns-in-8 c = rw c.in-8.is c.head.ensures

pub returns-in-6-to-7 : goal.returns-in-6-to-7
returns-in-6-to-7 c =
    let s = c.args in
    c.head-in-6-to-7.ensures ∙ asked-roles (tables s.book.now) s.rule c.in-6-to-7.if-rule-lt6-own.false c.in-6-to-7.if-rule-lt8-own.true

pub returns-in_default : goal.returns-in_default
returns-in_default c =
    let s = c.args in
    c.head-in_default.ensures
    ∙ elim c.in_default.branch [
      | in_default-via-then-rule-lt6 w ↦ asked-tasks (tables s.book.now) s.rule (λ h. absurd (omega arith))
      | in_default-via-else-rule-lt6+else-rule-lt8 w ↦ asked-tasks (tables s.book.now) s.rule (λ h. omega arith)
    ]
