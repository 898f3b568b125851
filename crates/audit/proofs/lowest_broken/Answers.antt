use mathlib.Core.Path.{◌≡◌, refl, sym, ◌∙◌, subst}
use mathlib.Core.Bool.{Bool, false}
use Prim.Native.Nat.{ℕ, ◌+◌, ◌<◌}
use native.Mathlib.Omega.{arith}
use native.Mathlib.Decide.{dec_lt}
use Rattle.sets.proofs.SearchLaws.{search_on, search_at, search_out}
use Rattle.rules.specs.Audit.{broken, first_broken}
use Rattle.book.specs.Slice.{tables}
use borrow.Author.Rules.{rules}
use Rattle.audit.proofs.lowest_broken.Invariants.{Past}
use Rattle.audit.proofs.lowest_broken.Goals as goal

past_on : (f : ℕ → Bool) (n : ℕ) → Past f n → f n ≡ false → Past f (n + 1)
past_on f n past e l = go (dec_lt 2 n)
  where
    go : Dec (2 < n) → f 2 ≡ false
    go (yes h) = past h
    go (no h) = let q : n ≡ 2 = omega arith in subst (λ (k : ℕ). f k ≡ false) q e

pub loop-rule-init : goal.loop-rule-init
loop-rule-init c = (omega arith, refl, λ h. absurd (omega arith))

pub is_broken-requires : goal.is_broken-requires
is_broken-requires c = (search rules, search rules, c.loop-rule.invariant.2)

pub returns-then-is_broken : goal.returns-then-is_broken
unfolding first_broken
returns-then-is_broken c = (
  omega arith,
  sym (search_at (broken (tables c.args.book.now)) (omega arith)
      c.loop-rule.invariant.1 (sym c.is_broken.ensures ∙ c.if-is_broken.true)),
)

pub loop-rule-preserved : goal.loop-rule-preserved
loop-rule-preserved c =
    let kept = broken (tables c.args.book.now) in
    let l = c.loop-rule in
    let e = sym c.is_broken.ensures ∙ c.if-is_broken.false in
    (omega arith, search_on kept (omega arith) l.invariant.1 e, past_on kept l.rule l.invariant.2 e)

pub returns : goal.returns
unfolding first_broken
returns c = sym (search_out (broken (tables c.args.book.now)) (omega arith) (omega arith) c.loop-rule.invariant.1)
