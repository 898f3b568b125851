-- The lowest member is visited; the rest is smaller, so the visit ends.
use native.Mathlib.Omega.{arith}
use Rattle.sets.proofs.MemberLaws.{lowest_lt, rest_lt}
use borrow.Author.Rules.{rules}
use Rattle.sets.proofs.MembersIterator.next.Goals as goal

pub returns-clause-steps : goal.returns-clause-steps
returns-clause-steps c =
    let m = c.args.self.now.left in
    record {
      some = omega arith;
      fits = search rules;
      below = omega (arith, c.lowest-member.ensures, lowest_lt m (omega arith) (search rules));
      at = c.lowest-member.ensures;
      rest = c.rest-self.ensures;
    }

pub returns-clause-goes : goal.returns-clause-goes
returns-clause-goes c =
    let m = c.args.self.now.left in
    let smaller = rest_lt m (omega arith) (search rules) in
    search (rules, smaller, c.rest-self.ensures, c.lowest-member.ensures)
