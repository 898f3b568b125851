-- m & (m - 1) is m without its lowest member.
use Rattle.sets.proofs.MemberLaws.{less_rest}
use borrow.Author.Rules.{rules}
use Rattle.sets.proofs.rest.Goals as goal

pub returns : goal.returns
returns c = less_rest c.args.set (search rules) (search rules)
