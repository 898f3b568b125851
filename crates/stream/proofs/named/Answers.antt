-- The arm taken says which name it is.
use Rattle.std.proofs.Common.{sym, arith}
use Rattle.stream.specs.Stream.{named}
use Rattle.stream.proofs.StreamLaws.{complete_alone, no_name}
use Rattle.stream.proofs.named.Goals as goal

pub returns-in-110 : goal.returns-in-110
unfolding named
returns-in-110 c = rw c.in-110.is c.new_book.ensures

pub returns-in-119 : goal.returns-in-119
unfolding named
returns-in-119 c = rw c.in-119.is c.set_word.ensures

pub returns-in-114 : goal.returns-in-114
unfolding named
returns-in-114 c = rw c.in-114.is c.request.ensures

pub returns-in-97 : goal.returns-in-97
unfolding named
returns-in-97 c = rw (c.in-97.is, c.then_some.ensures, c.is_empty.ensures) (complete_alone _ _)

pub returns-in_default : goal.returns-in_default
returns-in_default c = sym (no_name _ _ _ (omega arith) (omega arith) (omega arith) (omega arith))
