-- The span is put together from the blanks passed and the word passed.
use Rattle.typed.specs.Words.{start_from, end_from, is_cut}
use Rattle.typed.proofs.words.next.Goals as goal

pub returns : goal.returns
unfolding start_from end_from is_cut
returns c = (
  rw (is_cut, end_from, start_from, c.go_past-end.ensures.0, c.go_past-start.ensures.0, c.min-first.ensures),
  c.go_past-end.ensures.1,
  c.go_past-end.ensures.2,
)
