-- The part that is lent is the front of the words.
use mathlib.Core.Path.{sym, ◌∙◌, ap}
use mathlib.Core.List.{List}
use Prim.Native.Nat.{ℕ}
use lib.ListN.{length}
use lib.Seq.{length-take-le}
use Rattle.rules.specs.Audit.{audited}
use Rattle.book.specs.Slice.{words}
use Rattle.answers.specs.Replies.{reply_of}
use Rattle.replay.proofs.WordLaws.{front_take}
use Rattle.replay.proofs.doing.inspect.Goals as goal

pub slice_bounds-audit-end : goal.slice_bounds-audit-end
slice_bounds-audit-end c = sym (length-take-le _ _ c.part-end.ensures.within)

pub returns : goal.returns
returns c =
    c.from.ensures
    ∙ ap reply_of c.audit.ensures
    ∙ ap (λ (l : List ℕ). reply_of (audited (length l) (words l))) (front_take _ _ _ c.part-end.ensures)
