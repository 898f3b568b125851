-- The row is filled with blanks, and its front becomes the word.
use Rattle.labels.proofs.NameLaws.{front_written}
use Rattle.labels.proofs.fill.Goals as goal

pub returns : goal.returns
returns c =
    let blanks = c.fill.ensures.after (λ y e. e) in
    rw (c.copy_from_slice.ensures.after, blanks) (front_written c.args.word.now _ c.requires.0)
