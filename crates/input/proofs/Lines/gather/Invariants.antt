-- Once a byte has been taken the input has not failed; both arrays keep their length.
use Rattle.std.proofs.Common.{◌≡◌, ◌<◌, length}
use Rattle.input.specs.declared.Input.TheVariants.{Failed}
use Rattle.input.proofs.Lines.gather.Given as goal

abbrev pub invariant-loop : goal.invariant-loop
invariant-loop g l = record {
  reads : 0 < l.counter → l.self.reading.input ≡ Failed → ⊥;
  room : length l.self.text.now ≡ length l.initial.self.text.now;
  piece : length l.self.piece.now ≡ length l.initial.self.piece.now;
}
