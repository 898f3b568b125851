-- Each step leaves less of the sentence.
use Rattle.std.proofs.Common.{length}
use Rattle.spoken.proofs.sentence.Teller.tell.Given as goal

abbrev pub decreases-loop-rest : goal.decreases-loop-rest
decreases-loop-rest l = length l.rest
