-- The guarantee leaves no choice: an answer is known by what it says, and a slice by its length and its words.
use mathlib.Core.Path.{◌≡◌, sym, ◌∙◌}
use mathlib.Core.List.{List}
use Prim.Native.Nat.{ℕ}
use native.Mathlib.Omega.{arith}
use lib.Seq.{ext_get_or}
use Rattle.rules.specs.Requests.{Request}
use Rattle.answers.proofs.AnswerLaws.{said_injective}
use Rattle.desk.specs.Guarantee.{Stored, OneOutcome}

-- What is stored after a request is one slice.
pub one_slice : {before after after' : List ℕ} {q : Request} → Stored before after q → Stored before after' q → after ≡ after'
one_slice {after = after} {after' = after'} o o' =
    ext_get_or 0 after after' (o.as_long ∙ sym o'.as_long)
    (λ i h. o.each_word i (omega (arith, o.as_long)) ∙ sym (o'.each_word i (omega (arith, o.as_long))))

pub one_outcome : OneOutcome
one_outcome before after after' q r r' o o' = (said_injective r r' (o.told ∙ sym o'.told), one_slice o.stored o'.stored)
