-- For whoever goes by the number, as a controller in C does: 0 is told where a request is accepted, and of a book where the audit finds
-- nothing, and nowhere else. proofs/Zero.antt shows the statements.
use Rattle.std.specs.Prelude.{◌≡◌, List, ℕ, get_or}
use Rattle.rules.specs.Requests.{Request}
use Rattle.rules.specs.Numbers.{accepted, number_of, answer}
use Rattle.rules.specs.Audit.{audited}
use Rattle.towerplank.specs.Told.{Told, ToldAudit}
use Rattle.assurance.specs.AnyOrder.{zeros, AcceptsInC}

-- 1. Whatever the count of words, the words and the request: where the number is 0, the request is accepted.
abbrev pub ZeroAccepts : Type 0
ZeroAccepts = (n : ℕ) (w : ℕ → ℕ) (q : Request) → number_of (answer n w q) ≡ 0 → answer n w q ≡ accepted

-- 2. Likewise of the audit.
abbrev pub ZeroPasses : Type 0
ZeroPasses = (n : ℕ) (w : ℕ → ℕ) → number_of (audited n w) ≡ 0 → audited n w ≡ accepted

-- 3. So of the four words that the C function tells the first is enough: where it is 0, all four are, and the request is accepted.
abbrev pub ZeroInC : Type 0
ZeroInC = (before after : List ℕ) (q : Request) (four : List ℕ) → Told before after q four → get_or four 0 1 ≡ 0 → AcceptsInC q before after

-- 4. Likewise of the audit in C.
abbrev pub ZeroAuditInC : Type 0
ZeroAuditInC = (l four : List ℕ) → ToldAudit l four → get_or four 0 1 ≡ 0 → ToldAudit l zeros
