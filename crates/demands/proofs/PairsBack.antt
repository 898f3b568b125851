-- M-100, proved: the four kinds are one deed over a pair table, which nothing conflicts with, so the first statement of demand 3 has it.
use mathlib.Core.Path.{◌≡◌, refl, sym, ap, ◌∙◌, subst}
use Prim.Native.Nat.{◌≤◌}
use native.Mathlib.Omega.{arith}
use Rattle.sets.specs.Search.{all}
use Rattle.rules.specs.Book.{Book, read}
use Rattle.rules.specs.Requests.{Request, Deed, unrelate, table, row_of}
use Rattle.rules.specs.Numbers.{Said, accepted, conflicts, first_of, conflict, words_after}
use Rattle.rules.proofs.TableLaws.{deeds_from}
use Rattle.rules.proofs.NumberLaws.{judge_in}
use Rattle.rules.proofs.BookLaws.{read_sized}
use Rattle.rules.proofs.WordLaws.{well_formed}
use Rattle.rules.proofs.AuditLaws.{sound_formed, audit_sound}
use Rattle.rules.proofs.AuditedLaws.{whole_audit}
use Rattle.demands.specs.Demand3.{Passes}
use Rattle.demands.specs.PairsBack.{PairsBack}
use Rattle.demands.proofs.Demand3.{whole_answer, checks_exact}

-- Nothing conflicts with kinds 18 to 21.
no_conflict : (d : Book) (q : Request) → 18 ≤ q.kind → q.kind ≤ 21 → conflict d q ≡ accepted
unfolding all row_of table conflict conflicts first_of
no_conflict d q h l =
    ap (λ (deed : Deed). first_of (conflicts deed q.c) d q.a q.b) (deeds_from 18 4 unrelate refl q.kind h (omega arith))

-- STATEMENT: taking a pair back is accepted, and the book still passes the audit.
pub pairs_back_lem : PairsBack
unfolding words_after
pairs_back_lem w fit passes q h l e =
    let sized = read_sized w fit in
    let sound = audit_sound (read w) sized (sym (whole_audit w) ∙ passes) in
    let well = (well_formed (read w) sized).fails (sound_formed (read w) sound) in
    let said = whole_answer w q ∙ judge_in (read w) q well e (no_conflict (read w) q h l) in
    (said, subst (λ (s : Said). Passes (words_after s w q)) (sym said) ((checks_exact w fit passes q e).1 said))
