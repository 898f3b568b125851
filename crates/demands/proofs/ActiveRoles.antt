-- M-101, proved: every deed but that of kind 11 changes the head, a table before the active roles, the orders or the cells.
use mathlib.Core.Path.{◌≡◌, refl, ap, ◌∙◌, subst}
use Prim.Native.Nat.{ℕ, ◌+◌, ◌-◌}
use native.Mathlib.Omega.{arith}
use Rattle.sets.specs.Search.{all}
use Rattle.rules.specs.Book.{Book, book_words, table_at, active, read, write}
use Rattle.rules.specs.Requests.{activate, Row, table, row_of, change}
use Rattle.rules.specs.Numbers.{Said, accepted, says, blind, answer, words_after}
use Rattle.rules.proofs.BookLaws.{write_row, read_row}
use Rattle.rules.proofs.ChangeLaws.{Known, no_kind, defines, relates, assigns, activates, opens, allocates, closes, takes_back, unrelates}
use Rattle.rules.proofs.ChangeLaws.{known_row, held_holding}
use Rattle.demands.specs.ActiveRoles.{OnlyActivate}
use Rattle.demands.proofs.OneKind.{one_kind}
use Rattle.demands.proofs.RowChanges.{table_before}

-- Every deed but one leaves the active roles.
leaves : {row : Row} → Known row → (row.deed ≡ activate → ⊥) → (d : Book) (a b c : ℕ) → (change d row.deed a b c).row active ≡ d.row active
unfolding change
leaves no_kind n d a b c = refl
leaves (defines m h) n d a b c = refl
leaves (relates m h) n d a b c = table_before d m active _ (omega arith)
leaves (assigns h) n d a b c = table_before d _ active _ (held_holding h).below
leaves activates n d a b c = absurd (n refl)
leaves opens n d a b c = refl
leaves allocates n d a b c = refl
leaves closes n d a b c = refl
leaves (takes_back h) n d a b c = table_before d _ active _ (held_holding h).below
leaves (unrelates m h) n d a b c = table_before d m active _ (omega arith)

-- That one is kind 11's alone.
activates_at : (k : ℕ) → (row_of k).deed ≡ activate → k ≡ 11
unfolding all row_of table
activates_at = one_kind activate 11 (omega arith) refl

-- STATEMENT: only kind 11 changes an active word.
pub only_activate : OnlyActivate
unfolding words_after blind
only_activate w q n i h l = go (answer book_words w q)
  where
    s : ℕ
    s = i - 452

    place : table_at active + s ≡ i
    place = omega arith

    go : (said : Said) → words_after said w q i ≡ w i
    go accepted =
        subst (λ (x : ℕ). write (blind (read w) q) x ≡ w x) place
        (write_row (blind (read w) q) active s (omega arith) (omega arith)
        ∙ ap (λ (f : ℕ → ℕ). f s) (leaves (known_row q.kind) (λ e. n (activates_at q.kind e)) (read w) q.a q.b q.c)
        ∙ read_row w active s (omega arith) (omega arith))
    go (says m r) = refl
