-- Both bits of a pair, stored one after the other in one table: added, and taken back.
use mathlib.Core.Path.{◌≡◌, ap, ◌∙◌}
use Prim.Native.Nat.{ℕ}
use Rattle.rules.specs.Book.{Book}
use Rattle.rules.specs.Requests.{add_to, take_from, add_pair, take_pair, set_table}
use Rattle.book.specs.Slice.{with_member, without_member}
use Rattle.book.proofs.StoreLaws.{set_table_row, set_table_twice}

-- Two changes of one table, f and then g, are one.
changed_twice : (f g : (ℕ → ℕ) → ℕ → ℕ) (d first second : Book) (n : ℕ) → first ≡ set_table d n (f (d.row n))
    → second ≡ set_table first n (g (first.row n)) → second ≡ set_table d n (g (f (d.row n)))
changed_twice f g d first second n p q =
    let once = f (d.row n) in
    q ∙ ap (λ (e : Book). set_table e n (g (e.row n))) p
    ∙ ap (λ (rows : ℕ → ℕ). set_table (set_table d n once) n (g rows)) (set_table_row d n once) ∙ set_table_twice d n once (g once)

-- A pair is added: bit b of row a, then bit a of row b.
pub pair_added : (d first second : Book) (n a b : ℕ) → first ≡ with_member n a b d → second ≡ with_member n b a first
    → second ≡ set_table d n (add_pair (d.row n) a b)
pair_added d first second n a b = changed_twice (λ rows. add_to rows a b) (λ rows. add_to rows b a) d first second n

-- It is taken back the other way round.
pub pair_taken : (d first second : Book) (n a b : ℕ) → first ≡ without_member n b a d → second ≡ without_member n a b first
    → second ≡ set_table d n (take_pair (d.row n) a b)
pair_taken d first second n a b = changed_twice (λ rows. take_from rows b a) (λ rows. take_from rows a b) d first second n
