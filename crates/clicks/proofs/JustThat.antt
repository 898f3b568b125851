-- M-102's fourth statement: of the words, place by place, an accepted request of kinds 4 to 10 adds what joins, and nothing else.
-- It holds whatever the words: the changed tables have grown by what joins (AddingKinds.antt), and words and tables are the same thing.
use mathlib.Core.Path.{◌≡◌, sym, ap, ◌∙◌, subst}
use mathlib.Core.Logic.{◌⊎◌, inl, inr, ◌↔◌}
use Prim.Native.Nat.{ℕ, ◌+◌, ◌≤◌, ◌<◌}
use native.Mathlib.Omega.{arith}
use native.Mathlib.Decide.{dec_lt}
use Rattle.chains.specs.Relation.{In, Step}
use Rattle.rules.specs.Book.{Book, book_words, table_count, table_at, SME, active, orders, read, write}
use Rattle.rules.specs.Requests.{Request}
use Rattle.rules.specs.Numbers.{blind}
use Rattle.rules.proofs.BookLaws.{every_place, write_head, write_row, write_cell, read_head, read_row, read_cell}
use Rattle.clicks.specs.Clicks.{Adding, Joins, AddsJustThat}
use Rattle.clicks.proofs.Growth.{Grown}
use Rattle.clicks.proofs.AddingKinds.{blind_grown}
use Rattle.clicks.proofs.Clicks.{kept_words}

module _ (w : ℕ → ℕ) (q : Request) (adds : Adding q) where
  abbrev now : Book
  now = blind (read w) q

  grown : Grown (read w) now (Joins q)
  grown = blind_grown q adds (read w)

  -- A row of tables 0 to 6 has grown by what joins it.
  row_joins : (n u v : ℕ) → n < active → u < 64 → In (write now (table_at n + u)) v ↔ (In (w (table_at n + u)) v ⊎ Joins q n u v)
  row_joins n u v h l = (λ i. out (grown.out n u v (subst (λ (m : ℕ). In m v) after i)), λ x. subst (λ (m : ℕ). In m v) (sym after) (into x))
    where
      after : write now (table_at n + u) ≡ now.row n u
      after = write_row now n u (omega arith) l

      before : (read w).row n u ≡ w (table_at n + u)
      before = read_row w n u (omega arith) l

      out : Step ((read w).row n) u v ⊎ Joins q n u v → In (w (table_at n + u)) v ⊎ Joins q n u v
      out (inl i) = inl (subst (λ (m : ℕ). In m v) before i)
      out (inr x) = inr x

      into : In (w (table_at n + u)) v ⊎ Joins q n u v → Step (now.row n) u v
      into (inl i) = grown.old n u v (subst (λ (m : ℕ). In m v) (sym before) i)
      into (inr x) = grown.new n u v x

  -- The active roles and the orders are as they were ..
  other_row : (n : ℕ) → active ≤ n → n < table_count → now.row n ≡ (read w).row n
  other_row n h l = go (dec_lt n orders)
    where
      go : Dec (n < orders) → now.row n ≡ (read w).row n
      go (yes k) = let e : active ≡ n = omega arith in subst (λ (m : ℕ). now.row m ≡ (read w).row m) e grown.beside.actives
      go (no k) = let e : orders ≡ n = omega arith in subst (λ (m : ℕ). now.row m ≡ (read w).row m) e grown.beside.opened

  -- .. and so is every word outside tables 0 to 6.
  other_words : (i : ℕ) → i < book_words → (i < table_at SME) ⊎ (table_at active ≤ i) → write now i ≡ w i
  other_words =
      every_place (λ i. (i < table_at SME) ⊎ (table_at active ≤ i) → write now i ≡ w i)
      (λ i h o. write_head now i h ∙ ap (λ (f : ℕ → ℕ). f i) grown.beside.heads ∙ read_head w i h)
      (λ n u h l o. write_row now n u h l ∙ ap (λ (f : ℕ → ℕ). f u) (other_row n (past n u l o) h) ∙ read_row w n u h l)
      (λ p t h l o. write_cell now p t h l ∙ ap (λ (f : ℕ → ℕ → ℕ). f p t) grown.beside.cells ∙ read_cell w p t h l)
    where
      past : (n u : ℕ) → u < 64 → (table_at n + u < table_at SME) ⊎ (table_at active ≤ table_at n + u) → active ≤ n
      past n u l (inl h) = absurd (omega arith)
      past n u l (inr h) = omega arith

-- STATEMENT 4: it adds just that.
pub adds_just_that : AddsJustThat
adds_just_that w q adds e =
    let words = sym (kept_words w q e) in (
      λ n u v h l. subst (λ (k : ℕ → ℕ). In (k (table_at n + u)) v ↔ (In (w (table_at n + u)) v ⊎ Joins q n u v)) words (row_joins w q adds n u v h l),
      λ i h o. subst (λ (k : ℕ → ℕ). k i ≡ w i) words (other_words w q adds i h o),
    )
