-- A small book whose listed words have 64 bits is a book of 64-bit words.
use mathlib.Core.Path.{◌≡◌}
use mathlib.Core.Bool.{Bool, true, false}
use mathlib.Core.List.{List, [], ◌∷◌}
use Prim.Native.Nat.{ℕ, ◌^◌, ◌<◌}
use lib.Dec.{ltb, eqb}
use lib.Pow.{pow_pos}
use borrow.Author.Tests.{ltb-true}
use Rattle.sets.proofs.Logic.{and_out}
use Rattle.rules.specs.Small.{Word, words_of, last_of, book_of, small}
use Rattle.rules.specs.Meaning.{Fits}

-- Of two words of 64 bits each is one.
either_fits : (t : Bool) (m n : ℕ) → m < 2 ^ 64 → n < 2 ^ 64 → (elim t as (λ (t : Bool). ℕ) [ true ↦ m | false ↦ n ]) < 2 ^ 64
either_fits true m n h l = h
either_fits false m n h l = l

-- A listed word has 64 bits, and any other is 0.
words_fit : (ws : List Word) → small ws ≡ true → (i : ℕ) → words_of ws i < 2 ^ 64
words_fit [] e i = pow_pos 64
words_fit (x ∷ ws) e i =
    let parts = and_out _ _ e in
    either_fits (eqb i x.0) x.1 (words_of ws i) (ltb-true _ _ parts.0) (words_fit ws parts.1 i)

pub small_fits : (ws : List Word) → small ws ≡ true → Fits (book_of ws)
small_fits ws e i h = either_fits (ltb (last_of ws) i) 0 (words_of ws i) (pow_pos 64) (words_fit ws e i)
