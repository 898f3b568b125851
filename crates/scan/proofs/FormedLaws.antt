-- What the scan tells its callers.
use mathlib.Core.Path.{◌≡◌}
use mathlib.Core.List.{List}
use Prim.Native.Nat.{ℕ}
use native.Mathlib.Omega.{arith}
use borrow.Author.Tests.{le-ltb}
use Rattle.rules.specs.Book.{book_words, first_bad}
use Rattle.rules.specs.Meaning.{Fits}
use Rattle.rules.proofs.BookLaws.{read_sized}
use Rattle.rules.proofs.WordLaws.{well_formed}
use Rattle.book.specs.Slice.{words, tables, Full, WellFormed}

-- A book in which it finds no bad word is well-formed.
pub scanned : (l : List ℕ) → Full l → Fits (words l) → first_bad (tables l) ≡ book_words → WellFormed l
scanned l full fits e =
    (full, (well_formed (tables l) (read_sized (words l) fits)).means (le-ltb (first_bad (tables l)) book_words (omega arith)))
