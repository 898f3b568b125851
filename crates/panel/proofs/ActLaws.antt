-- Laws of what a line does to the book: what is answered on a copy, and the lines that ask nothing of it.
use mathlib.Core.Path.{◌≡◌, refl, subst}
use mathlib.Core.List.{List}
use Prim.Native.Nat.{ℕ}
use Rattle.std.specs.Prelude.{None}
use Rattle.rules.specs.Requests.{Request as Question}
use Rattle.answers.specs.Answers.{Answer}
use Rattle.desk.specs.Guarantee.{Answered}
use Rattle.typed.specs.declared.Request.{Request}
use Rattle.typed.specs.declared.Line.{Line}
use Rattle.typed.specs.declared.Line.TheVariants.{Blank, Ask, Try, Name, Show, ShowOne, Audit, Help, HelpOn, Quit, Fault}
use Rattle.panel.specs.Acts.{Acts}

-- What is answered on the copy is what the book would answer.
pub copied_asked : (book trial after : List ℕ) (q : Question) (a : Answer) → trial ≡ book → Answered trial after q a → Answered book after q a
copied_asked book trial after q a same told = subst (λ (l : List ℕ). Answered l after q a) same told

-- A line that neither asks nor tries leaves the book, and got nothing from it.
pub acts_kept : (book : List ℕ) (room : ℕ) (line : Line) → ((q : Request) → line ≡ Ask q → ⊥) → ((q : Request) → line ≡ Try q → ⊥) →
    Acts book book room line None
acts_kept book room (Ask q) ask try = absurd (ask q refl)
acts_kept book room (Try q) ask try = absurd (try q refl)
acts_kept book room Blank ask try = (refl, refl)
acts_kept book room (Name sort n start end) ask try = (refl, refl)
acts_kept book room Show ask try = (refl, refl)
acts_kept book room (ShowOne sort n) ask try = (refl, refl)
acts_kept book room Audit ask try = (refl, refl)
acts_kept book room Help ask try = (refl, refl)
acts_kept book room (HelpOn row) ask try = (refl, refl)
acts_kept book room Quit ask try = (refl, refl)
acts_kept book room (Fault reason start) ask try = (refl, refl)
