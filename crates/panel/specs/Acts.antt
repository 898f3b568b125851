-- What a line does to the book and to the names, and what is answered: a request is asked of the book, one that is only tried leaves it
-- as it is, and so does every other line.
use Rattle.std.specs.Prelude.{◌≡◌, List, ℕ, Option, Some, None, length}
use Rattle.rules.specs.Requests.{Request as Question}
use Rattle.answers.specs.Answers.{Answer}
use Rattle.desk.specs.Guarantee.{ask, Answered}
use Rattle.labels.specs.Names.{sort_number, given}
use Rattle.typed.specs.Words.{part}
use Rattle.typed.specs.declared.Request.{Request}
use Rattle.typed.specs.declared.Line.{Line}
use Rattle.typed.specs.declared.Line.TheVariants.{Blank, Ask, Try, Name, Show, ShowOne, Audit, Help, HelpOn, Quit, Fault}

-- the request that a line says, as document 01 has it
abbrev pub question : Request → Question
question q = ask q.kind q.a q.b q.c

-- a is what the book would answer to q
abbrev pub WouldAnswer : List ℕ → Question → Answer → Type 0
WouldAnswer book q a = (after : List ℕ) × Answered book after q a

-- the book is as it was, and nothing was asked of it
abbrev pub Untouched : List ℕ → List ℕ → Option Answer → Type 0
Untouched before after r = (after ≡ before) × (r ≡ None)

-- The book was `before` and is `after` the line, and r came of it. A trial needs room for a copy of the book.
abbrev pub Acts : List ℕ → List ℕ → ℕ → Line → Option Answer → Type 0
Acts before after room (Ask q) r = (a : Answer) × (r ≡ Some a) × Answered before after (question q) a
Acts before after room (Try q) r = (after ≡ before) × (a : Answer) × (r ≡ Some a) × (room ≡ length before → WouldAnswer before (question q) a)
Acts before after room Blank r = Untouched before after r
Acts before after room (Name sort n start end) r = Untouched before after r
Acts before after room Show r = Untouched before after r
Acts before after room (ShowOne sort n) r = Untouched before after r
Acts before after room Audit r = Untouched before after r
Acts before after room Help r = Untouched before after r
Acts before after room (HelpOn row) r = Untouched before after r
Acts before after room Quit r = Untouched before after r
Acts before after room (Fault reason start) r = Untouched before after r

-- The names after a line of the text, where they were `names` before: what it names has the name that stands from `start` to before
-- `end`; every other line leaves them as they are.
abbrev pub names_after : List ℕ → List ℕ → Line → List ℕ
names_after names text (Name sort n start end) = given names (sort_number sort) n (part start end text)
names_after names text Blank = names
names_after names text (Ask q) = names
names_after names text (Try q) = names
names_after names text Show = names
names_after names text (ShowOne sort n) = names
names_after names text Audit = names
names_after names text Help = names
names_after names text (HelpOn row) = names
names_after names text Quit = names
names_after names text (Fault reason start) = names
