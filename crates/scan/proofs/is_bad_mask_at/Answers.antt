-- Of a defined owner what is bad is a mask that meets all that is not known; of an undefined one, any mask but 0.
use mathlib.Core.Path.{◌≡◌, sym, ap₂, ◌∙◌}
use mathlib.Core.Bool.{Bool, true, false}
use Prim.Native.Nat.{ℕ}
use Rattle.sets.specs.Mask.{bit}
use Rattle.rules.specs.Book.{bad_mask}
use Rattle.rules.proofs.WordLaws.{bad_word}
use Rattle.scan.proofs.BadLaws.{mask_strays, mask_astray}
use borrow.Author.Rules.{rules}
use Rattle.scan.proofs.is_bad_mask_at.Goals as goal

pub returns-then-has : goal.returns-then-has
returns-then-has c =
    let s = c.args in
    let row = c.row-v in
    let defined : true ≡ bit s.owners s.r = sym c.if-has.true ∙ c.has.ensures in
    c.meets.ensures ∙ mask_strays s.known row.result (search rules) (search rules)
    ∙ ap₂ (λ (t : Bool) (v : ℕ). bad_word v (bad_mask t s.known v)) defined row.ensures

pub returns-else-has : goal.returns-else-has
returns-else-has c =
    let s = c.args in
    let row = c.row-v in
    let undefined : false ≡ bit s.owners s.r = sym c.if-has.false ∙ c.has.ensures in
    mask_astray s.known row.result ∙ ap₂ (λ (t : Bool) (v : ℕ). bad_word v (bad_mask t s.known v)) undefined row.ensures
