-- Each refusal from what has been read by then; no conflict comes after them.
use mathlib.Core.Path.{refl, sym, ap, ◌∙◌}
use mathlib.Core.Bool.{not}
use Rattle.rules.specs.Requests.{unrelate}
use Rattle.rules.specs.Numbers.{conflicts}
use Rattle.book.specs.Tables.{number}
use Rattle.book.specs.Slice.{tables}
use Rattle.deeds.proofs.OutcomeLaws.{decide_unopposed}
use Rattle.pairs.proofs.PairAnswers.{pair_missing, pair_there}
use Rattle.pairs.proofs.back.judge_back.Goals as goal

pub returns-then-not-is_in_row : goal.returns-then-not-is_in_row
unfolding conflicts
returns-then-not-is_in_row c =
    let s = c.args in
    let d = tables s.book.now in
    pair_missing d (number s.table) s.a s.b 0 (ap not (sym c.is_in_row.ensures ∙ c.if-not-is_in_row.true))
    ∙ decide_unopposed d (unrelate (number s.table)) s.a s.b 0 refl

pub returns : goal.returns
unfolding conflicts
returns c =
    let s = c.args in
    let d = tables s.book.now in
    pair_there d (number s.table) s.a s.b 0 (ap not (sym c.is_in_row.ensures ∙ c.if-not-is_in_row.false)) c.open_refusal.ensures
    ∙ decide_unopposed d (unrelate (number s.table)) s.a s.b 0 refl
