-- One digit more: ten times the number in front, checked, and then the digit, checked.
use Rattle.decimal.specs.Decimal.{sized}
use Rattle.std.proofs.Common.{◌≡◌, Err, arith, sym, ◌∙◌, rules, ◌*◌, ap}
use Rattle.decimal.proofs.DecimalLaws.{given_is, checked, larger}
use Rattle.decimal.proofs.put.Goals as goal

pub returns-in_err-front : goal.returns-in_err-front
returns-in_err-front c = λ n f.
    let e : c.from_residual.result ≡ Err c.in_err-front.field-0.0 = search rules in
    e ∙ larger _ n _ (sym c.in_err-front.was ∙ f) (omega arith)

pub returns-in_err-tens : goal.returns-in_err-tens
returns-in_err-tens c = λ n f.
    let e : c.from_residual-in_err-tens.result ≡ Err c.in_err-tens.field-0.0 = search rules in
    let v : c.in_ok-front.field-0 ≡ n = given_is n _ (sym c.in_ok-front.was ∙ f) in
    let t = sym c.in_err-tens.was ∙ c.ok_or.ensures.value ∙ checked _ _ c.checked_mul.ensures in
    e ∙ larger _ (n * 10) _ (t ∙ ap (λ m. sized (m * 10)) v) (omega arith)

pub returns : goal.returns
returns c = λ n f.
    let v : c.in_ok-front.field-0 ≡ n = given_is n _ (sym c.in_ok-front.was ∙ f) in
    let t = sym c.in_ok-tens.was ∙ c.ok_or.ensures.value ∙ checked _ _ c.checked_mul.ensures in
    let tens : c.in_ok-tens.tens ≡ c.in_ok-front.field-0 * 10 = given_is _ _ t in
    c.ok_or-2.ensures.value ∙ checked _ _ c.checked_add.ensures ∙ ap sized (omega arith)
