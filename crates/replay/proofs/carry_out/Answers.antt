-- What obey did is what the command says; the arm taken says how long the book is then.
use mathlib.Core.Path.{sym, ap}
use Rattle.replay.specs.Obeyed.{length_after}
use Rattle.replay.proofs.carry_out.Goals as goal

pub returns-in-Cleared : goal.returns-in-Cleared
returns-in-Cleared c =
    let did = c.obey in
    (did.result, did.ensures, ap (length_after c.args.length) (sym c.in-Cleared.is))

pub returns-in-Put : goal.returns-in-Put
returns-in-Put c =
    let did = c.obey in
    (did.result, did.ensures, ap (length_after c.args.length) (sym c.in-Put.is))

pub returns-in-Answered : goal.returns-in-Answered
returns-in-Answered c =
    let did = c.obey in
    (did.result, did.ensures, ap (length_after c.args.length) (sym c.in-Answered.is))

pub returns-in-Audited : goal.returns-in-Audited
returns-in-Audited c =
    let did = c.obey in
    (did.result, did.ensures, ap (length_after c.args.length) (sym c.in-Audited.is))

pub returns-in-Nothing : goal.returns-in-Nothing
returns-in-Nothing c =
    let did = c.obey in
    (did.result, did.ensures, ap (length_after c.args.length) (sym c.in-Nothing.is))
