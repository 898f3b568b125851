-- An answer is known by its number, x, y and z: no two cases are said alike.
use mathlib.Core.Path.{◌≡◌, refl, sym, ap, ◌∙◌}
use mathlib.Core.Bool.{true, false, true≢false}
use mathlib.Core.List.{List, [], ◌∷◌}
use Prim.Native.Nat.{◌-◌}
use lib.Dec.{ltb}
use lib.ListN.{get_or}
use Rattle.sets.proofs.Logic.{refute}
use Rattle.rules.specs.Numbers.{Named, Said, accepted, says, is_accepted}
use Rattle.std.specs.Prelude.{Ok, Err, is_ok}
use Rattle.rules.proofs.SaidLaws.{accepted_out}
use Rattle.answers.specs.Answers.{Answer, refused, said}
use Rattle.answers.specs.declared.Refusal.{Refusal}
use Rattle.answers.specs.declared.Refusal.TheVariants.{WrongLength, BadWord, UnknownKind, BadArgument, AlreadySet, NotThere, OrderOpen}
use Rattle.answers.specs.declared.Refusal.TheVariants.{NotOwned, HasSubject, HasRole, TaskNotOwned, SelfConstraint, AlreadyDme, AlreadySme}
use Rattle.answers.specs.declared.Refusal.TheVariants.{OneSubjectGroup, OneRoleGroup, RoleOwnsBoth, SubjectOwnsBoth, SmeBetween, DmeBetween}
use Rattle.answers.specs.declared.Refusal.TheVariants.{SelfInheritance, Cycle, TaskAssignment, RoleAssignment, HoldsSme, HoldsDme}

-- The refusals from number 1 on, given what they name.
refusals : List (Named → Refusal)
refusals =
    (λ r. WrongLength)
    ∷ (λ r. BadWord r.x)
    ∷ (λ r. UnknownKind)
    ∷ (λ r. BadArgument r.x)
    ∷ (λ r. AlreadySet)
    ∷ (λ r. NotThere)
    ∷ (λ r. OrderOpen r.x)
    ∷ (λ r. NotOwned)
    ∷ (λ r. HasSubject r.x)
    ∷ (λ r. HasRole r.x)
    ∷ (λ r. TaskNotOwned r.x)
    ∷ []

-- The conflicts from number 20 on, likewise.
conflicts : List (Named → Refusal)
conflicts =
    (λ r. SelfConstraint)
    ∷ (λ r. AlreadyDme)
    ∷ (λ r. AlreadySme)
    ∷ (λ r. OneSubjectGroup)
    ∷ (λ r. OneRoleGroup)
    ∷ (λ r. RoleOwnsBoth r.x)
    ∷ (λ r. SubjectOwnsBoth r.x)
    ∷ (λ r. SmeBetween r.x r.y)
    ∷ (λ r. DmeBetween r.x r.y)
    ∷ (λ r. SelfInheritance)
    ∷ (λ r. Cycle)
    ∷ (λ r. TaskAssignment r.x r.y)
    ∷ (λ r. RoleAssignment r.x r.y)
    ∷ (λ r. HoldsSme r.x r.y r.z)
    ∷ (λ r. HoldsDme r.x r.y r.z)
    ∷ []

-- The answer that is said so.
answer_of : Said → Answer
unfolding refusals conflicts
answer_of accepted = Ok tt
answer_of (says n r) =
    let other : Named → Refusal = λ r. WrongLength in
    let case : Named → Refusal = elim (ltb n 20) [ true ↦ get_or refusals (n - 1) other | false ↦ get_or conflicts (n - 20) other ] in
    Err (case r)

-- Each refusal is found again by what is said ..
back_refused : (p : Refusal) → answer_of (said (Err p)) ≡ Err p
unfolding answer_of refusals conflicts
back_refused WrongLength = refl
back_refused (BadWord x) = refl
back_refused UnknownKind = refl
back_refused (BadArgument x) = refl
back_refused AlreadySet = refl
back_refused NotThere = refl
back_refused (OrderOpen x) = refl
back_refused NotOwned = refl
back_refused (HasSubject x) = refl
back_refused (HasRole x) = refl
back_refused (TaskNotOwned x) = refl
back_refused SelfConstraint = refl
back_refused AlreadyDme = refl
back_refused AlreadySme = refl
back_refused OneSubjectGroup = refl
back_refused OneRoleGroup = refl
back_refused (RoleOwnsBoth x) = refl
back_refused (SubjectOwnsBoth x) = refl
back_refused (SmeBetween x y) = refl
back_refused (DmeBetween x y) = refl
back_refused SelfInheritance = refl
back_refused Cycle = refl
back_refused (TaskAssignment x y) = refl
back_refused (RoleAssignment x y) = refl
back_refused (HoldsSme x y z) = refl
back_refused (HoldsDme x y z) = refl

-- .. and so is what is accepted.
back : (p : Answer) → answer_of (said p) ≡ p
unfolding answer_of
back (Ok done) = refl
back (Err refusal) = back_refused refusal

-- Two answers that are said alike are one.
pub said_injective : (p q : Answer) → said p ≡ said q → p ≡ q
said_injective p q e = sym (back p) ∙ ap answer_of e ∙ back q

-- What refuses is not said as what is accepted.
pub refusal_not_accepted : (r : Refusal) → is_accepted (refused r) ≡ false
refusal_not_accepted r =
    refute (is_accepted (refused r))
    (λ e. true≢false (ap is_ok (sym (said_injective (Err r) (Ok tt) (accepted_out (refused r) e)))))
