-- Document 01, "The numbers that come back": the number, x, y and z of each case of the code's answer.
use Rattle.std.specs.Prelude.{Result, Ok, Err}
use Rattle.rules.specs.Numbers.{Said, accepted, say, say_x, say_xy, say_xyz}
use Rattle.answers.specs.declared.Refusal.{Refusal}
use Rattle.answers.specs.declared.Refusal.TheVariants.{WrongLength, BadWord, UnknownKind, BadArgument, AlreadySet, NotThere, OrderOpen}
use Rattle.answers.specs.declared.Refusal.TheVariants.{NotOwned, HasSubject, HasRole, TaskNotOwned, SelfConstraint, AlreadyDme, AlreadySme}
use Rattle.answers.specs.declared.Refusal.TheVariants.{OneSubjectGroup, OneRoleGroup, RoleOwnsBoth, SubjectOwnsBoth, SmeBetween, DmeBetween}
use Rattle.answers.specs.declared.Refusal.TheVariants.{SelfInheritance, Cycle, TaskAssignment, RoleAssignment, HoldsSme, HoldsDme}

-- a refusal, case by case
abbrev pub refused : Refusal → Said
refused WrongLength = say 1
refused (BadWord i) = say_x 2 i
refused UnknownKind = say 3
refused (BadArgument place) = say_x 4 place
refused AlreadySet = say 5
refused NotThere = say 6
refused (OrderOpen order) = say_x 7 order
refused NotOwned = say 8
refused (HasSubject subject) = say_x 9 subject
refused (HasRole role) = say_x 10 role
refused (TaskNotOwned task) = say_x 11 task
refused SelfConstraint = say 20
refused AlreadyDme = say 21
refused AlreadySme = say 22
refused OneSubjectGroup = say 23
refused OneRoleGroup = say 24
refused (RoleOwnsBoth role) = say_x 25 role
refused (SubjectOwnsBoth subject) = say_x 26 subject
refused (SmeBetween x y) = say_xy 27 x y
refused (DmeBetween x y) = say_xy 28 x y
refused SelfInheritance = say 29
refused Cycle = say 30
refused (TaskAssignment role tasks) = say_xy 31 role tasks
refused (RoleAssignment subject tasks) = say_xy 32 subject tasks
refused (HoldsSme x y order) = say_xyz 33 x y order
refused (HoldsDme x y order) = say_xyz 34 x y order

-- the code's answer: accepted, or what refuses it
abbrev pub Answer : Type 0
Answer = Result (Unit {0}) Refusal

abbrev pub said : Answer → Said
said (Ok done) = accepted
said (Err refusal) = refused refusal
