-- Document 01, "The audit": the number and x of each case of the code's finding.
use Rattle.std.specs.Prelude.{◌+◌, Result, Ok, Err}
use Rattle.rules.specs.Numbers.{Said, accepted, say, say_x}
use Rattle.answers.specs.declared.Fault.{Fault}
use Rattle.answers.specs.declared.Fault.TheVariants.{WrongLength, BadWord, Broken}

-- 1 or 2 as in a request, else 40 + n for the lowest broken rule n
abbrev pub faulted : Fault → Said
faulted WrongLength = say 1
faulted (BadWord i) = say_x 2 i
faulted (Broken rule) = say (40 + rule)

-- the code's finding: sound, which is 0, or at fault
abbrev pub Finding : Type 0
Finding = Result (Unit {0}) Fault

abbrev pub found : Finding → Said
found (Ok sound) = accepted
found (Err fault) = faulted fault
