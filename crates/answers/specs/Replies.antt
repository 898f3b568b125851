-- An answer of the rules as the numbers that leave the program.
use Rattle.rules.specs.Numbers.{Said, number_of, named_by}
use Rattle.answers.specs.declared.Reply.{Reply}

abbrev pub reply_of : Said → Reply
reply_of s = record { number = number_of s; x = (named_by s).x; y = (named_by s).y; z = (named_by s).z }
