-- The numbers that the program ends with.
use Rattle.std.specs.Prelude.{ℕ}
use Rattle.word_parts.specs.declared.status.Status.{Status}
use Rattle.word_parts.specs.declared.status.Status.TheVariants.{Ok, Usage, BadTrace, ReadFault, WriteFault, Memory, TooLong}

abbrev pub number_of : Status → ℕ
number_of Ok = 0
number_of Usage = 2
number_of BadTrace = 3
number_of ReadFault = 4
number_of WriteFault = 5
number_of Memory = 6
number_of TooLong = 7
