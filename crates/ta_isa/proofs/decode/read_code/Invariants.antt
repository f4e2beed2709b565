use Rattle.ta_isa.proofs.ReadInstructions.{IsReadTo}
use Rattle.ta_isa.proofs.decode.read_code.Given as goal

abbrev pub invariant-loop-number : goal.invariant-loop-number
invariant-loop-number l = IsReadTo l.bytes l.count l.number l.code.items
