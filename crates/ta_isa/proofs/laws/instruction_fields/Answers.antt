use Rattle.ta_isa.proofs.Instructions.{is_instruction-fields}
use Rattle.ta_isa.proofs.laws.instruction_fields.Goals as goal

pub returns : goal.returns
returns c = is_instruction-fields
