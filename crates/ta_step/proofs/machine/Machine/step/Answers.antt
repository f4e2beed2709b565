use Rattle.std.proofs.Common.{sym}
use Rattle.ta_step.proofs.EffectLemmas.{valid_effect, valid_fields}
use Rattle.ta_step.proofs.RunLemmas.{led_by_instruction, led_past_the_code}
use Rattle.ta_step.proofs.machine.Machine.step.Goals as goal

pub execute-requires-clause-fields : goal.execute-requires-clause-fields
execute-requires-clause-fields g c = valid_fields c.args.image.now _ _ c.requires (sym c.in-Some.ensures)

pub execute-requires-clause-known : goal.execute-requires-clause-known
execute-requires-clause-known g c = valid_effect c.args.image.now _ _ c.requires (sym c.in-Some.ensures)

pub returns-in-None : goal.returns-in-None
returns-in-None g c = led_past_the_code _ _ _ c.in-None.ensures

pub returns-in-Some : goal.returns-in-Some
returns-in-Some g c =
    led_by_instruction _ _ _ _ _ c.in-Some.ensures (valid_effect c.args.image.now _ _ c.requires (sym c.in-Some.ensures)) c.execute.ensures
