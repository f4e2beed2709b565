use Rattle.solo.proofs.outputs.copied_outputs.Goals as goal

pub returns : goal.returns
returns c = c.outputs_with.ensures c.longest_if_some.result c.in_ok-room.ensures.holds c.longest_if_some.ensures
