use Rattle.std.proofs.Common.{ap, ◌∙◌}
use Rattle.core_machine.specs.declared.machine.Machine.{Machine}
use Rattle.live_player.proofs.Told.{told_of_core}
use Rattle.live_player.proofs.telling.push_told.Goals as goal

pub returns : goal.returns
returns c = λ on lines behind.
    told_of_core c.push_told.result on lines c.args.player.now c.core.result.now c.args.question.now c.args.text.now.items
    c.push_told.new.text.items (c.core.ensures ∙ ap (λ (machine : Machine). machine.at_work.core) c.machine.ensures) behind
    c.push_told.ensures
