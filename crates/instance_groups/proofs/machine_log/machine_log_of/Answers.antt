use Rattle.std.proofs.Common.{List, ◌++◌, Option, ap, sym, ◌∙◌}
use Rattle.std.specs.Option.{option_to_list}
use Rattle.std.specs.Prelude.{filter_map}
use Rattle.group_model.specs.Read.{Logged}
use Rattle.instance_groups.proofs.GroupLogs.{machine_more}
use Rattle.realm_model.specs.Reading.{of_machine}
use Rattle.instance_groups.proofs.machine_log.machine_log_of.Goals as goal

pub loop-logged-preserved : goal.loop-logged-preserved
loop-logged-preserved c =
    c.in_ok-add.ensures
    ∙ ap (λ (log : List Logged). log ++ option_to_list c.of_machine.result) c.loop-logged.invariant
    ∙ ap (λ (o : Option Logged). filter_map of_machine c.loop-logged.yielded ++ option_to_list o) c.of_machine.ensures
    ∙ sym (machine_more c.loop-logged.yielded c.in-Some.logged)
