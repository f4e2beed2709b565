use Rattle.std.proofs.Common.{◌≡◌}
use Rattle.std.specs.Prelude.{filter_map}
use Rattle.realm_model.specs.Reading.{of_machine}
use Rattle.instance_groups.proofs.machine_log.machine_log_of.Given as goal

abbrev pub invariant-loop-logged : goal.invariant-loop-logged
invariant-loop-logged l = l.entries.items ≡ filter_map of_machine l.yielded
