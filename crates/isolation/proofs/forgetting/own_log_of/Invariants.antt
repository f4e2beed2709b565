use Rattle.std.proofs.Common.{◌≡◌}
use Rattle.std.specs.Prelude.{filter_map}
use Rattle.realm_model.specs.Forgetting.{own_logged}
use Rattle.isolation.proofs.forgetting.own_log_of.Given as goal

abbrev pub invariant-loop-logged : goal.invariant-loop-logged
invariant-loop-logged l = l.entries.items ≡ filter_map own_logged l.yielded
