use Rattle.std.proofs.Common.{◌≡◌, ◌++◌, take}
use Rattle.std.specs.List.{flat_map}
use Rattle.trace_bin.specs.Spelling.{app_record}
use Rattle.trace_bin.proofs.writing.put_apps.Given as goal

abbrev pub invariant-loop-app : goal.invariant-loop-app
invariant-loop-app l = l.out.items ≡ l.initial.out.items ++ flat_map app_record (take l.app-index l.apps)
