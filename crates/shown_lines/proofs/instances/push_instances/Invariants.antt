use Rattle.std.proofs.Common.{◌≡◌, ◌++◌, take}
use Rattle.std.specs.List.{flat_map}
use Rattle.kernel_state.specs.Tables.{instance_of, tables_of}
use Rattle.live_play.specs.State.{instance_line}
use Rattle.shown_lines.proofs.instances.push_instances.Given as goal

abbrev pub invariant-loop-entry : goal.invariant-loop-entry
invariant-loop-entry l =
    l.text.items ≡ l.initial.text.items
    ++ flat_map (λ kept. instance_line (tables_of l.tables) kept.0 (instance_of kept.1)) (take l.entry-index l.kept)
