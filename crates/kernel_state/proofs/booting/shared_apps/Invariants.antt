use Rattle.std.proofs.Common.{◌≡◌, ◌++◌, map}
use Rattle.std.specs.Vec.Iter.{into_iter_items}
use Rattle.kernel_state.specs.Setup.{app_of}
use Rattle.kernel_state.proofs.booting.shared_apps.Given as goal

abbrev pub invariant-loop-app : goal.invariant-loop-app
invariant-loop-app l =
    (goal.iterator-loop-app).can_next l.app-iterator × (goal.iterator-loop-app).is_finite l.app-iterator
    × (map app_of l.shared.items ++ into_iter_items l.app-iterator ≡ l.fn.apps)
