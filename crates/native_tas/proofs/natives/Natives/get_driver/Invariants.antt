use Rattle.std.proofs.Common.{◌≡◌, ◌==◌, drop}
use Rattle.std.specs.List.{find}
use Rattle.native_tas.proofs.natives.Natives.get_driver.Given as goal

abbrev pub invariant-loop-driver : goal.invariant-loop-driver
invariant-loop-driver g l =
    find (λ driver. driver.value == l.value) l.driver-items ≡ find (λ driver. driver.value == l.value) (drop l.driver-index l.driver-items)
