use Rattle.std.proofs.Common.{◌≡◌, map, take}
use Rattle.native_tas.specs.Native.{entry_of}
use Rattle.native_tas.proofs.natives.Natives.apps.Given as goal

abbrev pub invariant-loop-native : goal.invariant-loop-native
invariant-loop-native g l = map (λ app. (app.uuid, app.relation)) l.apps.items ≡ map entry_of (take l.native-index l.native-items)
