use Rattle.std.proofs.Common.{◌≡◌, map, take}
use Rattle.native_tas.proofs.natives.Natives.uuids.Given as goal

abbrev pub invariant-loop-native : goal.invariant-loop-native
invariant-loop-native g l = l.uuids.items ≡ map (λ n. n.uuid) (take l.native-index l.native-items)
