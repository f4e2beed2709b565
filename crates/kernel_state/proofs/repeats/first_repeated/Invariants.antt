use Rattle.std.proofs.Common.{◌≡◌, ◌+◌, length, drop}
use Rattle.std.specs.Prelude.{map}
use Rattle.kernel_state.specs.Booting.{first_repeated}
use Rattle.kernel_state.proofs.repeats.first_repeated.Given as goal

abbrev pub invariant-loop-app : goal.invariant-loop-app
invariant-loop-app l = record {
  room : length l.seen.items ≡ length l.uuids + l.app-index;
  finds : first_repeated l.seen.items (map (λ app. app.uuid) (drop l.app-index l.apps))
      ≡ first_repeated l.uuids (map (λ app. app.uuid) l.apps);
}
