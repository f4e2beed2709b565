-- What was read beside built-in applications can be booted beside them.
use Rattle.std.proofs.Common.{◌≡◌, ℕ, ◌≤◌, List, [], length, Option, Some, None, sym, subst}
use Rattle.std.specs.Prelude.{IfNone, IfSome}
use Rattle.kernel_model.specs.Application.{Native}
use Rattle.ta_isa.specs.declared.boot.Boot.{Boot}
use Rattle.trace_player.proofs.Booting.{AreApart, sound_boots}
use Rattle.trace_player.specs.Starting.{uuids_of}
use Rattle.trace_text.specs.Sound.{IsSound, IsSoundBoot}
use Rattle.trace_text.specs.declared.trace.Trace.{Trace}
use Rattle.journal_runner.specs.Known.{CanBoot, CanBootWith}

by_boot : (natives : List Native) (trace : Trace) (boot : Option Boot) → length (uuids_of natives) ≤ 16
    → AreApart (uuids_of natives) → IfSome boot (IsSoundBoot (uuids_of natives))
    → IfNone boot ((trace.fills ≡ []) × (trace.items ≡ [])) → CanBootWith natives trace boot
by_boot natives trace None few apart sound none = none.1
by_boot natives trace (Some boot) few apart sound none = sound_boots natives boot few apart sound

by_trace : (natives : List Native) (trace : Trace) → length (uuids_of natives) ≤ 16 → AreApart (uuids_of natives)
    → IsSound (uuids_of natives) trace → CanBoot natives trace
by_trace natives trace few apart sound = by_boot natives trace trace.boot few apart sound.boot sound.no_boot

pub can_boot : (natives : List Native) (uuids : List (List ℕ)) (trace : Trace) → uuids ≡ uuids_of natives → length uuids ≤ 16
    → AreApart uuids → IsSound uuids trace → CanBoot natives trace
can_boot natives uuids trace same =
    subst (λ (us : List (List ℕ)). length us ≤ 16 → AreApart us → IsSound us trace → CanBoot natives trace) (sym same)
    (by_trace natives trace)
