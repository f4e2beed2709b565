-- The boot of a trace, and what a core that has played it was booted with.
use Rattle.std.proofs.Common.{◌≡◌, ◌∙◌, ℕ, List, Option, Some, None, ap, subst}
use Rattle.std.specs.Prelude.{IfSome}
use Rattle.core_cases.specs.Playing.{HasItsBoot}
use Rattle.kernel_model.specs.Application.{Native, booted}
use Rattle.ta_isa.specs.Boots.{IsBoot}
use Rattle.ta_isa.specs.declared.boot.Boot.{Boot}
use Rattle.trace_player.proofs.Playable.{Playing}
use Rattle.trace_player.specs.declared.player.Player.{Player}
use Rattle.trace_text.specs.Sound.{IsSound, IsSoundBoot}
use Rattle.trace_text.specs.declared.item.Item.{Item}
use Rattle.trace_text.specs.declared.trace.Trace.{Trace}

of_boot : (natives : List (List ℕ)) (boot : Option Boot) → IfSome boot (IsSoundBoot natives) → IfSome boot IsBoot
of_boot natives (Some boot) so = so.boots
of_boot natives None so = so

pub sound_boot : (natives : List (List ℕ)) (trace : Trace) → IsSound natives trace → IfSome trace.boot IsBoot
sound_boot natives trace sound = of_boot natives trace.boot sound.boot

pub boot_of_sound : (natives : List (List ℕ)) (trace : Trace) (boot : Boot) → IsSound natives trace → trace.boot ≡ Some boot
    → IsSoundBoot natives boot
boot_of_sound natives trace boot sound is = subst (λ (o : Option Boot). IfSome o (IsSoundBoot natives)) is sound.boot

-- a player that has played items of a trace has a core that was booted with the trace's boot
pub has_its_boot : (natives : List Native) (trace : Trace) (items : List Item) (at : ℕ) (player : Player) (text : List ℕ)
    → Playing natives trace items at player text → HasItsBoot natives trace player
has_its_boot natives trace items at player text playing = λ boot is.
    let has = playing.is in
    let same : playing.boot ≡ boot = cc in
    playing.written.stands.machine.booted ∙ ap (λ (b : Boot). booted b natives) same
