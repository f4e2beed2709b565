-- What is within the limits of boots can be booted, beside built-in applications that are few and apart.
use Rattle.std.proofs.Common.{◌≢◌, ℕ, ◌≤◌, List, length, None, refl, sym}
use Rattle.std.specs.Prelude.{AllPairs}
use Rattle.core_machine.proofs.Apart.{none_repeated}
use Rattle.kernel_model.specs.Application.{IsBooted, Native, booted}
use Rattle.kernel_state.proofs.Apart.{natives_if_none}
use Rattle.ta_isa.specs.declared.boot.Boot.{Boot}
use Rattle.trace_text.specs.Sound.{IsSoundBoot}
use Rattle.trace_player.specs.Starting.{uuids_of}

-- UUIDs of built-in applications are apart
abbrev pub AreApart : List (List ℕ) → Type 0
AreApart uuids = AllPairs (λ (earlier later : List ℕ). earlier ≢ later) uuids

-- a core can be booted with a sound boot, beside built-in applications whose UUIDs are few and apart
pub sound_boots : (natives : List Native) (boot : Boot) → length (uuids_of natives) ≤ 16 → AreApart (uuids_of natives)
    → IsSoundBoot (uuids_of natives) boot → IsBooted (booted boot natives)
sound_boots natives boot few apart sound = record {
  boot = boot;
  natives = natives;
  is_boot = sound.boots;
  are_natives = natives_if_none None boot natives (uuids_of natives) boot.apps
      (sym (none_repeated (uuids_of natives) boot sound.boots sound.no_native)) refl refl few apart;
  same = refl;
}
