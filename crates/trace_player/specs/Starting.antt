-- A trace that has a boot, and a player before the first item of its trace.
use Rattle.std.specs.Prelude.{◌≡◌, ℕ, List, map, Some}
use Rattle.base.specs.Zeros.{zeros}
use Rattle.kernel_model.specs.Application.{IsBooted, Native, booted}
use Rattle.play_model.specs.Play.{first_play}
use Rattle.ta_isa.specs.declared.boot.Boot.{Boot}
use Rattle.trace_text.specs.Sound.{IsSound}
use Rattle.trace_text.specs.declared.item.Item.{Item}
use Rattle.trace_text.specs.declared.trace.Fill.{Fill}
use Rattle.trace_text.specs.declared.trace.Trace.{Trace}
use Rattle.trace_player.specs.Playing.{IsPlayedTo}
use Rattle.trace_player.specs.declared.player.Player.{Player}

-- the UUIDs of built-in applications
abbrev pub uuids_of : List Native → List (List ℕ)
uuids_of natives = map (λ (native : Native). native.0) natives

-- the trace of a boot, with these fills and items
abbrev pub trace_of : Boot → List Fill → List Item → Trace
trace_of boot fills items = record { boot = Some boot; fills = fills; items = items }

-- the player has come to the first play of a sound trace with these items
pub record IsAtStart (natives : List Native) (trace : Trace) (items : List Item) (player : Player) : Type 0 where
  pub sound : IsSound (uuids_of natives) trace
  pub same : items ≡ trace.items
  pub boot : Boot
  pub has_boot : trace.boot ≡ Some boot
  pub boots : IsBooted (booted boot natives)
  pub stands : IsPlayedTo (booted boot natives) (first_play (zeros 0x400000) (booted boot natives) trace.fills) player
