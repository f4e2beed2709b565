-- A player before the first step of its trace.
use Rattle.std.specs.Prelude.{◌≡◌, List, Some}
use Rattle.kernel_model.specs.Application.{IsBooted, Native, booted}
use Rattle.notify_play.specs.NotifyPlay.{Drivers}
use Rattle.notify_player.specs.Playing.{IsPlayedTo}
use Rattle.notify_player.specs.declared.player.NotifyPlayer.{NotifyPlayer}
use Rattle.notify_text.specs.Sound.{IsSoundTold}
use Rattle.notify_text.specs.declared.notify_trace.NotifyTrace.{NotifyTrace}
use Rattle.notify_text.specs.declared.notify_trace.Signal.{Signal}
use Rattle.ta_isa.specs.declared.boot.Boot.{Boot}
use Rattle.trace_text.specs.declared.item.Item.{Item}
use Rattle.trace_player.specs.Starting.{uuids_of}
use Rattle.notify_runner.specs.Notified.{start_of}

-- the player has come to the first play of a sound trace with these items and signals
pub record IsAtStart (natives : List Native) (drivers : Drivers) (told : NotifyTrace) (items : List Item)
    (signals : List Signal) (player : NotifyPlayer) : Type 0 where
  pub sound : IsSoundTold (uuids_of natives) told
  pub items_are : items ≡ told.trace.items
  pub signals_are : signals ≡ told.signals
  pub boot : Boot
  pub has_boot : told.trace.boot ≡ Some boot
  pub boots : IsBooted (booted boot natives)
  pub stands : IsPlayedTo (booted boot natives) drivers (start_of (booted boot natives) told) player
