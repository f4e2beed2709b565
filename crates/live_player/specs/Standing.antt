-- Where a player stands in a conversation, behind the lines that count.
use Rattle.std.specs.Prelude.{◌≡◌, [], length, All, Some, true, false, is_some}
use Rattle.kernel_model.specs.Application.{IsBooted, booted}
use Rattle.kernel_state.specs.declared.terms.Terms.{Terms}
use Rattle.live_play.specs.Answer.{Platform, play_at, uuids_in}
use Rattle.live_play.specs.Showing.{ArePlayed, platform_at}
use Rattle.live_player.specs.Header.{IsHeaderOf, terms_where}
use Rattle.live_player.specs.declared.header.Header.{Header}
use Rattle.live_player.specs.declared.player.LivePlayer.{LivePlayer}
use Rattle.live_player.specs.declared.stage.Stage.{Stage}
use Rattle.live_player.specs.declared.stage.Stage.TheVariants as stage
use Rattle.live_text.specs.Rules.{LiveFront}
use Rattle.live_text.specs.Scene.{IsSceneOf}
use Rattle.live_text.specs.Sound.{AreSound}
use Rattle.notify_play.specs.NotifyPlay.{NotifyPlay}
use Rattle.notify_player.specs.Playing.{IsPlayedTo}
use Rattle.notify_player.specs.declared.player.NotifyPlayer.{NotifyPlayer}
use Rattle.notify_text.specs.Rules.{NotifyFront}
use Rattle.notify_text.specs.Sound.{IsSoundSignal}
use Rattle.ta_isa.specs.declared.boot.Boot.{Boot}
use Rattle.trace_player.specs.Playing.{terms_in}

-- no item and no signal is among the lines
pub record IsOpen (lines : NotifyFront) : Type 0 where
  pub items : lines.trace.items ≡ []
  pub signals : lines.signals ≡ []

-- these lines, with history kept
abbrev pub keeping : NotifyFront → LiveFront
keeping lines = record { told = lines; forgets = false }

-- the lines are within the limits of a trace with signals, but that processors may be inside
pub record IsWithin (on : Platform) (lines : NotifyFront) : Type 0 where
  pub sound : AreSound (uuids_in on) (keeping lines)
  pub signals : All (IsSoundSignal (length lines.trace.items)) lines.signals

-- a core and its desk have come to the play of the lines
pub record IsPlayedBehind (on : Platform) (lines : NotifyFront) (player : NotifyPlayer) : Type 0 where
  pub boot : Boot
  pub there : lines.trace.boot ≡ Some boot
  pub boots : IsBooted (booted boot on.natives)
  pub told : NotifyPlay
  pub play : play_at on lines ≡ Some told
  pub stands : IsPlayedTo (booted boot on.natives) on.drivers told player

-- the lines are those of a header, which is of this platform; or a core has played them
abbrev pub StageAt : Platform → NotifyFront → Stage → Type 0
StageAt on lines (stage.Header header) =
    IsHeaderOf header lines × IsOpen lines × ((terms_where header.is_history_off).most ≡ on.most_bytes)
StageAt on lines (stage.Core player) = IsPlayedBehind on lines player × (IsOpen lines → ⊥)

-- a core can be booted by a header of these lines
pub record CanBegin (on : Platform) (lines : NotifyFront) (header : Header) : Type 0 where
  pub header_is : IsHeaderOf header lines
  pub open_there : IsOpen lines
  pub within : IsWithin on lines
  pub boots : is_some lines.trace.boot ≡ true
  pub most : (terms_where header.is_history_off).most ≡ on.most_bytes

-- the terms of a core that has played lines, or will
abbrev pub terms_on : Stage → Terms
terms_on (stage.Header header) = terms_where header.is_history_off
terms_on (stage.Core player) = terms_in player.player

-- the player has come to the lines
pub record HasCome (on : Platform) (lines : LiveFront) (player : LivePlayer) : Type 0 where
  pub scene : IsSceneOf player.scene lines
  pub within : IsWithin (platform_at on lines) lines.told
  pub stage_at : StageAt (platform_at on lines) lines.told player.stage
  pub terms : terms_on player.stage ≡ terms_where lines.forgets

-- it stands behind them: and where a boot is among them, they have a play
pub record StandsAt (on : Platform) (lines : LiveFront) (player : LivePlayer) : Type 0 where
  pub come : HasCome on lines player
  pub has_play : ArePlayed on lines
