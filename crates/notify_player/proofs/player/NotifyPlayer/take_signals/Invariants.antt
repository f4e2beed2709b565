use Rattle.std.proofs.Common.{◌≡◌, ℕ, length}
use Rattle.std.specs.Prelude.{All}
use Rattle.kernel_model.specs.Application.{Booted}
use Rattle.notify_play.specs.NotifyPlay.{Drivers, NotifyPlay}
use Rattle.notify_text.specs.Sound.{IsSoundSignal}
use Rattle.notify_player.specs.Playing.{IsPlayedTo}
use Rattle.notify_player.specs.Signalling.{behind_at, front_at, signalled_by}
use Rattle.notify_player.proofs.player.NotifyPlayer.take_signals.Given as goal

-- those so far were signalled, and are followed by those that are left; the desk alone has changed
abbrev pub invariant-loop-rest : goal.invariant-loop-rest
invariant-loop-rest l = record {
  sound : (items : ℕ) → All (IsSoundSignal items) l.fn.signals → All (IsSoundSignal items) l.rest;
  behind : behind_at l.at l.rest ≡ behind_at l.at l.fn.signals;
  player : l.self.player ≡ l.fn.self.player;
  signalled : (boot : Booted) (ds : Drivers) (told : NotifyPlay) → IsPlayedTo boot ds told l.fn.self
      → (now : NotifyPlay) × IsPlayedTo boot ds now l.self
      × (signalled_by (front_at l.at l.rest) now ≡ signalled_by (front_at l.at l.fn.signals) told);
}

abbrev pub decreases-loop-rest : goal.decreases-loop-rest
decreases-loop-rest l = length l.rest
