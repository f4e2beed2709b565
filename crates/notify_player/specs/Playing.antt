-- What the play of a trace with signals comes to in the code, step by step.
use Rattle.std.specs.Prelude.{◌≡◌, ℕ, List, [], length, Option, Some, Result, Ok, Err, slice_index_or}
use Rattle.core_machine.specs.declared.smc.Told.{Told}
use Rattle.kernel_model.specs.Application.{Booted}
use Rattle.notify_play.specs.NotifyPlay.{Drivers, NotifyPlay, desk_of, goes_out, with_play}
use Rattle.trace_player.specs.Items.{GoesOut}
use Rattle.trace_player.specs.Kinds.{Kind}
use Rattle.trace_player.specs.Playing.{Plays}
use Rattle.trace_player.specs.Position.{Position, StandsAt}
use Rattle.word_parts.specs.declared.stop.Stop.{Stop}
use Rattle.notify_player.specs.declared.player.NotifyPlayer.{NotifyPlayer}

-- ---- where a player stands

-- the play of the kernel as the desk changed it, and what each processor was told
abbrev pub position_in : NotifyPlay → Position
position_in told = record { play = told.play; told = λ cpu. slice_index_or told.answers cpu [] }

-- as plays of a kind
abbrev pub of_signals : Booted → Drivers → Kind NotifyPlay
of_signals boot drivers = record {
  boot = boot;
  position = position_in;
  over = with_play;
  goes_out = λ cpu told. goes_out boot drivers cpu told;
}

-- the player has come to this play, but for what was printed
pub record IsPlayedTo (boot : Booted) (drivers : Drivers) (told : NotifyPlay) (player : NotifyPlayer) : Type 0 where
  pub at : StandsAt boot (position_in told) player.player
  pub count : length told.answers ≡ boot.cpus
  pub desk : player.desk ≡ desk_of drivers told

-- a processor has gone out of the core in this play with this answer, and is told nothing yet
pub record HasGone (boot : Booted) (drivers : Drivers) (told : NotifyPlay) (answered : Told) (player : NotifyPlayer) : Type 0
  where
    pub goes : GoesOut boot (position_in told) answered player.player
    pub count : length told.answers ≡ boot.cpus
    pub desk : player.desk ≡ desk_of drivers told

-- ---- a step

-- the play, of which the next entry was refused, which would have read so many bytes
abbrev pub refused_at : ℕ → NotifyPlay → NotifyPlay
refused_at more told = record told { play = record told.play { refused = Some more } }

-- what came of an item, but for the panic in which its call has ended
abbrev pub without_panic : Result (Option ℕ) Stop → Result (Unit {0}) Stop
without_panic (Ok panic) = Ok tt
without_panic (Err stop) = Err stop

-- something that a play comes to so, where it can come; a refused entry prints nothing, and the player is where it was
abbrev pub Follows : Booted → Drivers → NotifyPlay → Option NotifyPlay → Result (Unit {0}) Stop → NotifyPlayer → List ℕ
    → List ℕ → Type 0
Follows boot drivers told after result player old new =
    Plays (of_signals boot drivers) (λ told. IsPlayedTo boot drivers told player) told after result old new
