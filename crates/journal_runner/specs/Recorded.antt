-- What is known of a play whose lines were let go, and of its journal.
use Rattle.std.specs.Prelude.{◌≡◌, ◌⊎◌, ℕ, List, [], Option, Some}
use Rattle.kernel_model.specs.Application.{Native, booted}
use Rattle.kernel_state.specs.Meaning.{booted_of}
use Rattle.play_model.specs.Play.{Play, played}
use Rattle.ports.specs.Port.{Appends}
use Rattle.ta_isa.specs.declared.boot.Boot.{Boot}
use Rattle.trace_player.specs.Playing.{history_of}
use Rattle.trace_player.specs.Refused.{refused_in}
use Rattle.trace_player.specs.declared.player.Player.{Player}
use Rattle.trace_text.specs.declared.trace.Trace.{Trace}
use Rattle.word_parts.specs.Answer.{status_of_play}
use Rattle.word_parts.specs.Limits.{HasTooMany}
use Rattle.word_parts.specs.declared.status.Status.{Status}
use Rattle.word_parts.specs.declared.status.Status.TheVariants.{Memory}
use Rattle.journal_runner.specs.Recording.{HasSpelledJournal, journal_for}
use Rattle.journal_runner.specs.declared.playing.Recorded.{Recorded}

-- the player's core was booted with the trace's boot and has the history of the trace's play, which stands for this status
pub record StandsAtEnd (natives : List Native) (trace : Trace) (player : Player) (status : Status) : Type 0 where
  pub boot : Boot
  pub has_boot : trace.boot ≡ Some boot
  pub play : Play
  pub is_play : played natives boot trace ≡ Some play
  pub booted : booted_of player.machine.at_work.core ≡ booted boot natives
  pub history : history_of player ≡ play.history
  pub stands_for : status ≡ status_of_play play.refused

-- these are the bytes of the trace's journal, which spell it, and that is the status of its play
pub record IsRecordOf (natives : List Native) (trace : Trace) (recorded : Recorded) : Type 0 where
  pub bytes : journal_for natives trace ≡ Some recorded.bytes.items
  pub spelled : HasSpelledJournal natives trace
  pub status : recorded.status ≡ status_of_play (refused_in natives trace)

-- the trace's journal is spelled; or it has too many SMC items to be played, or nothing was written for want of memory
abbrev pub IsSpelledIfPlayed : List Native → Trace → Status → Option (List ℕ) → Option (List ℕ) → Type 0
IsSpelledIfPlayed natives trace result old new =
    ((result ≡ Memory) × Appends old new []) ⊎ HasTooMany trace.items ⊎ HasSpelledJournal natives trace
