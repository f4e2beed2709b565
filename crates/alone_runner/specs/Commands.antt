-- What a call comes to, by the command that its words ask for: those of the top call without threads.
use Rattle.std.specs.Prelude.{◌≡◌, ◌⊎◌, ℕ}
use Rattle.client_runner.specs.Client.{client_word}
use Rattle.client_runner.specs.Scripts.{PlaysScripts}
use Rattle.journal_runner.specs.Auditing.{auditing}
use Rattle.journal_runner.specs.Audits.{Audits}
use Rattle.journal_runner.specs.Compares.{Compares}
use Rattle.journal_runner.specs.Comparing.{comparing}
use Rattle.journal_runner.specs.Recording.{recording}
use Rattle.journal_runner.specs.Records.{Records}
use Rattle.notify_runner.specs.Notified.{Notifies}
use Rattle.notify_runner.specs.Run.{notifying}
use Rattle.ports.specs.Port.{Rose}
use Rattle.word_parts.specs.BuiltIn.{BuiltIn}
use Rattle.word_parts.specs.Call.{Call, HasNoFault, KeepsTo}
use Rattle.word_parts.specs.declared.status.Status.TheVariants.{Memory}
use Rattle.word_parts.specs.declared.status.Status.TheVariants as status
use Rattle.alone_runner.specs.Plays.{IsSummedUp, Plays, SpellsTraces}
use Rattle.alone_runner.specs.Run.{WorkStatuses, Worked, WritesSummary, reading}
use Rattle.alone_runner.specs.TopCall.{Commands}
use Rattle.alone_runner.specs.Words.{Reads}
use Rattle.alone_runner.specs.declared.command.Command.{Command}
use Rattle.alone_runner.specs.declared.command.Command.TheVariants.{Serve, Record, Audit, Compare, Notify, Client, Work}

-- a made trace is summed up: the summary of its play is written, whole or in part, at each status
pub record SumsUp (seed count : ℕ) (call : Call) : Type 0 where
  pub worked : Worked seed count call.result call.old call.new
  pub statuses : WorkStatuses seed count call.result call.old call.new
  pub plays : call.result ≡ status.Ok → IsSummedUp seed count call.old call.new
  pub complete : (Rose call.sink_old call.sink_new → ⊥)
      → ((call.result ≡ status.Ok) × WritesSummary seed count call.old call.new) ⊎ (call.result ≡ Memory)

-- a command that reads keeps to its word over an input that the source tells, and shows besides:
abbrev pub DoesAlone : BuiltIn → Command → Call → Type 0
-- where a trace was read and just its text was written, its play: each printed return is the written kernel's at its place in one
-- history, and what holds of resumes, of the thread limit and of isolation holds of that very play
DoesAlone built (Serve grammar) call =
    KeepsTo (reading grammar built.natives)
    (λ input c. SpellsTraces grammar → Plays grammar built.natives input c.result c.old c.new) call
-- the play whose journal was written
DoesAlone built Record call = KeepsTo (recording built.natives) (λ input c. Records built.natives input c.result c.old c.new) call
-- the verdict on a journal; each that an input of at most 2^24 bytes spells, with nothing behind it, is answered so where no port fails,
-- or there is want of memory
DoesAlone built Audit call =
    KeepsTo (auditing built.natives) (λ input c. Audits built.natives input c.result c.old c.new (HasNoFault c)) call
-- what two journals show of a session, or of the sessions that share an application's instance: where that is the same, they were
-- answered the same in both. In each that is a legal history they were answered as the machine that has their events alone answers.
-- Each two that an input of at most 2^24 bytes spells, with nothing behind them, are answered so where no port fails, or there is want of
-- memory
DoesAlone built (Compare subject) call =
    KeepsTo (comparing built.natives subject)
    (λ input c. Compares built.natives subject input c.result c.old c.new (HasNoFault c)) call
-- the play of a trace with signals whose text was written: the kernel's history of it is legal, whatever is signalled, and a bottom
-- half calls just the drivers that were signalled
DoesAlone built Notify call =
    KeepsTo (notifying built.natives built.drivers)
    (λ input c. Notifies built.natives built.drivers input c.result c.old c.new) call
-- the play of a client's script whose text was written, which is the one that the script's calls make on its core: its history is
-- that of the client's writes and SMCs, legal from the script's boot; and each result of a session that shares no instance is the
-- one with which its own machine, fed by its own events alone, ends the call
DoesAlone built Client call =
    KeepsTo (client_word built.natives) (λ input c. PlaysScripts built.natives input c.result c.old c.new) call
DoesAlone built (Work seed count) call = SumsUp seed count call

-- these commands, beside what is built in
abbrev pub alone_commands : BuiltIn → Commands
alone_commands built = record { Command = Command; Reads = Reads; Does = DoesAlone built }
