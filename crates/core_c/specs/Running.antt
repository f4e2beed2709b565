-- What a call over bytes in memory comes to: it is the top call, whose source and sink count no fault.
use Rattle.std.specs.Prelude.{◌≡◌, ◌≢◌, ℕ, ◌⊎◌, List, [], Option, Some}
use Rattle.client_runner.specs.Client.{client_word}
use Rattle.client_runner.specs.Scripts.{PlaysScripts}
use Rattle.compare_model.specs.declared.subject.Subject.{Subject}
use Rattle.native_tas.specs.declared.driver_relation.DriverRelation.{DriverRelation}
use Rattle.native_tas.specs.declared.relation.Relation.{Relation}
use Rattle.journal_runner.specs.Auditing.{auditing}
use Rattle.journal_runner.specs.Audits.{Audits}
use Rattle.journal_runner.specs.Compares.{Compares}
use Rattle.journal_runner.specs.Comparing.{comparing}
use Rattle.journal_runner.specs.Recording.{recording}
use Rattle.journal_runner.specs.Records.{Records}
use Rattle.notify_runner.specs.Notified.{Notifies}
use Rattle.notify_runner.specs.Run.{notifying}
use Rattle.alone_runner.specs.Plays.{IsSummedUp, Plays, SpellsTraces}
use Rattle.alone_runner.specs.Run.{WorkStatuses, Worked, WritesSummary, reading, usage_line}
use Rattle.word_parts.specs.Keeping.{Keeps}
use Rattle.word_parts.specs.Answer.{Writes}
use Rattle.alone_runner.specs.Words.{Say, SayNothing}
use Rattle.alone_runner.specs.declared.command.Command.TheVariants.{Audit, Client, Compare, Notify, Record, Serve, Work}
use Rattle.alone_runner.specs.declared.command.Grammar.{Grammar}
use Rattle.word_parts.specs.declared.status.Status.{Status}
use Rattle.word_parts.specs.declared.status.Status.TheVariants.{Memory, ReadFault, Usage, WriteFault}
use Rattle.word_parts.specs.declared.status.Status.TheVariants as status

-- a built-in application, by its UUID and what its function answers
abbrev pub Native : Type 0
Native = List ℕ × Relation

-- drivers, each by its value and what its function answers
abbrev pub Drivers : Type 0
Drivers = List (ℕ × DriverRelation)

-- an input that is read in this grammar, of which this is left, and what was put where nothing was held
pub record Serves (natives : List Native) (grammar : Grammar) (input : List ℕ) (result : Status)
    (output : List ℕ) : Type 0 where
  pub left : Option (List ℕ)
  pub keeps : Keeps (reading grammar natives) input left result (Some []) (Some output) (Unit {0})
  pub plays : SpellsTraces grammar → Plays grammar natives input result (Some []) (Some output)

-- a made trace, likewise
pub record Works (seed count : ℕ) (result : Status) (output : List ℕ) : Type 0 where
  pub worked : Worked seed count result (Some []) (Some output)
  pub statuses : WorkStatuses seed count result (Some []) (Some output)
  pub plays : result ≡ status.Ok → IsSummedUp seed count (Some []) (Some output)
  pub complete : ((result ≡ status.Ok) × WritesSummary seed count (Some []) (Some output)) ⊎ (result ≡ Memory)

-- a trace whose journal is written, likewise
pub record HasRecorded (natives : List Native) (input : List ℕ) (result : Status) (output : List ℕ) : Type 0 where
  pub left : Option (List ℕ)
  pub keeps : Keeps (recording natives) input left result (Some []) (Some output) (Unit {0})
  pub records : Records natives input result (Some []) (Some output)

-- and a journal on which the verdict is written
pub record HasAudited (natives : List Native) (input : List ℕ) (result : Status) (output : List ℕ) : Type 0 where
  pub left : Option (List ℕ)
  pub keeps : Keeps (auditing natives) input left result (Some []) (Some output) (Unit {0})
  pub audits : Audits natives input result (Some []) (Some output) (Unit {0})

-- and two journals of which it is written what they show of a session, or of the sessions that share an application's instance
pub record HasCompared (natives : List Native) (subject : Subject) (input : List ℕ) (result : Status) (output : List ℕ) : Type 0
  where
    pub left : Option (List ℕ)
    pub keeps : Keeps (comparing natives subject) input left result (Some []) (Some output) (Unit {0})
    pub compares : Compares natives subject input result (Some []) (Some output) (Unit {0})

-- and a trace with signals
pub record HasNotified (natives : List Native) (drivers : Drivers) (input : List ℕ) (result : Status) (output : List ℕ) : Type 0
  where
    pub left : Option (List ℕ)
    pub keeps : Keeps (notifying natives drivers) input left result (Some []) (Some output) (Unit {0})
    pub notifies : Notifies natives drivers input result (Some []) (Some output)

-- and a client's script
pub record HasPlayedScript (natives : List Native) (input : List ℕ) (result : Status) (output : List ℕ) : Type 0 where
  pub left : Option (List ℕ)
  pub keeps : Keeps (client_word natives) input left result (Some []) (Some output) (Unit {0})
  pub plays : PlaysScripts natives input result (Some []) (Some output)

-- the top call of these words over this input ended with this status, and put this output. `threads` says no command, since no thread is
-- started
pub record IsRun (natives : List Native) (drivers : Drivers) (texts : List (List ℕ)) (input : List ℕ) (result : Status)
    (output : List ℕ) : Type 0 where
  pub usage : result ≡ Usage → SayNothing texts × (output ≡ usage_line)
  pub other_words : SayNothing texts → Writes Usage usage_line result (Some []) (Some output)
  pub serves : (grammar : Grammar) → Say texts (Serve grammar) → Serves natives grammar input result output
  pub records : Say texts Record → HasRecorded natives input result output
  pub audits : Say texts Audit → HasAudited natives input result output
  pub compares : (subject : Subject) → Say texts (Compare subject) → HasCompared natives subject input result output
  pub notifies : Say texts Notify → HasNotified natives drivers input result output
  pub plays_scripts : Say texts Client → HasPlayedScript natives input result output
  pub works : (seed count : ℕ) → Say texts (Work seed count) → Works seed count result output
  pub reads : result ≢ ReadFault
  pub writes : result ≢ WriteFault
