-- How far the log of somebody was read off a journal.
use Rattle.std.specs.Prelude.{◌≡◌, List, [], ◌∷◌, ◌++◌, Option, None, Some, Result, Ok, Err}
use Rattle.std.specs.Global.{Vec}
use Rattle.audit_model.specs.Verdicts.{IsFaultless}
use Rattle.base.specs.declared.no_memory.NoMemory.{NoMemory}
use Rattle.event_journal.specs.declared.event.Event.{Event}
use Rattle.journal_notes.specs.Meaning.{AreOn, HasGrown, Meaning, log_on, same_subject}
use Rattle.journal_replay.specs.Replaying.{HasDone, boot_of, done_by}
use Rattle.journal_replay.specs.declared.replay.Replay.{Replay}

-- a replay and the notes of what it has done
pub record Reader (N : Type 0) : Type 0 where
  pub replay : Replay
  pub notes : N

-- so far the log was read
abbrev pub log_of : {N L : Type 0} → Meaning N L → Reader N → List L
log_of meaning reader = log_on meaning reader.replay.at_work.core reader.notes

abbrev pub IsReading : {N L : Type 0} → Meaning N L → Reader N → Type 0
IsReading meaning reader = AreOn meaning reader.replay.at_work.core reader.notes

-- the event was read behind the others, and this is what it adds to the log
pub record HasRead {N L : Type 0} (meaning : Meaning N L) (old new : Reader N) (event : Event) (news : List L) : Type 0 where
  pub done : HasDone old.replay new.replay event
  pub subject : same_subject meaning old.notes new.notes
  pub grown : HasGrown meaning old.replay.at_work.core new.replay.at_work.core old.notes new.notes news

-- by the answer: the event was read; no legal and steady history goes on with it; or memory was wanting
abbrev pub Reads : {N L : Type 0} → Meaning N L → Reader N → Reader N → Event → Result (Option (Vec L)) NoMemory → Type 0
Reads meaning old new event (Ok (Some news)) = HasRead meaning old new event news.items
Reads meaning old new event (Ok None) = IsFaultless (boot_of old.replay) (done_by old.replay ++ event ∷ []) → ⊥
Reads meaning old new event (Err error) = Unit {0}

-- the events of a journal were read whole, and this is the log
pub record HasReadAll {N L : Type 0} (meaning : Meaning N L) (old new : Reader N) (events : List Event)
    (log : List L) : Type 0 where
  pub boot : boot_of new.replay ≡ boot_of old.replay
  pub done : done_by new.replay ≡ events
  pub subject : same_subject meaning old.notes new.notes
  pub reading : IsReading meaning new
  pub whole : log ≡ meaning.log (meaning.subject old.notes) (boot_of old.replay) events
