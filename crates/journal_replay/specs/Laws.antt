-- What holds of each replay.
use Rattle.audit_model.specs.Verdicts.{IsFaultless}
use Rattle.journal_replay.specs.Replaying.{boot_of, done_by}
use Rattle.journal_replay.specs.declared.replay.Replay.{Replay}

-- the events that were done are a legal and steady history
abbrev pub ReplaysAreFaultless : Type 0
ReplaysAreFaultless = (replay : Replay) → IsFaultless (boot_of replay) (done_by replay)
