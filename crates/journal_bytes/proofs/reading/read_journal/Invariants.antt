use Rattle.std.proofs.Common.{◌≤◌, ◌+◌, ◌-◌, ◌^◌, length, drop}
use Rattle.event_journal.specs.Journal.{copied_bytes}
use Rattle.journal_bytes.specs.Recording.{HasNoItem, nothing, journal_so_far}
use Rattle.journal_bytes.specs.Grammar.{Leads}
use Rattle.journal_bytes.proofs.reading.read_journal.Given as goal

abbrev pub invariant-records : goal.invariant-records
invariant-records l = record {
  some : 1 ≤ l.place;
  so_far : Leads l.natives nothing (drop 4 l.bytes) (l.place - 1) (journal_so_far l.recording) l.rest;
  header : HasNoItem l.recording;
  few : l.place + length l.rest ≤ length l.bytes + 1;
  covered : copied_bytes l.recording.events.events + length l.rest ≤ 2 ^ 28;
}

abbrev pub decreases-records : goal.decreases-records
decreases-records l = length l.rest
