-- What a journal that can be done again begins.
use Rattle.std.proofs.Common.{List, [], sym, subst}
use Rattle.std.proofs.lemmas.List.{append-nil}
use Rattle.audit_model.specs.Verdicts.{CanBegin, IsFaultless}
use Rattle.event_journal.specs.declared.event.Event.{Event}
use Rattle.kernel_model.specs.Application.{Booted}
use Rattle.realm_notes.specs.Journals.{IsJournal}

pub journal_can_begin : (boot : Booted) (events : List Event) → IsJournal boot events → CanBegin boot events
journal_can_begin boot events journal = record {
  more = [];
  faultless = subst (IsFaultless boot) (sym (append-nil events)) (record { legal = journal.legal; steady = journal.agree });
}
