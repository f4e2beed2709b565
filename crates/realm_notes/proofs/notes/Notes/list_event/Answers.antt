use Rattle.std.proofs.Common.{◌≡◌, [], ◌∷◌, ◌++◌, None}
use Rattle.std.proofs.lemmas.Result.{IfOk-weaker}
use Rattle.realm_model.specs.Reading.{with_event}
use Rattle.realm_model.specs.declared.realm_event.RealmEvent.TheVariants.{Comes}
use Rattle.realm_notes.proofs.NotesKept.{event_noted}
use Rattle.realm_notes.specs.Noted.{AreNoted}
use Rattle.realm_notes.proofs.notes.Notes.list_event.Goals as goal

pub returns-clause-noted : goal.returns-clause-noted
returns-clause-noted c notes are =
    IfOk-weaker c.list.result (λ _. c.list.new.self.log.items ≡ c.args.self.now.log.items ++ (Comes c.args.came, None) ∷ [])
    (λ _. AreNoted c.list.new.self (with_event notes c.args.came))
    (λ done log. event_noted c.args.self.now c.list.new.self notes are c.args.came c.list.ensures.stays log)
    (rw c.in_ok-event.ensures at c.list.ensures.log)
