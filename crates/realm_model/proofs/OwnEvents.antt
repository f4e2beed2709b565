-- What has happened to a session of a legal history could all come, one after the other: its open first, and the rest since the
-- machine of its realm takes it.
use Rattle.std.proofs.Common.{List, ap, ◌∙◌}
use Rattle.kernel_model.proofs.Parts.{option_map_some}
use Rattle.own_model.specs.Isolation.{steps_in}
use Rattle.own_model.specs.Own.{own_events}
use Rattle.group_model.proofs.EmbeddedRuns.{first_can}
use Rattle.group_model.proofs.MoreSteps.{Ended}
use Rattle.group_model.specs.Group.{nobody_there, run}
use Rattle.group_model.specs.OneLaw.{OwnEventsCanCome}
use Rattle.group_model.specs.declared.group_event.GroupEvent.{GroupEvent}
use Rattle.realm_model.specs.Reading.{realm_events, realm_replies}
use Rattle.realm_model.specs.Realm.{OneSession}
use Rattle.realm_model.proofs.AloneAnswered.{opens_first}
use Rattle.realm_model.proofs.OneAnswered.{one_answered}
use Rattle.realm_model.proofs.SessionEvents.{session_events_are_realms}

pub own_events_can_come : OwnEventsCanCome
own_events_can_come boot history session app s =
    let end = option_map_some (λ (last : Ended). last.1)
    (run (steps_in history) app (nobody_there boot.key) (realm_events boot history (OneSession session)))
    (realm_replies boot history (OneSession session)) (one_answered boot history session app s) in
    first_can (steps_in history) app boot.key (own_events boot history session) end.0 s.shares_none
    (opens_first boot history session app s)
    (ap (λ (events : List GroupEvent). run (steps_in history) app (nobody_there boot.key) events)
    (session_events_are_realms boot history session) ∙ end.1)
