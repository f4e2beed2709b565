-- Whoever shares an instance is answered as the machine answers.
use Rattle.std.proofs.Common.{◌≡◌, List, Some, refl, ap, subst, sym, ◌∙◌}
use Rattle.kernel_model.specs.Application.{Application}
use Rattle.own_model.specs.Isolation.{steps_in}
use Rattle.group_model.specs.Group.{group_machine_replies, nobody_there}
use Rattle.group_model.specs.Isolation.{AnsweredAsAGroup}
use Rattle.group_model.specs.declared.group_event.GroupEvent.{GroupEvent}
use Rattle.group_model.specs.declared.group_reply.GroupReply.{GroupReply}
use Rattle.realm_model.specs.Histories.{AllWithin, AnsweredAsARealm, RealmsStayWithin}
use Rattle.realm_model.specs.Reading.{noted, realm_events, realm_replies}
use Rattle.realm_model.specs.Realm.{AllSessions, OneSession}
use Rattle.realm_model.proofs.AllAnswered.{all_answered, all_within}
use Rattle.realm_model.proofs.Groups.{groups_are_realms}
use Rattle.realm_model.proofs.OneAnswered.{one_answered, one_within}

pub realms_answered : AnsweredAsARealm
realms_answered boot history (OneSession member) app of = one_answered boot history member app of
realms_answered boot history (AllSessions of) app its =
    subst (λ (a : Application). group_machine_replies (steps_in history) app boot.key
    (realm_events boot history (AllSessions a)) ≡ Some (realm_replies boot history (AllSessions a))) (sym its.0)
    (all_answered boot history app its.1)

-- within its bounds
pub realms_within : RealmsStayWithin
realms_within boot history (OneSession member) app of = one_within boot history member app of
realms_within boot history (AllSessions of) app its =
    subst (λ (a : Application). AllWithin (noted boot history (AllSessions a)).numbering.entered (steps_in history) app
    (nobody_there boot.key) (realm_events boot history (AllSessions a))) (sym its.0) (all_within boot history app its.1)

-- so a group's own law is that of its realm
pub groups_answered : AnsweredAsAGroup
groups_answered boot history app of =
    ap (λ (events : List GroupEvent). group_machine_replies (steps_in history) app boot.key events)
    (groups_are_realms.events boot history app)
    ∙ realms_answered boot history (AllSessions app) app (refl, of)
    ∙ ap (λ (replies : List GroupReply). Some replies) (sym (groups_are_realms.replies boot history app))
