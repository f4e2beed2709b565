-- One law, in the words that name no application of a realm: it follows from that of realms.
use Rattle.std.proofs.Common.{◌≡◌, ℕ, Bool, true, false, List, Option, Some, None, refl, ap, subst, sym, ◌∙◌}
use Rattle.std.specs.Prelude.{◌++◌, IsSome}
use Rattle.base.specs.NumberMap.{get}
use Rattle.event_journal.specs.declared.event.Event.{Event}
use Rattle.kernel_model.specs.Application.{Application, Booted}
use Rattle.kernel_model.specs.History.{IsLegal, kernel_after}
use Rattle.kernel_model.specs.Instances.{app_of, is_single}
use Rattle.kernel_model.specs.Kernel.{Kernel}
use Rattle.own_model.proofs.Lookups.{app_named}
use Rattle.own_model.specs.Isolation.{steps_in}
use Rattle.group_model.specs.Group.{group_machine_replies}
use Rattle.group_model.specs.Isolation.{IsGroupOf}
use Rattle.group_model.specs.Read.{noted}
use Rattle.group_model.specs.declared.group_event.GroupEvent.{GroupEvent}
use Rattle.group_model.specs.declared.group_reply.GroupReply.{GroupReply}
use Rattle.group_model.specs.OneLaw.{AllSessions, AnsweredAsARealm, HasRealm, IsIn, IsKept, IsRealmOf}
use Rattle.group_model.specs.OneLaw.{KeptSessionsHaveRealms, OneSession, Realm}
use Rattle.group_model.specs.OneLaw.{SameRealmEventsSameReplies, realm_events, realm_replies}
use Rattle.realm_model.specs.Histories as histories
use Rattle.realm_model.specs.Reading as reading
use Rattle.realm_model.specs.Realm as realms
use Rattle.realm_model.proofs.AloneAnswered.{replies_are_realms}
use Rattle.realm_model.proofs.Answered.{realms_answered}
use Rattle.realm_model.proofs.GroupMembers.{kept_of_group}
use Rattle.realm_model.proofs.Groups.{groups_are_realms}
use Rattle.realm_model.proofs.SessionEvents.{session_events_are_realms}
use Rattle.realm_model.proofs.SessionsKnown.{kept_sessions_known}
use Rattle.realm_model.proofs.TwoWorlds.{same_realm_replies as same_of_realms}

-- ---- the same realm, with its application

abbrev with_app : Realm → Application → realms.Realm
with_app (OneSession session) app = realms.OneSession session
with_app AllSessions app = realms.AllSessions app

is_so : (boot : Booted) (history : List Event) (realm : Realm) (app : Application) → IsRealmOf boot history realm app
    → histories.IsRealmOf boot history (with_app realm app) app
is_so boot history (OneSession session) app s = s
is_so boot history AllSessions app g = (refl, g)

events_so : (boot : Booted) (history : List Event) (realm : Realm) (app : Application)
    → realm_events boot history realm app ≡ reading.realm_events boot history (with_app realm app)
events_so boot history (OneSession session) app = session_events_are_realms boot history session
events_so boot history AllSessions app = groups_are_realms.events boot history app

replies_so : (boot : Booted) (history : List Event) (realm : Realm) (app : Application) → IsRealmOf boot history realm app
    → realm_replies boot history realm app ≡ reading.realm_replies boot history (with_app realm app)
replies_so boot history (OneSession session) app s = sym (replies_are_realms boot history session app s)
replies_so boot history AllSessions app g = groups_are_realms.replies boot history app

-- ---- the law

pub answered_as_a_realm : AnsweredAsARealm
answered_as_a_realm boot history realm app is =
    ap (λ (events : List GroupEvent). group_machine_replies (steps_in history) app boot.key events)
    (events_so boot history realm app)
    ∙ realms_answered boot history (with_app realm app) app (is_so boot history realm app is)
    ∙ ap (λ (replies : List GroupReply). Some replies) (sym (replies_so boot history realm app is))

pub same_realm_replies : SameRealmEventsSameReplies
same_realm_replies boot another history other realm second app keys is more same =
    replies_so boot history realm app is
    ∙ same_of_realms boot another history other (with_app realm app) (with_app second app) app keys
    (is_so boot history realm app is) (is_so another other second app more)
    (sym (events_so boot history realm app) ∙ same ∙ events_so another other second app)
    ∙ sym (replies_so another other second app more)

-- ---- the sessions that this is about

kept_so : (boot : Booted) (history : List Event) (kernel : Kernel) (session : ℕ) (app : Application) → IsLegal boot history
    → kernel_after boot history ≡ Some kernel → IsKept boot kernel session app
    → (single : Bool) → is_single app ≡ single → HasRealm boot history session app
kept_so boot history kernel session app legal there k false alone = record {
  realm = OneSession session;
  is = record {
    legal = legal;
    of_app = kept_sessions_known.known boot history kernel session app there
        (record { kept = k.kept; there = k.there; instance = k.instance; has = k.has; of_app = k.of_app; shares_none = alone });
    shares_none = alone;
  };
  has = refl;
}
kept_so boot history kernel session app legal there k true shares = record {
  realm = AllSessions;
  is = record {
    legal = legal;
    has = ap (λ (uuid : List ℕ). app_of boot uuid) (app_named boot k.instance.uuid app k.of_app) ∙ k.of_app;
    shares = shares;
  };
  has = kept_of_group.known boot history kernel session app there
      (record { kept = k.kept; there = k.there; instance = k.instance; has = k.has; of_app = k.of_app; shares = shares });
}

stays_so : (boot : Booted) (history more : List Event) (session : ℕ) (realm : Realm) (app : Application)
    → IsLegal boot (history ++ more) → IsRealmOf boot history realm app → IsIn boot history session realm app
    → IsRealmOf boot (history ++ more) realm app × IsIn boot (history ++ more) session realm app
stays_so boot history more session (OneSession number) app legal s is = (
  record {
    legal = legal;
    of_app = kept_sessions_known.stays boot history more number app legal s.of_app;
    shares_none = s.shares_none;
  },
  is,
)
stays_so boot history more session AllSessions app legal g has = (now, by_number (get (noted boot history app).sessions session) refl)
  where
    now : IsGroupOf boot (history ++ more) app
    now = record { legal = legal; has = g.has; shares = g.shares }

    by_number : (found : Option ℕ) → get (noted boot history app).sessions session ≡ found
        → IsSome (get (noted boot (history ++ more) app).sessions session)
    by_number None none =
        let no : IsSome {T = ℕ} None = subst (IsSome {T = ℕ}) none has in absurd cc
    by_number (Some number) is =
        subst (IsSome {T = ℕ}) (sym (kept_of_group.stays boot history more session number app now is)) refl

pub kept_sessions_have_realms : KeptSessionsHaveRealms
kept_sessions_have_realms = record {
  known = λ boot history kernel session app legal there k.
      kept_so boot history kernel session app legal there k (is_single app) refl;
  stays = stays_so;
}
