-- One session's own law is that of its realm: the machine of a session takes what that of a group does, and replies the same.
use Rattle.std.proofs.Common.{◌≡◌, ℕ, List, [], Option, Some, None, refl, ap, subst, sym, ◌∙◌, inl}
use Rattle.std.specs.Prelude.{IsSomeAnd}
use Rattle.event_journal.specs.declared.event.Event.{Event}
use Rattle.kernel_model.specs.Application.{Application, Booted}
use Rattle.kernel_model.specs.History.{kernel_after}
use Rattle.kernel_model.specs.Kernel.{first_kernel}
use Rattle.kernel_model.proofs.Parts.{option_map_some, some_of}
use Rattle.own_model.proofs.WholeHistories.{from_first}
use Rattle.own_model.specs.Isolation.{AnsweredAsAlone, IsSessionOf, steps_in}
use Rattle.own_model.specs.Own as own
use Rattle.own_model.specs.Solo.{run, solo_replies, unopened}
use Rattle.own_model.specs.declared.own_event.OwnEvent.{OwnEvent}
use Rattle.own_model.specs.declared.own_reply.OwnReply.{OwnReply}
use Rattle.group_model.proofs.EmbeddedRuns.{replies_as_a_session}
use Rattle.group_model.specs.Embedding.{OpensFirst, replies_as}
use Rattle.group_model.specs.Group.{group_machine_replies}
use Rattle.group_model.specs.declared.group_event.GroupEvent.{GroupEvent}
use Rattle.realm_model.specs.Realm.{OneSession}
use Rattle.realm_model.specs.Reading.{no_notes, noted, realm_replies}
use Rattle.realm_model.proofs.OneAnswered.{from_one, one_answered}
use Rattle.realm_model.proofs.OpensFirst.{opens_from}
use Rattle.realm_model.proofs.SessionEvents.{session_events_are_realms, session_log_fits}
use Rattle.realm_model.proofs.SessionReplies.{AreReplies, Ended, own_replies_told, replies_so}
use Rattle.realm_model.proofs.Sessions.{sessions_are_realms}

pub opens_first : (boot : Booted) (history : List Event) (member : ℕ) (app : Application) → IsSessionOf boot history member app
    → OpensFirst (own.own_events boot history member)
opens_first boot history member app s =
    let last = some_of (kernel_after boot history) s.legal.follows in
    let at = from_first boot history last.0 last.1 in
    subst OpensFirst (sym (sessions_are_realms.events boot history member))
    (opens_from boot member (steps_in history) [] (first_kernel boot) no_notes history at
    (inl (record { nothing = refl; lower = from_one boot history member app s at })) tt)

told_so : (boot : Booted) (history : List Event) (member : ℕ) (app : Application) (replies : List OwnReply)
    → solo_replies (steps_in history) app boot.key (own.own_events boot history member) ≡ Some replies
    → realm_replies boot history (OneSession member) ≡ replies_as (own.own_events boot history member) replies
    → own.own_replies boot history member ≡ replies
told_so boot history member app replies says same =
    let events : List OwnEvent = own.own_events boot history member in
    let end = option_map_some (λ (last : Ended). last.1) (run (steps_in history) app (unopened boot.key) events) replies says in
    let are : AreReplies events replies =
    subst (λ (rs : List OwnReply). AreReplies events rs) end.2
    (replies_so (steps_in history) app (unopened boot.key) end.0.0 events end.0.1 end.1) in
    ap (λ (n : own.Notes). own.replies_in n.log) (sessions_are_realms.noted_so boot history member)
    ∙ own_replies_told (noted boot history (OneSession member)).log (session_log_fits boot history member) replies
    (subst (λ (es : List OwnEvent). AreReplies es replies) (sessions_are_realms.events boot history member) are)
    (same ∙ ap (λ (es : List OwnEvent). replies_as es replies) (sessions_are_realms.events boot history member))

-- its machine answers so, and its realm was told the same
record IsAnswered (boot : Booted) (history : List Event) (member : ℕ) (app : Application) : Type 0 where
  says : solo_replies (steps_in history) app boot.key (own.own_events boot history member)
      ≡ Some (own.own_replies boot history member)
  told : realm_replies boot history (OneSession member)
      ≡ replies_as (own.own_events boot history member) (own.own_replies boot history member)

answered : (boot : Booted) (history : List Event) (member : ℕ) (app : Application) → IsSessionOf boot history member app
    → IsAnswered boot history member app
answered boot history member app s =
    by_solo (solo_replies (steps_in history) app boot.key (own.own_events boot history member)) refl
    (replies_as_a_session (steps_in history) app boot.key (own.own_events boot history member)
    (realm_replies boot history (OneSession member)) s.shares_none (opens_first boot history member app s)
    (ap (λ (events : List GroupEvent). group_machine_replies (steps_in history) app boot.key events)
    (session_events_are_realms boot history member) ∙ one_answered boot history member app s))
  where
    by_solo : (found : Option (List OwnReply))
        → solo_replies (steps_in history) app boot.key (own.own_events boot history member) ≡ found
        → IsSomeAnd found (λ (replies : List OwnReply).
        realm_replies boot history (OneSession member) ≡ replies_as (own.own_events boot history member) replies)
        → IsAnswered boot history member app
    by_solo None says same = absurd same
    by_solo (Some replies) says same =
        let told = told_so boot history member app replies says same in
        record {
          says = says ∙ ap (λ (rs : List OwnReply). Some rs) (sym told);
          told = same ∙ ap (λ (rs : List OwnReply). replies_as (own.own_events boot history member) rs) (sym told);
        }

pub alone_answered : AnsweredAsAlone
alone_answered boot history member app s = (answered boot history member app s).says

-- what its realm was told is what the session was
pub replies_are_realms : (boot : Booted) (history : List Event) (member : ℕ) (app : Application)
    → IsSessionOf boot history member app → realm_replies boot history (OneSession member)
    ≡ replies_as (own.own_events boot history member) (own.own_replies boot history member)
replies_are_realms boot history member app s = (answered boot history member app s).told
