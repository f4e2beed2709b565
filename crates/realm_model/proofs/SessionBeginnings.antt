-- Two sessions to which the same has happened were answered the same, from their beginnings on, as their realms were: each entry of
-- a session's log tells that of its realm's.
use Rattle.std.proofs.Common.{◌≡◌, ℕ, zero, suc, ◌+◌, List, [], ◌∷◌, length, Option, Some, None, refl, ap, subst, sym, ◌∙◌}
use Rattle.std.specs.Prelude.{filter_map, map, take}
use Rattle.std.specs.List.{AllByRecursion, cons_option}
use Rattle.std.specs.Option.{option_and_then, option_map, option_map_or}
use Rattle.std.proofs.lemmas.List.{take_all}
use Rattle.event_journal.specs.declared.event.Event.{Event}
use Rattle.kernel_model.specs.Application.{Booted}
use Rattle.own_model.specs.Isolation.{SameBeginningsSameReplies, SameEventsSameReplies, first_entries}
use Rattle.own_model.specs.Own as own
use Rattle.own_model.specs.declared.own_event.OwnEvent.{OwnEvent}
use Rattle.own_model.specs.declared.own_event.OwnEvent.TheVariants as own_event
use Rattle.own_model.specs.declared.own_reply.OwnReply.{OwnReply}
use Rattle.group_model.specs.Embedding.{event_as}
use Rattle.group_model.specs.declared.group_event.GroupEvent.{GroupEvent}
use Rattle.group_model.specs.declared.group_reply.GroupReply.{GroupReply}
use Rattle.realm_model.specs.Forgetting.{forgotten, own_logged}
use Rattle.realm_model.specs.Histories.{first_happened}
use Rattle.realm_model.specs.Reading.{Logged, noted}
use Rattle.realm_model.specs.declared.realm_event.RealmEvent.{RealmEvent}
use Rattle.realm_model.specs.declared.realm_event.RealmEvent.TheVariants.{Comes, TurnedAway}
use Rattle.realm_model.specs.Realm.{OneSession}
use Rattle.realm_model.proofs.Beginnings.{first_more, same_beginnings as same_of_realms, second_more}
use Rattle.realm_model.proofs.SessionEvents.{Fits, session_log_fits}
use Rattle.realm_model.proofs.Sessions.{sessions_are_realms}

-- ---- what a session's log tells

-- an event of the session as one of its realm
abbrev as_realm : OwnEvent → RealmEvent
as_realm event = option_map_or Comes (event_as event) TurnedAway

-- the entries of both logs tell the same
record TellsTheSame (log : List Logged) (own_log : List own.Logged) : Type 0 where
  events : map (λ (logged : Logged). logged.0) log ≡ map as_realm (own.events_in own_log)
  replies : own.replies_in own_log
      ≡ map (λ (told : GroupReply). told.reply) (filter_map (λ (logged : Logged). logged.1) log)

one_more : (came : RealmEvent) (told : Option GroupReply) (event : OwnEvent) (log : List Logged) (own_log : List own.Logged)
    → as_realm event ≡ came → TellsTheSame log own_log
    → TellsTheSame ((came, told) ∷ log) ((event, option_map (λ (reply : GroupReply). reply.reply) told) ∷ own_log)
one_more came None event log own_log is rest = record {
  events = ap (λ (first : RealmEvent). first ∷ map (λ (logged : Logged). logged.0) log) (sym is)
      ∙ ap (λ (events : List RealmEvent). as_realm event ∷ events) rest.events;
  replies = rest.replies;
}
one_more came (Some reply) event log own_log is rest = record {
  events = ap (λ (first : RealmEvent). first ∷ map (λ (logged : Logged). logged.0) log) (sym is)
      ∙ ap (λ (events : List RealmEvent). as_realm event ∷ events) rest.events;
  replies = ap (λ (replies : List OwnReply). reply.reply ∷ replies) rest.replies;
}

-- as far as both go
first_told : (count : ℕ) (log : List Logged) → AllByRecursion Fits log
    → TellsTheSame (take count log) (take count (filter_map own_logged log))
first_told zero log fits = record { events = refl; replies = refl }
first_told (suc count) [] fits = record { events = refl; replies = refl }
first_told (suc count) ((TurnedAway, told) ∷ log) fits =
    one_more TurnedAway told own_event.Limited (take count log) (take count (filter_map own_logged log)) refl
    (first_told count log fits.1)
first_told (suc count) ((Comes came, told) ∷ log) fits =
    by (forgotten came) refl fits.0.0 (first_told count log fits.1)
  where
    by : (found : Option OwnEvent) → forgotten came ≡ found → option_and_then event_as found ≡ Some came
        → TellsTheSame (take count log) (take count (filter_map own_logged log))
        → TellsTheSame (take (suc count) ((Comes came, told) ∷ log))
        (take (suc count) (filter_map own_logged ((Comes came, told) ∷ log)))
    by None is back rest = absurd cc
    by (Some event) is back rest =
        subst (λ (o : Option OwnEvent). TellsTheSame (take (suc count) ((Comes came, told) ∷ log))
        (take (suc count) (cons_option
        (option_map (λ (one : OwnEvent). (one, option_map (λ (reply : GroupReply). reply.reply) told)) o)
        (filter_map own_logged log)))) (sym is)
        (one_more (Comes came) told event (take count log) (take count (filter_map own_logged log))
        (ap (λ (o : Option GroupEvent). option_map_or Comes o TurnedAway) back) rest)

-- its first entries are those of its realm's log
told_first : (boot : Booted) (history : List Event) (session count : ℕ)
    → TellsTheSame (take count (noted boot history (OneSession session)).log) (first_entries boot history session count)
told_first boot history session count =
    subst (λ (n : own.Notes). TellsTheSame (take count (noted boot history (OneSession session)).log) (take count n.log))
    (sym (sessions_are_realms.noted_so boot history session))
    (first_told count (noted boot history (OneSession session)).log (session_log_fits boot history session))

-- ---- the laws

pub same_beginnings : SameBeginningsSameReplies
same_beginnings boot another history other session number count app keys s t same =
    let one = told_first boot history session count in
    let two = told_first another other number count in
    let happened : first_happened boot history (OneSession session) count
    ≡ first_happened another other (OneSession number) count =
    one.events ∙ ap (map as_realm) same ∙ sym two.events in
    one.replies
    ∙ ap (map (λ (told : GroupReply). told.reply))
    (same_of_realms boot another history other (OneSession session) (OneSession number) count app keys s t happened)
    ∙ sym two.replies

-- as far as both logs go, that is all
pub same_events : SameEventsSameReplies
same_events boot another history other session number app keys s t same =
    let log : List own.Logged = (own.noted boot history session).log in
    let other_log : List own.Logged = (own.noted another other number).log in
    let all : take (length log + length other_log) log ≡ log =
    take_all (length log + length other_log) log (first_more (length log) (length other_log)) in
    let all_other : take (length log + length other_log) other_log ≡ other_log =
    take_all (length log + length other_log) other_log (second_more (length log) (length other_log)) in
    ap own.replies_in (sym all)
    ∙ same_beginnings boot another history other session number (length log + length other_log) app keys s t
    (ap own.events_in all ∙ same ∙ ap own.events_in (sym all_other))
    ∙ ap own.replies_in all_other
