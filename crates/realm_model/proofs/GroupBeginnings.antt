-- Two groups to which the same has happened were answered the same, from their beginnings on, as their realms were.
use Rattle.std.proofs.Common.{◌≡◌, ℕ, zero, suc, ◌+◌, List, [], ◌∷◌, length, Some, refl, ap, subst, sym, ◌∙◌}
use Rattle.std.specs.Prelude.{filter_map, map, take}
use Rattle.std.specs.List.{cons_option}
use Rattle.std.proofs.lemmas.List.{take_all}
use Rattle.event_journal.specs.declared.event.Event.{Event}
use Rattle.kernel_model.specs.Application.{Application, Booted}
use Rattle.own_model.specs.Isolation.{steps_in}
use Rattle.group_model.specs.Group.{Group, nobody_there, run}
use Rattle.group_model.specs.Isolation.{SameGroupBeginningsSameReplies, SameGroupEventsSameReplies, first_entries}
use Rattle.group_model.specs.Laws as group
use Rattle.group_model.specs.Read as read
use Rattle.group_model.specs.declared.group_reply.GroupReply.{GroupReply}
use Rattle.realm_model.specs.Reading.{Logged, noted, of_machine}
use Rattle.realm_model.specs.declared.realm_event.RealmEvent.{RealmEvent}
use Rattle.realm_model.specs.declared.realm_event.RealmEvent.TheVariants.{Comes, TurnedAway}
use Rattle.realm_model.specs.Realm.{AllSessions}
use Rattle.realm_model.proofs.Beginnings.{AreTold, Tells, both_tell, events_of, first_more, logs_told, replies_of, second_more, two_tell}
use Rattle.realm_model.proofs.Groups.{groups_are_realms}

-- ---- a group's log as one of its realm

abbrev as_logged : read.Logged → Logged
as_logged logged = (Comes logged.0, logged.1)

-- the machine has all of it
all_of_machine : (log : List read.Logged) → filter_map of_machine (map as_logged log) ≡ log
all_of_machine [] = refl
all_of_machine (logged ∷ log) = ap (λ (rest : List read.Logged). logged ∷ rest) (all_of_machine log)

-- its first entries tell the same
first_events : (count : ℕ) (log : List read.Logged)
    → events_of (take count (map as_logged log)) ≡ map Comes (group.events_in (take count log))
first_events zero log = refl
first_events (suc count) [] = refl
first_events (suc count) (logged ∷ log) = ap (λ (rest : List RealmEvent). Comes logged.0 ∷ rest) (first_events count log)

first_replies : (count : ℕ) (log : List read.Logged)
    → replies_of (take count (map as_logged log)) ≡ group.replies_in (take count log)
first_replies zero log = refl
first_replies (suc count) [] = refl
first_replies (suc count) (logged ∷ log) =
    ap (λ (rest : List GroupReply). cons_option logged.1 rest) (first_replies count log)

-- what the machine has of a log is told as the log is
told_so : (log : List Logged) → AreTold log → AreTold (map as_logged (filter_map of_machine log))
told_so [] told = tt
told_so ((Comes came, reply) ∷ log) told = (told.0, told_so log told.1)
told_so ((TurnedAway, reply) ∷ log) told = told_so log told.1

tells_so : (most : ℕ) (app : Application) (g : Group) (log : List Logged) → Tells most app g log
    → Tells most app g (map as_logged (filter_map of_machine log))
tells_so most app g log tells = (
  tells.0,
  subst (λ (items : List read.Logged). run most app g (map (λ (item : read.Logged). item.0) items)
      ≡ Some (tells.0, filter_map (λ (item : read.Logged). item.1) items)) (sym (all_of_machine (filter_map of_machine log))) tells.1,
)

-- ---- the laws

-- a group's first entries, off its realm's log
entries_so : (boot : Booted) (history : List Event) (app : Application) (count : ℕ)
    → first_entries boot history app count ≡ take count (filter_map of_machine (noted boot history (AllSessions app)).log)
entries_so boot history app count = ap (λ (n : read.Notes). take count n.log) (groups_are_realms.noted_so boot history app)

pub same_beginnings : SameGroupBeginningsSameReplies
same_beginnings boot another history other count app keys s t same =
    let log : List Logged = (noted boot history (AllSessions app)).log in
    let other_log : List Logged = (noted another other (AllSessions app)).log in
    let most : ℕ = steps_in history + steps_in other in
    let tell = two_tell boot another history other (AllSessions app) (AllSessions app) app keys (refl, s) (refl, t) in
    let events : group.events_in (take count (filter_map of_machine log))
    ≡ group.events_in (take count (filter_map of_machine other_log)) =
    ap group.events_in (sym (entries_so boot history app count)) ∙ same ∙ ap group.events_in (entries_so another other app count) in
    ap group.replies_in (entries_so boot history app count)
    ∙ sym (first_replies count (filter_map of_machine log))
    ∙ both_tell most app (nobody_there boot.key) count (map as_logged (filter_map of_machine log))
    (map as_logged (filter_map of_machine other_log))
    (told_so log (logs_told boot history (AllSessions app))) (told_so other_log (logs_told another other (AllSessions app)))
    (tells_so most app (nobody_there boot.key) log tell.0) (tells_so most app (nobody_there boot.key) other_log tell.1)
    (first_events count (filter_map of_machine log) ∙ ap (map Comes) events
    ∙ sym (first_events count (filter_map of_machine other_log)))
    ∙ first_replies count (filter_map of_machine other_log)
    ∙ ap group.replies_in (sym (entries_so another other app count))

-- as far as both logs go, that is all
pub same_events : SameGroupEventsSameReplies
same_events boot another history other app keys s t same =
    let log : List read.Logged = (read.noted boot history app).log in
    let other_log : List read.Logged = (read.noted another other app).log in
    let all : take (length log + length other_log) log ≡ log =
    take_all (length log + length other_log) log (first_more (length log) (length other_log)) in
    let all_other : take (length log + length other_log) other_log ≡ other_log =
    take_all (length log + length other_log) other_log (second_more (length log) (length other_log)) in
    ap group.replies_in (sym all)
    ∙ same_beginnings boot another history other (length log + length other_log) app keys s t
    (ap group.events_in all ∙ same ∙ ap group.events_in (sym all_other))
    ∙ ap group.replies_in all_other
