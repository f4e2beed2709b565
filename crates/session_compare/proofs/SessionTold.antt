-- What is shown of a realm which has one session is what is shown of that session.
use Rattle.std.proofs.Common.{◌≡◌, ℕ, List, [], ◌∷◌, Option, Some, None, refl, ap, sym, ◌∙◌, length, suc}
use Rattle.std.specs.Prelude.{filter_map, map, IfOk, Result, Ok, Err}
use Rattle.std.specs.List.{AllByRecursion, cons_option}
use Rattle.std.specs.Option.{option_and_then, option_map, option_map_or}
use Rattle.base.specs.declared.no_memory.NoMemory.{NoMemory}
use Rattle.compare_model.specs.Comparing.{AreShownAs, IsComparedAs, Journaled, Pair, core_of, session_in, unless_shared}
use Rattle.compare_model.specs.declared.compared.Compared.{Compared}
use Rattle.compare_model.specs.declared.subject.Subject.TheVariants.{Session}
use Rattle.group_model.specs.Embedding.{event_as}
use Rattle.group_model.specs.declared.group_event.GroupEvent.{GroupEvent}
use Rattle.group_model.specs.declared.group_reply.GroupReply.{GroupReply}
use Rattle.journal_notes.specs.Logs.{replies_in}
use Rattle.kernel_model.specs.Application.{Booted}
use Rattle.kernel_model.specs.Instances.{app_of}
use Rattle.own_model.specs.Own as own
use Rattle.own_model.specs.declared.own_event.OwnEvent.{OwnEvent}
use Rattle.own_model.specs.declared.own_event.OwnEvent.TheVariants.{Back, Cancel, Close, Invoke, Limited, Open, Out, Seen}
use Rattle.realm_model.proofs.SessionEvents.{Fits, IsTheSame, session_log_fits}
use Rattle.realm_model.proofs.Sessions.{sessions_are_realms}
use Rattle.realm_model.specs.Forgetting.{forgotten, own_event_of, own_logged}
use Rattle.realm_model.specs.Reading.{Logged, noted}
use Rattle.realm_model.specs.Realm.{OneSession}
use Rattle.realm_model.specs.declared.realm_event.RealmEvent.{RealmEvent}
use Rattle.realm_model.specs.declared.realm_event.RealmEvent.TheVariants.{Comes, TurnedAway}
use Rattle.session_compare.proofs.Told.{IsToldBy, shown_so}
use Rattle.session_compare.specs.Realms.{shown_by}

-- the event of the realm that an event of its session is
abbrev word : OwnEvent → RealmEvent
word event = option_map_or (λ came. Comes came) (event_as event) TurnedAway

gives_back : (event : OwnEvent) → own_event_of (word event) ≡ Some event
gives_back (Open params login area) = refl
gives_back (Invoke func input area) = refl
gives_back (Close area) = refl
gives_back Cancel = refl
gives_back (Seen call steps) = refl
gives_back (Back call input) = refl
gives_back (Out call) = refl
gives_back Limited = refl

-- each event of the realm is one
record IsWord (came : RealmEvent) : Type 0 where
  event : OwnEvent
  is : own_event_of came ≡ Some event
  says : came ≡ word event

by_forgotten : (came : GroupEvent) (o : Option OwnEvent) → forgotten came ≡ o → option_and_then event_as o ≡ Some came → IsWord (Comes came)
by_forgotten came None is same = absurd cc
by_forgotten came (Some event) is same = record {
  event = event;
  is = is;
  says = ap (λ (o : Option GroupEvent). option_map_or (λ c. Comes c) o TurnedAway) (sym same);
}

is_word : (came : RealmEvent) (told : Option GroupReply) → IsTheSame came told → IsWord came
is_word (Comes came) told same =
    by_forgotten came (forgotten came) refl same
is_word TurnedAway told same = record { event = Limited; is = refl; says = refl }

-- the events of the log, and its replies, one for one
events_told : (log : List Logged) → AllByRecursion Fits log
    → map (λ (logged : Logged). logged.0) log ≡ map word (filter_map own_event_of (map (λ (logged : Logged). logged.0) log))
events_told [] all = refl
events_told (logged ∷ log) all =
    let one = is_word logged.0 logged.1 all.0.0 in
    let rest = filter_map own_event_of (map (λ (it : Logged). it.0) log) in
    ap (λ (event : RealmEvent). event ∷ map (λ (it : Logged). it.0) log) one.says
    ∙ ap (λ (events : List RealmEvent). word one.event ∷ events) (events_told log all.1)
    ∙ ap (λ (o : Option OwnEvent). map word (cons_option o rest)) (sym one.is)

replies_told : (log : List Logged) → AllByRecursion Fits log → length (replies_in log) ≡ length (replies_in (filter_map own_logged log))
replies_told [] all = refl
replies_told (logged ∷ log) all =
    let one = is_word logged.0 logged.1 all.0.0 in
    let rest = filter_map own_logged log in
    by_reply logged.1 one.event (replies_told log all.1)
    ∙ ap (λ (o : Option OwnEvent). length (replies_in (cons_option
    (option_map (λ came. (came, option_map (λ (told : GroupReply). told.reply) logged.1)) o) rest))) (sym one.is)
  where
    by_reply : (told : Option GroupReply) (event : OwnEvent)
        → length (replies_in log) ≡ length (replies_in (filter_map own_logged log))
        → length (cons_option told (replies_in log))
        ≡ length (replies_in ((event, option_map (λ (reply : GroupReply). reply.reply) told) ∷ filter_map own_logged log))
    by_reply None event same = same
    by_reply (Some reply) event same = ap suc same

module _ (pair : Pair) (session : ℕ) (journal : Journaled) where
  abbrev boot : Booted
  boot = core_of pair journal

  abbrev fits : AllByRecursion Fits (noted boot journal.events (OneSession session)).log
  fits = session_log_fits boot journal.events session

  told_so : IsToldBy word (shown_by boot journal.events (OneSession session)) (session_in pair session journal)
  told_so = record {
    app = ap (λ (n : own.Notes). option_and_then unless_shared (option_and_then (app_of boot) n.uuid))
        (sym (sessions_are_realms.noted_so boot journal.events session));
    events = events_told (noted boot journal.events (OneSession session)).log fits
        ∙ ap (map word) (sym (sessions_are_realms.events boot journal.events session));
    replies = replies_told (noted boot journal.events (OneSession session)).log fits
        ∙ ap (λ (n : own.Notes). length (replies_in n.log)) (sym (sessions_are_realms.noted_so boot journal.events session));
  }

-- so two journals compare alike
pub session_compared : (pair : Pair) (session : ℕ) (result : Result Compared NoMemory)
    → IfOk result (AreShownAs pair (shown_by (core_of pair pair.one) pair.one.events (OneSession session))
    (shown_by (core_of pair pair.two) pair.two.events (OneSession session)))
    → IfOk result (IsComparedAs pair (Session session))
session_compared pair session (Ok compared) is =
    shown_so word own_event_of gives_back pair _ _ _ _ (told_so pair session pair.one) (told_so pair session pair.two) compared is
session_compared pair session (Err error) is = tt
