-- What is shown of a realm which has all sessions of an application is what is shown of their group.
use Rattle.std.proofs.Common.{◌≡◌, ℕ, List, [], ◌∷◌, Option, Some, None, refl, ap, sym, subst, ◌∙◌, length}
use Rattle.std.specs.Prelude.{filter_map, map, IfOk, Result, Ok, Err}
use Rattle.std.specs.List.{cons_option}
use Rattle.std.specs.Option.{option_and_then, option_map_or}
use Rattle.base.specs.declared.no_memory.NoMemory.{NoMemory}
use Rattle.compare_model.specs.Comparing.{AreShownAs, IsComparedAs, Journaled, Pair, Shown, core_of, group_in, if_shared}
use Rattle.compare_model.specs.declared.compared.Compared.{Compared}
use Rattle.compare_model.specs.declared.subject.Subject.TheVariants.{Group}
use Rattle.group_model.specs.Read.{group_events, group_replies}
use Rattle.group_model.specs.declared.group_event.GroupEvent.{GroupEvent}
use Rattle.group_model.specs.declared.group_reply.GroupReply.{GroupReply}
use Rattle.journal_notes.specs.Logs.{replies_in}
use Rattle.kernel_model.specs.Application.{Application, Booted}
use Rattle.kernel_model.specs.Instances.{app_of}
use Rattle.realm_model.proofs.Groups.{groups_are_realms}
use Rattle.realm_model.specs.Reading.{Logged, noted, of_machine}
use Rattle.realm_model.specs.Realm.{AllSessions}
use Rattle.realm_model.specs.declared.realm_event.RealmEvent.{RealmEvent}
use Rattle.realm_model.specs.declared.realm_event.RealmEvent.TheVariants.{Comes, TurnedAway}
use Rattle.realm_notes.proofs.NoneTurnedAway.{AreMachines, none_turned_away}
use Rattle.session_compare.proofs.Told.{IsToldBy, shown_so}
use Rattle.session_compare.specs.Realms.{shown_by}

abbrev word : GroupEvent → RealmEvent
word came = Comes came

abbrev back : RealmEvent → Option GroupEvent
back (Comes came) = Some came
back TurnedAway = None

abbrev Item : Type 0
Item = GroupEvent × Option GroupReply

-- each event of the log is the machine's
events_told : (log : List Logged) → AreMachines log
    → map (λ (logged : Logged). logged.0) log ≡ map word (map (λ (item : Item). item.0) (filter_map of_machine log))
events_told [] all = refl
events_told ((Comes came, told) ∷ log) all = ap (λ (events : List RealmEvent). Comes came ∷ events) (events_told log all.1)
events_told ((TurnedAway, told) ∷ log) all = absurd all.0

replies_told : (log : List Logged) → AreMachines log
    → replies_in log ≡ filter_map (λ (item : Item). item.1) (filter_map of_machine log)
replies_told [] all = refl
replies_told ((Comes came, told) ∷ log) all = ap (λ (replies : List GroupReply). cons_option told replies) (replies_told log all.1)
replies_told ((TurnedAway, told) ∷ log) all = absurd all.0

module _ (pair : Pair) (uuid : List ℕ) (journal : Journaled) (app : Application) (there : app_of (core_of pair journal) uuid ≡ Some app) where
  abbrev boot : Booted
  boot = core_of pair journal

  abbrev all : AreMachines (noted boot journal.events (AllSessions app)).log
  all = none_turned_away app boot journal.events

  -- of the group of this application, if there is one
  abbrev shown_of : Option Application → Shown GroupEvent GroupReply
  shown_of found = record {
    app = option_and_then if_shared found;
    events = option_map_or (group_events boot journal.events) found [];
    replies = option_map_or (group_replies boot journal.events) found [];
  }

  told_some : IsToldBy word (shown_by boot journal.events (AllSessions app)) (shown_of (Some app))
  told_some = record {
    app = refl;
    events = events_told (noted boot journal.events (AllSessions app)).log all
        ∙ ap (map word) (sym (groups_are_realms.events boot journal.events app));
    replies = ap length (replies_told (noted boot journal.events (AllSessions app)).log all
        ∙ sym (groups_are_realms.replies boot journal.events app));
  }

  told_so : IsToldBy word (shown_by boot journal.events (AllSessions app)) (group_in pair uuid journal)
  told_so = subst (λ (found : Option Application). IsToldBy word (shown_by boot journal.events (AllSessions app)) (shown_of found))
      (sym there) told_some

-- so two journals compare alike
pub group_compared : (pair : Pair) (uuid : List ℕ) (app other : Application) → app_of (core_of pair pair.one) uuid ≡ Some app
    → app_of (core_of pair pair.two) uuid ≡ Some other → (result : Result Compared NoMemory)
    → IfOk result (AreShownAs pair (shown_by (core_of pair pair.one) pair.one.events (AllSessions app))
    (shown_by (core_of pair pair.two) pair.two.events (AllSessions other)))
    → IfOk result (IsComparedAs pair (Group uuid))
group_compared pair uuid app other there there_too (Ok compared) is =
    shown_so word back (λ event. refl) pair _ _ _ _ (told_so pair uuid pair.one app there) (told_so pair uuid pair.two other there_too)
    compared is
group_compared pair uuid app other there there_too (Err error) is = tt
