-- All sessions of an application are answered as their machine: each new call of theirs comes as it may.
use Rattle.std.proofs.Common.{◌≡◌, List, [], Option, Some, refl, ap, subst, sym, ◌∙◌}
use Rattle.std.specs.Option.{option_map}
use Rattle.event_journal.specs.declared.event.Event.{Event}
use Rattle.kernel_model.specs.Application.{Application, Booted}
use Rattle.kernel_model.specs.History.{kernel_after}
use Rattle.kernel_model.specs.Kernel.{Kernel, first_kernel}
use Rattle.kernel_model.proofs.Parts.{some_of}
use Rattle.own_model.proofs.WholeHistories.{from_first}
use Rattle.own_model.specs.Isolation.{steps_in}
use Rattle.group_model.proofs.InOrder.{stays_in_order}
use Rattle.group_model.specs.Group.{Group, group_machine_replies, nobody_there, run}
use Rattle.group_model.specs.Isolation.{IsGroupOf}
use Rattle.realm_model.specs.Histories.{AllWithin}
use Rattle.realm_model.specs.Laws.{About, events_in, replies_in}
use Rattle.realm_model.specs.Reading.{Logged, Notes, no_notes, noted, realm_events, realm_replies}
use Rattle.realm_model.specs.Realm.{AllSessions}
use Rattle.realm_model.proofs.Along.{Course, Ended, EndsTied, RunsAlong, tied_on}
use Rattle.realm_model.proofs.Boots.{boots_tied}

-- nothing more has to be known
abbrev Nothing : List Event → List Event → Kernel → Notes → Group → Type 0
Nothing past events kernel notes g = Unit {0}

abbrev all_of : List Event → Booted → Application → About
all_of history boot app =
    record { members = record { realm = AllSessions app; app = app }; most = steps_in history; key = boot.key }

any_course : (boot : Booted) (history : List Event) (app : Application) → Course boot (all_of history boot app) Nothing
any_course boot history app = record {
  comes = λ past events kernel happened notes g known at on cpu steps slot regs reads now came is new inside there noted. tt;
  stays = λ past events kernel happened notes g known at on goes. tt;
}

-- the machine runs along with a whole history
abbrev pub RunsAll : Booted → List Event → Application → Kernel → Type 0
RunsAll boot history app last =
    RunsAlong (steps_in history) app (EndsTied (all_of history boot app) Nothing last) no_notes (nobody_there boot.key)
    (noted boot history (AllSessions app))

pub all_run : (boot : Booted) (history : List Event) (app : Application) (last : Kernel) → IsGroupOf boot history app
    → kernel_after boot history ≡ Some last → RunsAll boot history app last
all_run boot history app last of there =
    let about : About = all_of history boot app in
    tied_on boot about Nothing (any_course boot history app) (record { of_boot = of.has; shares = (of.shares, refl) }) refl last
    [] (first_kernel boot) no_notes (nobody_there boot.key) history (stays_in_order.first boot.key) tt (boots_tied boot about)
    (from_first boot history last there) there

pub runs_all : (boot : Booted) (history : List Event) (app : Application) → IsGroupOf boot history app
    → (last : Group) × (run (steps_in history) app (nobody_there boot.key) (realm_events boot history (AllSessions app))
    ≡ Some (last, realm_replies boot history (AllSessions app)))
runs_all boot history app of =
    let last = some_of (kernel_after boot history) of.legal.follows in
    let runs = all_run boot history app last.0 of last.1 in (
      runs.then,
      ap (λ (log : List Logged). run (steps_in history) app (nobody_there boot.key) (events_in log)) runs.logged
          ∙ runs.replies ∙ ap (λ (log : List Logged). Some (runs.then, replies_in log)) (sym runs.logged),
    )

pub all_answered : (boot : Booted) (history : List Event) (app : Application) → IsGroupOf boot history app
    → group_machine_replies (steps_in history) app boot.key (realm_events boot history (AllSessions app))
    ≡ Some (realm_replies boot history (AllSessions app))
all_answered boot history app of =
    ap (λ (o : Option Ended). option_map (λ (end : Ended). end.1) o) (runs_all boot history app of).1

pub all_within : (boot : Booted) (history : List Event) (app : Application) → IsGroupOf boot history app
    → AllWithin (noted boot history (AllSessions app)).numbering.entered (steps_in history) app (nobody_there boot.key)
    (realm_events boot history (AllSessions app))
all_within boot history app of =
    let last = some_of (kernel_after boot history) of.legal.follows in
    let runs = all_run boot history app last.0 of last.1 in
    subst (λ (log : List Logged). AllWithin (noted boot history (AllSessions app)).numbering.entered (steps_in history) app
    (nobody_there boot.key) (events_in log)) (sym runs.logged) runs.within
