-- The machine of a session is fed with what has happened to it.
use Rattle.std.proofs.Common.{◌≡◌, ◌∙◌, ℕ, ◌<◌, Bool, true, false, List, [], ◌∷◌, None, Some, length}
use Rattle.std.proofs.Common.{refl, sym, ap, subst, arith, get_or}
use Rattle.std.specs.Prelude.{IsSome, bytes_eq, find, if◌then◌else◌}
use Rattle.std.proofs.lemmas.Option.{option_and_then_some}
use Rattle.std.proofs.lemmas.Slice.Eq.{bytes_eq-Decides}
use Rattle.core_cases.proofs.Opened.{opened_app}
use Rattle.core_cases.specs.Feeding.{AreOfOnlyApp, BeginWithOpen, IsJournalOf}
use Rattle.event_journal.specs.declared.event.Event.{Event}
use Rattle.kernel_model.specs.Application.{Application, Native, OfImage, booted, uuid_of}
use Rattle.kernel_model.specs.History.{IsLegal}
use Rattle.kernel_model.specs.Instances.{app_of, is_single}
use Rattle.own_model.specs.Isolation.{IsSessionOf, steps_in}
use Rattle.own_model.specs.Own.{own_events}
use Rattle.own_model.specs.Solo.{unopened}
use Rattle.own_model.specs.declared.own_event.OwnEvent.{OwnEvent}
use Rattle.own_model.specs.declared.own_event.OwnEvent.TheVariants.{Open, Invoke, Close, Cancel, Seen, Back, Out, Limited}
use Rattle.solo.specs.Feeding.{CanBeFed, IsFed}
use Rattle.solo.specs.Standing.{IsSolo, app_in}
use Rattle.solo.specs.declared.solo_session.SoloSession.{SoloSession}
use Rattle.ta_isa.specs.declared.boot.App.{App}
use Rattle.ta_isa.specs.declared.boot.Boot.{Boot}

-- ---- the first event

-- the application that has this UUID is the only one
only_found : (app : App) (uuid : List ℕ) (found : Application) (is : Bool) → bytes_eq app.uuid uuid ≡ is
    → find (λ a. bytes_eq (uuid_of a) uuid) (OfImage app ∷ []) ≡ Some found → found ≡ OfImage app
only_found app uuid found true is e = cc
only_found app uuid found false is e = absurd cc

only_app : (boot : Boot) (app : App) (uuid : List ℕ) (found : Application) → boot.apps ≡ app ∷ []
    → app_of (booted boot []) uuid ≡ Some found → found ≡ OfImage app
only_app boot app uuid found only e =
    only_found app uuid found (bytes_eq app.uuid uuid) refl
    (ap (λ (apps : List App). app_of (booted (record boot { apps = apps }) []) uuid) (sym only) ∙ e)

-- it has its UUID
same_uuid : (uuid : List ℕ) → bytes_eq uuid uuid ≡ true
same_uuid uuid = (bytes_eq-Decides uuid uuid).1 refl

app_there : (boot : Boot) (natives : List Native) (history : List Event) (app : App) → IsJournalOf boot natives history
    → boot.apps ≡ app ∷ [] → IsSome (app_of (booted boot natives) app.uuid)
app_there boot natives history app journal only =
    subst (λ (none : List Native). IsSome (app_of (booted boot none) app.uuid)) (sym journal.none)
    (subst (λ (apps : List App). IsSome (app_of (booted (record boot { apps = apps }) []) app.uuid)) (sym only)
    (subst (λ b. IsSome (if b then Some (OfImage app) else None)) (sym (same_uuid app.uuid)) refl))

-- the session of events that begin with an open is of the only application
of_only : (boot : Boot) (history : List Event) (session : ℕ) (app : App) (events : List OwnEvent) → IsLegal (booted boot []) history
    → boot.apps ≡ app ∷ [] → is_single (OfImage app) ≡ false → BeginWithOpen events → own_events (booted boot []) history session ≡ events
    → IsSessionOf (booted boot []) history session (OfImage app)
of_only boot history session app [] legal only shares opens own = absurd opens
of_only boot history session app (Invoke func input area ∷ events) legal only shares opens own = absurd opens
of_only boot history session app (Close area ∷ events) legal only shares opens own = absurd opens
of_only boot history session app (Cancel ∷ events) legal only shares opens own = absurd opens
of_only boot history session app (Seen call steps ∷ events) legal only shares opens own = absurd opens
of_only boot history session app (Back call input ∷ events) legal only shares opens own = absurd opens
of_only boot history session app (Out call ∷ events) legal only shares opens own = absurd opens
of_only boot history session app (Limited ∷ events) legal only shares opens own = absurd opens
of_only boot history session app (Open params login area ∷ events) legal only shares opens own =
    let found = opened_app (booted boot []) history session params login area events legal own in record {
      legal = legal;
      of_app = found.1 ∙ ap (λ (a : Application). Some a)
          (option_and_then_some (app_of (booted boot [])) _ found.0 found.1
          (λ named named_is onward. only_app boot app named found.0 only onward));
      shares_none = shares;
    }

-- so it can be fed with them
pub fed_first : (boot : Boot) (natives : List Native) (history : List Event) (session : ℕ) (events : List OwnEvent)
    (uuid : List ℕ) (s : SoloSession) → IsJournalOf boot natives history → AreOfOnlyApp boot events
    → events ≡ own_events (booted boot natives) history session
    → ((app : Application) → IsSessionOf (booted boot natives) history session app → CanBeFed (steps_in history) app (unopened boot.key) events)
    → app_of (booted boot natives) uuid ≡ Some (app_in s) → IsSolo s (unopened boot.key) → IsFed s events
fed_first boot natives history session events uuid s journal are own feeds of is = record {
  solo = unopened boot.key;
  is = is;
  most = steps_in history;
  can = subst (λ (app : Application). CanBeFed (steps_in history) app (unopened boot.key) events) (sym same)
      (feeds (OfImage are.one.app) (subst (λ (none : List Native). IsSessionOf (booted boot none) history session (OfImage are.one.app))
      (sym journal.none)
      (of_only boot history session are.one.app events
      (subst (λ (none : List Native). IsLegal (booted boot none) history) journal.none journal.journal.legal)
      are.one.only are.one.shares_none are.opens
      (sym (own ∙ ap (λ (none : List Native). own_events (booted boot none) history session) journal.none)))));
}
  where
    same : app_in s ≡ OfImage are.one.app
    same = only_app boot are.one.app uuid (app_in s) are.one.only
        (ap (λ (none : List Native). app_of (booted boot none) uuid) (sym journal.none) ∙ of)

-- ---- at the only application

-- there is a first one
pub first_is : (boot : Boot) (events : List OwnEvent) → AreOfOnlyApp boot events → 0 < length boot.apps
first_is boot events are = subst (λ (apps : List App). 0 < length apps) (sym are.one.only) (omega arith)

-- which has its UUID
pub first_there : (boot : Boot) (natives : List Native) (history : List Event) (events : List OwnEvent) (none : App)
    → IsJournalOf boot natives history → AreOfOnlyApp boot events
    → IsSome (app_of (booted boot natives) (get_or boot.apps 0 none).uuid)
first_there boot natives history events none journal are =
    subst (λ (app : App). IsSome (app_of (booted boot natives) app.uuid))
    (sym (ap (λ (apps : List App). get_or apps 0 none) are.one.only))
    (app_there boot natives history are.one.app journal are.one.only)
