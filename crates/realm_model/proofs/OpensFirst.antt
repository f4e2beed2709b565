-- Of the events of a session only the first may be its open.
use Rattle.std.proofs.Common.{◌≡◌, ℕ, ◌<◌, ◌≤◌, Bool, true, false, List, [], ◌∷◌, ◌++◌, Option, Some, None, refl, ap, subst, sym}
use Rattle.std.proofs.Common.{◌∙◌, arith, ◌⊎◌, inl, inr}
use Rattle.std.specs.Prelude.{◌==◌, All, filter_map, if◌then◌else◌, is_some, map}
use Rattle.std.specs.List.{cons_option}
use Rattle.std.specs.Option.{option_and_then, option_map}
use Rattle.std.proofs.lemmas.List.{map-append}
use Rattle.std.proofs.lemmas.List.Elements.{All-append, All-cons, All-nil, filter_map-append}
use Rattle.event_journal.specs.declared.event.Event.{Event}
use Rattle.job_model.specs.declared.call_kind.CallKind.{CallKind}
use Rattle.job_model.specs.declared.call_kind.CallKind.TheVariants as kind
use Rattle.ta_params.specs.declared.call_result.CallResult.{CallResult}
use Rattle.kernel_model.specs.Application.{Booted}
use Rattle.kernel_model.specs.History.{after_event}
use Rattle.kernel_model.specs.Kernel.{ACancel, AnInvoke, AnOpen, Asks, CallPhase, Ends, Kernel}
use Rattle.kernel_model.specs.Kernel.{PendingCall, Runs, SettledCall, Tables, Untold, Waits}
use Rattle.kernel_model.proofs.SoundNumbers.{numbered as in_numbers, numbers_rise}
use Rattle.own_model.proofs.BelowNumbers.{below_numbers}
use Rattle.own_model.proofs.WholeHistories.{IsAt, IsOn, on_from}
use Rattle.own_model.specs.Own as own
use Rattle.own_model.specs.declared.own_event.OwnEvent.{OwnEvent}
use Rattle.own_model.specs.declared.own_event.OwnEvent.TheVariants as own_event
use Rattle.own_model.specs.declared.own_event.OwnInput.TheVariants.{Copied, Faulty, Unread}
use Rattle.group_model.specs.Embedding.{IsNoOpen, OpensFirst}
use Rattle.group_model.specs.Read.{invoke_event}
use Rattle.group_model.specs.declared.group_event.GroupEvent.{GroupEvent}
use Rattle.group_model.specs.declared.group_event.GroupEvent.TheVariants.{Back, Cancel, Close, Invoke, Open, Out, Room, Seen}
use Rattle.realm_model.specs.Realm.{OneSession}
use Rattle.realm_model.specs.Reading.{Logged, Notes, event_noted, event_of, noted_from}
use Rattle.realm_model.specs.declared.realm_event.RealmEvent.{RealmEvent}
use Rattle.realm_model.specs.declared.realm_event.RealmEvent.TheVariants.{Comes, TurnedAway}
use Rattle.realm_model.specs.Reading.{settled_event, settled_event_in, with_event}
use Rattle.realm_model.specs.Forgetting.{own_event_of, own_part}
use Rattle.realm_model.proofs.Along.{goes_from}
use Rattle.realm_model.proofs.EarlyEvents.{EarlyNext, NowNameless, NowOpen, StillEarly, early_next}
use Rattle.realm_model.proofs.NotesStay.{IsNoOpening, behind_event}
use Rattle.realm_model.proofs.OneAnswered.{IsEarly, never_opens, same_noted}
use Rattle.realm_model.proofs.SessionEvents.{log_stays}
use Rattle.realm_model.proofs.Sessions.{events_forgotten, happened_same}

-- ---- a log

abbrev pub events_noted : List Logged → List OwnEvent
events_noted log = filter_map own_event_of (map (λ (logged : Logged). logged.0) log)

abbrev IfNoOpen : Option OwnEvent → Type 0
IfNoOpen None = Unit {0}
IfNoOpen (Some event) = IsNoOpen event

one_first : (event : OwnEvent) → OpensFirst (event ∷ [])
one_first (own_event.Open params login area) = All-nil IsNoOpen
one_first (own_event.Invoke func input area) = All-nil IsNoOpen
one_first (own_event.Close area) = All-nil IsNoOpen
one_first own_event.Cancel = All-nil IsNoOpen
one_first (own_event.Seen number done_by_now) = All-nil IsNoOpen
one_first (own_event.Back number input) = All-nil IsNoOpen
one_first (own_event.Out number) = All-nil IsNoOpen
one_first own_event.Limited = tt

alone_first : (o : Option OwnEvent) → OpensFirst (cons_option o [])
alone_first None = tt
alone_first (Some event) = one_first event

last_no : (o : Option OwnEvent) → IfNoOpen o → All IsNoOpen (cons_option o [])
last_no None other = All-nil IsNoOpen
last_no (Some event) other = All-cons IsNoOpen event [] other (All-nil IsNoOpen)

first_grows : (events : List OwnEvent) (o : Option OwnEvent) → IfNoOpen o → OpensFirst events
    → OpensFirst (events ++ cons_option o [])
first_grows [] o other first = alone_first o
first_grows (own_event.Limited ∷ events) o other first = first_grows events o other first
first_grows (own_event.Open params login area ∷ events) o other first =
    All-append IsNoOpen events (cons_option o []) first (last_no o other)
first_grows (own_event.Invoke func input area ∷ events) o other first =
    All-append IsNoOpen events (cons_option o []) first (last_no o other)
first_grows (own_event.Close area ∷ events) o other first =
    All-append IsNoOpen events (cons_option o []) first (last_no o other)
first_grows (own_event.Cancel ∷ events) o other first = All-append IsNoOpen events (cons_option o []) first (last_no o other)
first_grows (own_event.Seen number done_by_now ∷ events) o other first =
    All-append IsNoOpen events (cons_option o []) first (last_no o other)
first_grows (own_event.Back number input ∷ events) o other first =
    All-append IsNoOpen events (cons_option o []) first (last_no o other)
first_grows (own_event.Out number ∷ events) o other first =
    All-append IsNoOpen events (cons_option o []) first (last_no o other)

no_open : (came : RealmEvent) → IsNoOpening came → IfNoOpen (own_event_of came)
no_open TurnedAway other = tt
no_open (Comes (Open (Copied params) login limited area)) other = absurd other
no_open (Comes (Open Faulty login limited area)) other = absurd other
no_open (Comes (Open Unread login limited area)) other = absurd other
no_open (Comes (Invoke session func input area)) other = tt
no_open (Comes (Close session area)) other = tt
no_open (Comes (Cancel session)) other = tt
no_open (Comes (Seen number done_by_now)) other = tt
no_open (Comes (Room number enough)) other = tt
no_open (Comes (Back number input)) other = tt
no_open (Comes (Out number)) other = tt

noted_append : (log : List Logged) (last : Logged)
    → events_noted (log ++ last ∷ []) ≡ events_noted log ++ cons_option (own_event_of last.0) []
noted_append log last =
    ap (λ (events : List RealmEvent). filter_map own_event_of events)
    (map-append (λ (logged : Logged). logged.0) log (last ∷ []))
    ∙ filter_map-append own_event_of (map (λ (logged : Logged). logged.0) log) (last.0 ∷ [])

log_grows : (log : List Logged) (last : Logged) → IsNoOpening last.0 → OpensFirst (events_noted log)
    → OpensFirst (events_noted (log ++ last ∷ []))
log_grows log last other first =
    subst OpensFirst (sym (noted_append log last))
    (first_grows (events_noted log) (own_event_of last.0) (no_open last.0 other) first)

log_begins : (log : List Logged) (last : Logged) → events_noted log ≡ [] → OpensFirst (events_noted (log ++ last ∷ []))
log_begins log last none =
    subst OpensFirst
    (sym (noted_append log last ∙ ap (λ (es : List OwnEvent). es ++ cons_option (own_event_of last.0) []) none))
    (alone_first (own_event_of last.0))

-- ---- a new call of another kind

abbrev IfQuiet : Option GroupEvent → Type 0
IfQuiet None = Unit {0}
IfQuiet (Some came) = IsNoOpening (Comes came)

number_quiet : (test : Bool) (came : ℕ → Option GroupEvent) → IfQuiet (came 0)
    → IfQuiet (option_and_then came (if test then Some 0 else None))
number_quiet true came quiet = quiet
number_quiet false came quiet = tt

told_quiet : (test : Bool) (came : ℕ → GroupEvent) → IsNoOpening (Comes (came 0))
    → IfQuiet (option_map came (if test then Some 0 else None))
told_quiet true came quiet = quiet
told_quiet false came quiet = tt

invoke_quiet : (func : ℕ) (area : Bool) (phase : CallPhase) → IfQuiet (invoke_event 0 func area phase)
invoke_quiet func area (Runs job) = tt
invoke_quiet func area (Asks job wanted payload) = tt
invoke_quiet func area (Waits params) = tt
invoke_quiet func area (Ends result params told wakes) = tt

settled_quiet : (member : ℕ) (notes : Notes) (call : PendingCall) (settled : SettledCall) (result : CallResult)
    → IfQuiet (settled_event (OneSession member) notes call settled result)
settled_quiet member notes call Untold result = tt
settled_quiet member notes call (AnOpen login) result = tt
settled_quiet member notes call (AnInvoke func) result = told_quiet (call.session == member) _ tt
settled_quiet member notes call ACancel result = told_quiet (call.session == member) _ tt

settled_in_quiet : (member : ℕ) (notes : Notes) (call : PendingCall) (phase : CallPhase)
    → IfQuiet (settled_event_in (OneSession member) notes call phase)
settled_in_quiet member notes call (Runs job) = tt
settled_in_quiet member notes call (Asks job wanted payload) = tt
settled_in_quiet member notes call (Waits params) = tt
settled_in_quiet member notes call (Ends result params told wakes) = settled_quiet member notes call call.settled result

event_quiet : (member : ℕ) (tables : Tables) (notes : Notes) (call : PendingCall) (call_kind : CallKind)
    → (call_kind ≡ kind.Open → ⊥) → IfQuiet (event_of (OneSession member) tables notes call call_kind)
event_quiet member tables notes call kind.Open never = absurd (never refl)
event_quiet member tables notes call (kind.Invoke func) never =
    number_quiet (call.session == member) (λ session. invoke_event session func (is_some call.area) call.phase)
    (invoke_quiet func (is_some call.area) call.phase)
event_quiet member tables notes call kind.Close never =
    told_quiet (call.session == member) (λ session. Close session (is_some call.area)) tt
event_quiet member tables notes call kind.Settled never = settled_in_quiet member notes call call.phase

-- ---- a history

-- it is before the open of the session, or the session has its number
abbrev Stands : ℕ → Kernel → Notes → Type 0
Stands member kernel notes = IsEarly member kernel notes ⊎ (member < kernel.tables.next_session)

module _ (boot : Booted) (member most : ℕ) where
  stands_so : (past events : List Event) (kernel : Kernel) (happened : Event) (notes : Notes)
      → IsAt boot most past kernel (happened ∷ events) → (on : IsOn boot most past kernel happened events)
      → Stands member kernel notes
      → Stands member on.next (event_noted boot (OneSession member) kernel on.next notes happened)
  stands_so past events kernel happened notes at on (inr given) =
      inr (no_lower member kernel.tables.next_session on.next.tables.next_session given
      (numbers_rise boot past kernel on.next happened at.there on.comes).session)
    where
      no_lower : (a n m : ℕ) → a < n → n ≤ m → a < m
      no_lower a n m lt le = omega arith
  stands_so past events kernel happened notes at on (inl early) =
      by_next (own.event_noted member kernel on.next own.no_notes happened)
      (happened_same boot member kernel on.next notes happened
      ∙ ap (λ (n : own.Notes). own.event_noted member kernel on.next n happened) early.nothing)
      (early_next boot member kernel on.next happened
      (below_numbers kernel (in_numbers boot past kernel at.there)) early.lower on.comes)
    where
      by_next : (now : own.Notes) → own_part (event_noted boot (OneSession member) kernel on.next notes happened) ≡ now
          → EarlyNext boot member on.next now
          → Stands member on.next (event_noted boot (OneSession member) kernel on.next notes happened)
      by_next now same (StillEarly nothing lower) = inl (record { nothing = same ∙ nothing; lower = lower })
      by_next now same (NowNameless of higher of_boot shares nothing opening) = inr higher
      by_next now same (NowOpen of given of_boot uuid opening its) = inr given

  first_so : (past events : List Event) (kernel : Kernel) (happened : Event) (notes : Notes)
      → (on : IsOn boot most past kernel happened events) → Stands member kernel notes → OpensFirst (events_noted notes.log)
      → OpensFirst (events_noted (event_noted boot (OneSession member) kernel on.next notes happened).log)
  first_so past events kernel happened notes on stands first =
      behind_event (λ sessions next_session entered log. OpensFirst (events_noted log))
      (λ sessions next_session entered log last other told holds. log_grows log last other holds) boot (OneSession member) kernel
      on.next happened notes first
      (λ cpu steps slot regs reads now came is_entry is inside there noted.
      subst (λ (log : List Logged). OpensFirst (events_noted log))
      (sym (log_stays now.kind (with_event notes came) now))
      (by_stand now came stands
      (λ given opens.
      let event = same_noted member on.next.tables notes now came noted in
      never_opens boot member kernel on.next cpu steps slot regs reads now event.0 given is inside there
      (ap (λ (h : Event). after_event boot kernel h) (sym is_entry) ∙ on.comes) event.1 opens) noted)) on.comes
    where
      by_stand : (now : PendingCall) (came : GroupEvent) → Stands member kernel notes
          → (member < kernel.tables.next_session → now.kind ≡ kind.Open → ⊥)
          → event_of (OneSession member) on.next.tables notes now now.kind ≡ Some came
          → OpensFirst (events_noted (notes.log ++ (Comes came, None) ∷ []))
      by_stand now came (inl early) never noted =
          log_begins notes.log (Comes came, None)
          (sym (events_forgotten notes.log) ∙ ap (λ (n : own.Notes). own.events_in n.log) early.nothing)
      by_stand now came (inr given) never noted =
          log_grows notes.log (Comes came, None)
          (subst IfQuiet noted (event_quiet member on.next.tables notes now now.kind (never given))) first

  pub opens_from : (past : List Event) (kernel : Kernel) (notes : Notes) (events : List Event)
      → IsAt boot most past kernel events → Stands member kernel notes → OpensFirst (events_noted notes.log)
      → OpensFirst (events_noted (noted_from boot (OneSession member) kernel notes events).log)
  opens_from past kernel notes [] at stands first = first
  opens_from past kernel notes (happened ∷ events) at stands first =
      let on = on_from boot most past kernel happened events at in
      let after : Notes = event_noted boot (OneSession member) kernel on.next notes happened in
      subst (λ (n : Notes). OpensFirst (events_noted n.log))
      (sym (goes_from boot (OneSession member) kernel on.next notes happened events on.comes))
      (opens_from (past ++ happened ∷ []) on.next after events on.at
      (stands_so past events kernel happened notes at on stands)
      (first_so past events kernel happened notes on stands first))
