-- Each call in a session of a realm is one of the realm's events.
use Rattle.std.proofs.Common.{◌≡◌, ℕ, Bool, List, [], ◌∷◌, ◌++◌, Option, Some, None, refl, ap, subst, sym, ◌∙◌}
use Rattle.std.specs.Prelude.{filter_map, is_some, map}
use Rattle.std.specs.List.{cons_option}
use Rattle.std.specs.Option.{option_and_then}
use Rattle.std.proofs.lemmas.List.{map-append}
use Rattle.std.proofs.lemmas.List.Elements.{filter_map-append}
use Rattle.job_model.specs.declared.call_kind.CallKind.{CallKind}
use Rattle.job_model.specs.declared.call_kind.CallKind.TheVariants as kind
use Rattle.event_journal.specs.declared.event.Event.{Event}
use Rattle.kernel_model.specs.Application.{Application, Booted}
use Rattle.kernel_model.specs.Kernel.{ACancel, AnInvoke, AnOpen, Asks, CallPhase, Ends, PendingCall, Runs, SettledCall, Untold, Waits}
use Rattle.own_model.proofs.NotedCalls.{noted_is}
use Rattle.own_model.specs.Isolation.{BringsCall, GrowsBy, IsSessionOf}
use Rattle.own_model.specs.Own as own
use Rattle.own_model.specs.Own.{Logged}
use Rattle.own_model.specs.declared.own_event.OwnEvent.{OwnEvent}
use Rattle.own_model.specs.declared.own_event.OwnEvent.TheVariants as own_event
use Rattle.group_model.specs.Embedding.{event_as}
use Rattle.group_model.specs.OneLaw.{AllSessions, CallsAreInRealms, OneSession}
use Rattle.group_model.specs.Read.{noted}
use Rattle.group_model.specs.Read as read
use Rattle.group_model.specs.declared.group_event.GroupEvent.{GroupEvent}
use Rattle.realm_model.proofs.SessionCalls.{calls_in_logs}
use Rattle.realm_model.proofs.GroupCalls.{calls_in_the_log}

-- ---- a session's event as one of a group

-- that no thread was free is the event of no call
never_limited : (area : Bool) (settled : SettledCall) (its_kind : CallKind) (phase : CallPhase)
    → own.event_in area settled its_kind phase ≡ Some own_event.Limited → ⊥
never_limited area settled kind.Open (Runs job) is = absurd cc
never_limited area settled kind.Open (Asks job wanted payload) is = absurd cc
never_limited area settled kind.Open (Waits params) is = absurd cc
never_limited area settled kind.Open (Ends result params told wakes) is = absurd cc
never_limited area settled (kind.Invoke func) (Runs job) is = absurd cc
never_limited area settled (kind.Invoke func) (Asks job wanted payload) is = absurd cc
never_limited area settled (kind.Invoke func) (Waits params) is = absurd cc
never_limited area settled (kind.Invoke func) (Ends result params told wakes) is = absurd cc
never_limited area settled kind.Close phase is = absurd cc
never_limited area settled kind.Settled (Runs job) is = absurd cc
never_limited area settled kind.Settled (Asks job wanted payload) is = absurd cc
never_limited area settled kind.Settled (Waits params) is = absurd cc
never_limited area Untold kind.Settled (Ends result params told wakes) is = absurd cc
never_limited area (AnOpen login) kind.Settled (Ends result params told wakes) is = absurd cc
never_limited area (AnInvoke func) kind.Settled (Ends result params told wakes) is = absurd cc
never_limited area ACancel kind.Settled (Ends result params told wakes) is = absurd cc

-- so each is one of a group's, too
is_event : (session : ℕ) (call : PendingCall) (came : OwnEvent) → own.event_of session call ≡ Some came
    → (as_group : GroupEvent) × (event_as came ≡ Some as_group)
is_event session call (own_event.Open params login area) is = (_, refl)
is_event session call (own_event.Invoke func input area) is = (_, refl)
is_event session call (own_event.Close area) is = (_, refl)
is_event session call own_event.Cancel is = (_, refl)
is_event session call (own_event.Seen number steps) is = (_, refl)
is_event session call (own_event.Back number input) is = (_, refl)
is_event session call (own_event.Out number) is = (_, refl)
is_event session call own_event.Limited is =
    absurd (never_limited (is_some call.area) call.settled call.kind call.phase
    (noted_is call.session session (own.event_in (is_some call.area) call.settled call.kind call.phase) own_event.Limited is).1)

one_more : (log : List Logged) (came : OwnEvent) (as_group : GroupEvent) → event_as came ≡ Some as_group
    → filter_map event_as (own.events_in (log ++ (came, None) ∷ []))
    ≡ filter_map event_as (own.events_in log) ++ as_group ∷ []
one_more log came as_group is =
    ap (filter_map event_as) (map-append (λ (logged : Logged). logged.0) log ((came, None) ∷ []))
    ∙ filter_map-append event_as (own.events_in log) (came ∷ [])
    ∙ ap (λ (o : Option GroupEvent). filter_map event_as (own.events_in log) ++ cons_option o []) is

-- ---- the law

in_one : (boot : Booted) (history : List Event) (happened : Event) (call : PendingCall) (session : ℕ) (app : Application)
    → BringsCall boot history happened call → IsSessionOf boot (history ++ happened ∷ []) session app → call.session ≡ session
    → (came : GroupEvent) × (option_and_then event_as (own.event_of session call) ≡ Some came)
    × (filter_map event_as (own.own_events boot (history ++ happened ∷ []) session)
    ≡ filter_map event_as (own.own_events boot history session) ++ came ∷ [])
in_one boot history happened call session app b of same =
    let grows : GrowsBy (own.noted boot history session).log (own.noted boot (history ++ happened ∷ []) session).log
    (own.event_of session call) =
    subst (λ n. GrowsBy (own.noted boot history n).log (own.noted boot (history ++ happened ∷ []) n).log (own.event_of n call)) same
    (calls_in_logs boot history happened call app b
    (subst (λ n. IsSessionOf boot (history ++ happened ∷ []) n app) (sym same) of)) in
    let as_group = is_event session call grows.came grows.is in (
      as_group.0,
      ap (option_and_then event_as) grows.is ∙ as_group.1,
      ap (λ (log : List Logged). filter_map event_as (own.events_in log)) grows.last
          ∙ one_more (own.noted boot history session).log grows.came as_group.0 as_group.1,
    )

pub calls_in_realms : CallsAreInRealms
calls_in_realms boot history happened call (OneSession session) app b of has =
    in_one boot history happened call session app b of has
calls_in_realms boot history happened call AllSessions app b of has =
    let grows = calls_in_the_log boot history happened call app b of has in (
      grows.came,
      grows.is,
      ap (map (λ (logged : read.Logged). logged.0)) grows.last
          ∙ map-append (λ (logged : read.Logged). logged.0) (noted boot history app).log ((grows.came, None) ∷ []),
    )
