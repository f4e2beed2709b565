-- What a call as data goes out with is what the kernel's call does.
use Rattle.std.proofs.Common.{◌≡◌, ℕ, Bool, List, Option, Some, None, refl, sym, ◌∙◌, ap, ap₂}
use Rattle.std.specs.Prelude.{IsSome}
use Rattle.std.specs.Option.{option_and_then, option_map, option_map_or}
use Rattle.kernel_state.specs.CallLeaving.{asked_request, asking, asking_nothing, leaving_as, leaving_by, place_of, request_of, wanted_in}
use Rattle.kernel_state.specs.declared.leaving.Leaving.{Leaving}
use Rattle.kernel_state.specs.declared.leaving.Leaving.TheVariants.{Requests}
use Rattle.kernel_state.specs.declared.leaving.Wanted.{Wanted}
use Rattle.kernel_state.specs.declared.leaving.Wanted.TheVariants.{Asked, Sleep, Wake}
use Rattle.kernel_model.specs.Kernel.{CallPhase, Runs, Asks, Waits, Ends, PendingCall}
use Rattle.kernel_model.specs.Leaving as model
use Rattle.kernel_state.specs.Calls.{IsCall, IsInPhase, woken_slot}
use Rattle.rpc_cont.specs.Conts.{kept_params}
use Rattle.rpc_cont.specs.declared.cont.Asked.{Asked as AskedFor}
use Rattle.rpc_cont.specs.declared.cont.Cont.{Cont}
use Rattle.rpc_cont.specs.declared.phase.Phase.{Phase}
use Rattle.rpc_cont.specs.declared.phase.Phase.TheVariants as phase
use Rattle.rpc_msgs.specs.Place.{place_for}
use Rattle.rpc_msgs.specs.declared.request_place.RequestPlace.{RequestPlace}
use Rattle.rpc_msgs.specs.declared.rpc_buffer.RpcBuffer.{RpcBuffer}
use Rattle.ta_params.specs.declared.call_result.CallResult.{CallResult}
use Rattle.ta_params.specs.declared.copied_params.CopiedParams.{CopiedParams}

-- ---- a call that asks

-- the same request and place
record IsSame (cont : Cont (List ℕ)) (call : PendingCall) : Type 0 where
  area : cont.area ≡ call.area
  buffer : cont.buffer ≡ call.buffer

same_place : (cont : Cont (List ℕ)) (call : PendingCall) (request : model.Request) → IsSame cont call
    → model.place_of call request ≡ place_for cont.area cont.buffer request.wanted
same_place cont call request same =
    ap₂ (λ (area : Option ℕ) (buffer : Option RpcBuffer). place_for area buffer request.wanted) (sym same.area) (sym same.buffer)

-- at a place or for one
asking_told : (cont : Cont (List ℕ)) (wanted : Wanted) (at : Option RequestPlace) →
    option_map_or (λ (place : RequestPlace). model.Requests place (request_of cont.request wanted)) at model.WantsBuffer
    ≡ leaving_as cont (asking wanted at)
asking_told cont wanted None = refl
asking_told cont wanted (Some place) = refl

asks_told : (cont : Cont (List ℕ)) (call : PendingCall) (wanted : Wanted) → IsSame cont call →
    model.asks_for call (request_of cont.request wanted) ≡ leaving_as cont (leaving_by cont (Some wanted))
asks_told cont call wanted same =
    let request = request_of cont.request wanted in
    ap (λ (at : Option RequestPlace). option_map_or (λ (place : RequestPlace). model.Requests place request) at model.WantsBuffer)
    (same_place cont call request same)
    ∙ asking_told cont wanted (place_of cont wanted)

-- ---- one that has ended

ends_told : (cont : Cont (List ℕ)) (buffer : Option RpcBuffer) (outcome : CallResult) (left : CopiedParams) →
    cont.result ≡ outcome → kept_params cont.params ≡ left →
    option_map_or model.FreesBuffer buffer (model.Finishes outcome left) ≡ leaving_as cont (asking_nothing phase.Ends buffer)
ends_told cont None outcome left result params = ap₂ model.Finishes (sym result) (sym params)
ends_told cont (Some buffer) outcome left result params = refl

-- by whom it wakes
wakes_told : (slot : ℕ) (cont : Cont (List ℕ)) (call : PendingCall) (outcome : CallResult) (left : CopiedParams) (told : Bool) (wakes : Option ℕ) →
    IsSame cont call → cont.phase ≡ phase.Ends → cont.result ≡ outcome → kept_params cont.params ≡ left →
    model.leaving_in slot call (Ends outcome left told wakes) ≡ leaving_as cont (leaving_by cont (option_map Wake wakes))
wakes_told slot cont call outcome left told (Some woken) same ended result params = asks_told cont call (Wake woken) same
wakes_told slot cont call outcome left told None same ended result params =
    ap (λ (one : Option RpcBuffer). option_map_or model.FreesBuffer one (model.Finishes outcome left)) (sym same.buffer)
    ∙ ends_told cont cont.buffer outcome left result params
    ∙ ap (λ (at : Phase). leaving_as cont (asking_nothing at cont.buffer)) (sym ended)

-- ---- by the phase of the kernel's call

as_by : (cont : Cont (List ℕ)) (wanted other : Option Wanted) → wanted ≡ other → leaving_as cont (leaving_by cont other) ≡ leaving_as cont (leaving_by cont wanted)
as_by cont wanted other same = ap (λ (one : Option Wanted). leaving_as cont (leaving_by cont one)) (sym same)

told_in : (slot : ℕ) (cont : Cont (List ℕ)) (call : PendingCall) (at : CallPhase) → IsSame cont call → IsInPhase cont at →
    model.leaving_in slot call at ≡ leaving_as cont (leaving_by cont (wanted_in slot cont.phase cont.request))
told_in slot cont call (Runs job) same is =
    ap (λ (at : Phase). leaving_as cont (asking_nothing at cont.buffer)) (sym is.1.phase)
    ∙ as_by cont (wanted_in slot cont.phase cont.request) None (ap (λ (at : Phase). wanted_in slot at cont.request) is.1.phase)
told_in slot cont call (Asks job wanted payload) same is =
    ap (λ (request : model.Request). model.asks_for call request) (sym (ap asked_request is.1.1))
    ∙ asks_told cont call Asked same
    ∙ as_by cont (wanted_in slot cont.phase cont.request) (Some Asked) (ap₂ (wanted_in slot) is.0 is.1.1)
told_in slot cont call (Waits params) same is =
    asks_told cont call (Sleep slot) same
    ∙ as_by cont (wanted_in slot cont.phase cont.request) (Some (Sleep slot)) (ap (λ (at : Phase). wanted_in slot at cont.request) is.phase)
told_in slot cont call (Ends result params told wakes) same is =
    wakes_told slot cont call result params told wakes same is.phase is.result is.params
    ∙ as_by cont (wanted_in slot cont.phase cont.request) (option_map Wake wakes)
    (ap (λ (at : Phase). wanted_in slot at cont.request) is.phase ∙ ap (option_map Wake) is.wakes)

pub leaving_told : (slot : ℕ) (cont : Cont (List ℕ)) (leaving : Leaving) (wanted : Option Wanted) →
    leaving ≡ leaving_by cont wanted → wanted ≡ wanted_in slot cont.phase cont.request →
    (call : PendingCall) → IsCall cont call → model.leaving_of slot call ≡ leaving_as cont leaving
leaving_told slot cont leaving wanted is by call same =
    told_in slot cont call call.phase (record { area = same.area; buffer = same.buffer }) same.phase
    ∙ ap (λ (one : Option Wanted). leaving_as cont (leaving_by cont one)) (sym by)
    ∙ ap (leaving_as cont) (sym is)

-- ---- what it has asked for is there

asked_wanted : (slot : ℕ) (at : Phase) (request : Option AskedFor) → wanted_in slot at request ≡ Some Asked → IsSome request
asked_wanted slot phase.Runs request is = absurd cc
asked_wanted slot phase.Asks None is = absurd cc
asked_wanted slot phase.Asks (Some asked) is = refl
asked_wanted slot phase.Waits request is = absurd cc
asked_wanted slot phase.Ends request is = ends (option_and_then (λ (asked : AskedFor). woken_slot asked.rpc) request) is
  where
    ends : (woken : Option ℕ) → option_map Wake woken ≡ Some Asked → IsSome request
    ends None none = absurd cc
    ends (Some slot) other = absurd cc

pub asked_kept : (slot : ℕ) (at : Phase) (request : Option AskedFor) (wanted : Option Wanted) → wanted ≡ wanted_in slot at request
    → wanted ≡ Some Asked → IsSome request
asked_kept slot at request wanted by is = asked_wanted slot at request (sym by ∙ is)

asking_nothing_else : (at : Phase) (buffer : Option RpcBuffer) (place : RequestPlace) (one : Wanted) → asking_nothing at buffer ≡ Requests place one → ⊥
asking_nothing_else phase.Ends (Some buffer) place one is = cc
asking_nothing_else phase.Ends None place one is = cc
asking_nothing_else phase.Runs buffer place one is = cc
asking_nothing_else phase.Asks buffer place one is = cc
asking_nothing_else phase.Waits buffer place one is = cc

asking_this : (wanted one : Wanted) (at : Option RequestPlace) (place : RequestPlace) → asking wanted at ≡ Requests place one → wanted ≡ one
asking_this wanted one (Some there) place is = cc
asking_this wanted one None place is = absurd cc

wanted_there : (cont : Cont (List ℕ)) (wanted : Option Wanted) (place : RequestPlace) (one : Wanted) → leaving_by cont wanted ≡ Requests place one → wanted ≡ Some one
wanted_there cont (Some wanted) place one is = ap (λ (w : Wanted). Some w) (asking_this wanted one (place_of cont wanted) place is)
wanted_there cont None place one is = absurd (asking_nothing_else cont.phase cont.buffer place one is)

pub asked_there : (slot : ℕ) (cont : Cont (List ℕ)) (leaving : Leaving) (wanted : Option Wanted) →
    leaving ≡ leaving_by cont wanted → wanted ≡ wanted_in slot cont.phase cont.request →
    (place : RequestPlace) → leaving ≡ Requests place Asked → IsSome cont.request
asked_there slot cont leaving wanted is by place asks =
    asked_wanted slot cont.phase cont.request (sym by ∙ wanted_there cont wanted place Asked (sym is ∙ asks))
