-- What an exit asks for holds in one way at most.
use Rattle.std.proofs.Common.{ℕ, List, Option, Some, None}
use Rattle.std.proofs.Math.Logic.{∥∥₁_prop}
use Rattle.std.proofs.Props.{props}
use Rattle.std.specs.Prelude.{IsSomeAnd}
use Rattle.std.specs.Global.{Box}
use Rattle.base.specs.NumberMap.{NumberMap}
use Rattle.kernel_state.specs.declared.leaving.Leaving.{Leaving}
use Rattle.kernel_state.specs.declared.leaving.Leaving.TheVariants.{Interrupted, WantsBuffer, Requests, FreesBuffer, Finishes}
use Rattle.job_model.specs.declared.call_kind.CallKind.{CallKind}
use Rattle.job_model.specs.declared.call_kind.CallKind.TheVariants.{Open, Invoke, Close, Settled}
use Rattle.kernel_model.specs.Application.{Booted}
use Rattle.kernel_model.specs.Kernel.{Tables}
use Rattle.kernel_state.specs.declared.carried.Carried.{Carried}
use Rattle.kernel_state.specs.declared.parts.Parts.{Parts}
use Rattle.kernel_state.specs.declared.processor.Errand.{Errand}
use Rattle.kernel_state.specs.declared.processor.Errand.TheVariants.{Fixed, InSlot}
use Rattle.kernel_state.specs.declared.processor.Processor.{Processor}
use Rattle.kernel_state.specs.declared.processor.Processor.TheVariants.{Outside, Inside}
use Rattle.param_copy.specs.Places.{IsWritable}
use Rattle.param_copy.specs.declared.copied.Place.{Place}
use Rattle.rpc_cont.specs.declared.cont.Asked.{Asked as AskedFor}
use Rattle.rpc_cont.specs.declared.cont.Cont.{Cont}
use Rattle.rpc_cont.specs.declared.stop.ContStop.{ContStop}
use Rattle.rpc_msgs.specs.Request.{IsPayloadOf, IsRequest}
use Rattle.rpc_msgs.specs.declared.rpc.Rpc.{Rpc}
use Rattle.rpc_msgs.specs.declared.rpc.Rpc.TheVariants as rpc
use Rattle.session_table.specs.declared.session.Session.{Session}
use Rattle.thread_slots.specs.Slot.{IsActive}
use Rattle.thread_slots.specs.declared.slot.Slot.{Slot}
use Rattle.thread_slots.specs.declared.slot.Slot.TheVariants.{Free, Active, Suspended}
use Rattle.kernel_exit.specs.Ending.{CanEnd, HasItsSession}
use Rattle.kernel_exit.specs.GoingOut.{CanCome, CanExitWith, CanGoFrom, IsInside, call_carried}
use Rattle.kernel_exit.specs.Telling.{CanBeTold, FitsMessage}

-- ---- what it comes to

session_prop : (of : CallKind) (sessions : NumberMap Session) (number : ℕ) → IsProp (HasItsSession of sessions number)
session_prop Open sessions number = Prim.hlevel props
session_prop (Invoke func) sessions number = Prim.hlevel props
session_prop Close sessions number = Prim.hlevel props
session_prop Settled sessions number = Prim.hlevel props

end_prop : (boot : Booted) (tables : Tables) (cont : Cont (List ℕ)) → IsProp (CanEnd boot tables cont)
end_prop boot tables cont = Prim.hlevel (props, session_prop)

come_prop : (boot : Booted) (tables : Tables) (cont : Cont (List ℕ)) (why : Option ContStop) → IsProp (CanCome boot tables cont why)
come_prop boot tables cont None = Prim.hlevel props
come_prop boot tables cont (Some why) = Prim.hlevel (props, end_prop)

pub active_prop : (there : Option (Slot (Box (Cont (List ℕ))))) → IsProp (IsActive there)
active_prop None = Prim.hlevel props
active_prop (Some Free) = Prim.hlevel props
active_prop (Some (Active cpu)) = Prim.hlevel props
active_prop (Some (Suspended client cont)) = Prim.hlevel props

go_prop : (parts : Parts) (slot : ℕ) (cont : Cont (List ℕ)) (why : Option ContStop) → IsProp (CanGoFrom parts slot cont why)
go_prop parts slot cont why = Prim.hlevel (props, active_prop, come_prop, ∥∥₁_prop)

carried_prop : (parts : Parts) (slot : ℕ) (why : Option ContStop) (carried : Option (Box (Cont (List ℕ)))) →
    IsProp (IsSomeAnd carried (λ cont. CanGoFrom parts slot cont.value why))
carried_prop parts slot why None = Prim.hlevel props
carried_prop parts slot why (Some cont) = go_prop parts slot cont.value why

pub exit_prop : (parts : Parts) (errand : Errand) (carried : Carried) (why : Option ContStop) → IsProp (CanExitWith parts errand carried why)
exit_prop parts (Fixed answer) carried why = Prim.hlevel props
exit_prop parts (InSlot slot) carried why = carried_prop parts slot why (call_carried carried)

-- ---- what is told

request_prop : (asked : Rpc) → IsProp (IsRequest asked)
request_prop rpc.Time = Prim.hlevel props
request_prop (rpc.Sleep key) = Prim.hlevel props
request_prop (rpc.Wake key) = Prim.hlevel props
request_prop (rpc.Suspend ms) = Prim.hlevel props
request_prop (rpc.FsOpen name) = Prim.hlevel props
request_prop (rpc.FsCreate name) = Prim.hlevel props
request_prop (rpc.FsClose fd) = Prim.hlevel props
request_prop (rpc.FsRead fd offset len) = Prim.hlevel props
request_prop (rpc.FsWrite fd offset len) = Prim.hlevel props
request_prop (rpc.FsRemove name) = Prim.hlevel props

payload_prop : (asked : Rpc) (payload : List ℕ) → IsProp (IsPayloadOf asked payload)
payload_prop rpc.Time payload = Prim.hlevel props
payload_prop (rpc.Sleep key) payload = Prim.hlevel props
payload_prop (rpc.Wake key) payload = Prim.hlevel props
payload_prop (rpc.Suspend ms) payload = Prim.hlevel props
payload_prop (rpc.FsOpen name) payload = Prim.hlevel props
payload_prop (rpc.FsCreate name) payload = Prim.hlevel props
payload_prop (rpc.FsClose fd) payload = Prim.hlevel props
payload_prop (rpc.FsRead fd offset len) payload = Prim.hlevel props
payload_prop (rpc.FsWrite fd offset len) payload = Prim.hlevel props
payload_prop (rpc.FsRemove name) payload = Prim.hlevel props

fits_prop : (request : Option AskedFor) → IsProp (IsSomeAnd request FitsMessage)
fits_prop None = Prim.hlevel props
fits_prop (Some asked) = Prim.hlevel (props, request_prop, payload_prop)

writable_prop : (arg : ℕ) (place : Place) → IsProp (IsWritable arg place)
writable_prop arg place = Prim.hlevel props

pub told_prop : (cont : Cont (List ℕ)) (leaving : Leaving) → IsProp (CanBeTold cont leaving)
told_prop cont Interrupted = Prim.hlevel props
told_prop cont WantsBuffer = Prim.hlevel props
told_prop cont (Requests place wanted) = Prim.hlevel (props, fits_prop)
told_prop cont (FreesBuffer buffer) = Prim.hlevel props
told_prop cont Finishes = Prim.hlevel (props, writable_prop)

-- ---- the processor

pub inside_prop : (there : Option Processor) → IsProp (IsSomeAnd there IsInside)
inside_prop None = Prim.hlevel props
inside_prop (Some Outside) = Prim.hlevel props
inside_prop (Some (Inside regs steps errand)) = Prim.hlevel props
