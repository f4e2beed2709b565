-- A processor that goes out: the call that it carries, and what that leaves.
use Rattle.std.specs.Prelude.{◌≡◌, ℕ, false, List, Option, Some, None, IsSome, IsSomeAnd}
use Rattle.std.specs.Global.{Box}
use Rattle.std.specs.List.{AllByRecursion}
use Rattle.base.specs.NumberMap.{get}
use Rattle.job_model.specs.Job.{Job}
use Rattle.job_model.specs.declared.call_kind.CallKind.TheVariants.{Open}
use Rattle.kernel_model.specs.Application.{Booted}
use Rattle.kernel_model.specs.Exit.{answer_of, progress_in, slot_left, tables_left, writes_of}
use Rattle.kernel_model.specs.Kernel.{PendingCall, Progress, Runs, Tables}
use Rattle.kernel_model.specs.Leaving.{leaving_of}
use Rattle.kernel_model.specs.Leaving as model
use Rattle.kernel_state.specs.Calls.{IsCall}
use Rattle.kernel_state.specs.StandsFor.{IsBeside}
use Rattle.kernel_state.specs.Setup.{booted_of_setup}
use Rattle.kernel_state.specs.Tables.{HasFreePages, tables_of}
use Rattle.kernel_state.specs.Work.{HasRun}
use Rattle.kernel_state.specs.declared.cancellation.Cancellation.{Cancellation}
use Rattle.kernel_state.specs.declared.carried.Carried.{Carried}
use Rattle.kernel_state.specs.declared.carried.Carried.TheVariants.{Nothing, Resting, Running}
use Rattle.kernel_state.specs.declared.parts.Parts.{Parts}
use Rattle.kernel_state.specs.declared.processor.Errand.{Errand}
use Rattle.kernel_state.specs.declared.processor.Errand.TheVariants.{Fixed, InSlot}
use Rattle.kernel_state.specs.declared.processor.Processor.{Processor}
use Rattle.kernel_state.specs.declared.processor.Processor.TheVariants.{Outside, Inside}
use Rattle.ns_ram.specs.Lane.{IsInRam}
use Rattle.ns_ram.specs.Writes.{lane_after}
use Rattle.param_copy.specs.Places.{IsWritable}
use Rattle.rpc_cont.specs.Advancing.{phase_after}
use Rattle.rpc_cont.specs.declared.cont.Cont.{Cont}
use Rattle.rpc_cont.specs.declared.phase.Phase.TheVariants as phase
use Rattle.rpc_cont.specs.declared.stop.ContStop.{ContStop}
use Rattle.rpc_msgs.specs.Place.{HasPlaces, arg_at, buffer_at}
use Rattle.rpc_msgs.specs.Request.{IsPayloadOf, IsRequest}
use Rattle.smc_abi.specs.declared.answer.Answer.{Answer}
use Rattle.smc_abi.specs.declared.regs.Regs.{Regs}
use Rattle.thread_slots.specs.Slots.{IsActiveAt}
use Rattle.kernel_exit.specs.Ending.{CanEnd, IsAtRest}
use Rattle.kernel_exit.specs.Telling.{HoldsNow}

-- ---- the processor

-- it is inside
abbrev pub IsInside : Processor → Type 0
IsInside Outside = ⊥
IsInside (Inside regs steps errand) = Unit {0}

-- it came in with these registers, for this
abbrev pub IsInsideFor : Regs → Errand → Processor → Type 0
IsInsideFor regs errand Outside = ⊥
IsInsideFor regs errand (Inside came steps its) = (came ≡ regs) × (its ≡ errand)

-- ---- the call that it carries

-- the call, if there is one
abbrev pub call_carried : Carried → Option (Box (Cont (List ℕ)))
call_carried Nothing = None
call_carried (Resting cont) = Some cont
call_carried (Running cont) = Some cont

-- it ran, is the kernel's call with so many steps granted, and this is why it stopped
pub record HasRunOut (cont : Cont (List ℕ)) (why : ContStop) (call : PendingCall) (steps : ℕ) : Type 0 where
  pub before : Cont (List ℕ)
  pub job : Job
  pub is : IsCall before call
  pub runs : call.phase ≡ Runs job
  pub ran : HasRun steps before cont why

-- it is the kernel's call, with so many steps granted: one that ran has stopped for a reason
abbrev pub IsCarriedOut : Cont (List ℕ) → Option ContStop → PendingCall → ℕ → Type 0
IsCarriedOut cont (Some why) call steps = HasRunOut cont why call steps
IsCarriedOut cont None call steps = IsCall cont call × IsAtRest call.phase

-- what it comes to finds its session and its instance
abbrev pub CanCome : Booted → Tables → Cont (List ℕ) → Option ContStop → Type 0
CanCome boot tables cont (Some why) = phase_after why ≡ phase.Ends → CanEnd boot tables cont
CanCome boot tables cont None =
    cont.phase ≡ phase.Ends → cont.done ≡ false → cont.kind ≡ Open → IsSome (get tables.sessions cont.session)

-- where the call writes lies in RAM, and a message has room for what it asks for
abbrev pub CanTell : PendingCall → model.Leaving → Type 0
CanTell call model.Interrupted = Unit {0}
CanTell call model.WantsBuffer = Unit {0}
CanTell call (model.Requests place request) =
    HasPlaces (arg_at place) (buffer_at place) request.wanted × IsRequest request.wanted × IsPayloadOf request.wanted request.payload
CanTell call (model.FreesBuffer buffer) = Unit {0}
CanTell call (model.Finishes result params) = IsInRam call.arg 32 × AllByRecursion (IsWritable call.arg) call.places

-- it is the call of this slot, and what it comes to can be told
pub record CarriesCall (tables : Tables) (slot : ℕ) (cont : Cont (List ℕ)) (why : Option ContStop) : Type 0 where
  pub call : PendingCall
  pub steps : ℕ
  pub is : IsCarriedOut cont why call steps
  pub told : IsSomeAnd (progress_in tables call steps call.phase)
      (λ progress. CanTell progress.call (leaving_of slot progress.call))

-- the slot is active, and what the call comes to finds what it needs, and can be told
pub record CanGoFrom (parts : Parts) (slot : ℕ) (cont : Cont (List ℕ)) (why : Option ContStop) : Type 0 where
  pub active : IsActiveAt parts.slots slot
  pub can : CanCome (booted_of_setup parts.setup) (tables_of parts.tables) cont why
  pub pages : HasFreePages parts.setup parts.tables
  pub call : ∥ CarriesCall (tables_of parts.tables) slot cont why ∥₁

-- by what the processor came in for
abbrev pub CanExitWith : Parts → Errand → Carried → Option ContStop → Type 0
CanExitWith parts (Fixed answer) carried why = Unit {0}
CanExitWith parts (InSlot slot) carried why = IsSomeAnd (call_carried carried) (λ cont. CanGoFrom parts slot cont.value why)

-- ---- what it leaves

-- what the call of a slot has come to is answered, written, and left in its slot
pub record HasGoneOut (old new : Parts) (slot : ℕ) (lane now : List ℕ) (answer : Answer)
    (progress : Progress) : Type 0 where
  pub answered : answer ≡ answer_of slot (leaving_of slot progress.call)
  pub written : now ≡ lane_after lane (writes_of progress.call (leaving_of slot progress.call))
  pub tables : tables_of new.tables
      ≡ tables_left progress.tables slot (slot_left progress.call (leaving_of slot progress.call))
  pub slot_is : (beside : Cancellation) → IsBeside beside progress.call →
      HoldsNow old.slots new.slots slot beside (slot_left progress.call (leaving_of slot progress.call))

-- the call of a slot has come to what the kernel's has, whatever steps were granted, and has gone out from that
pub record HasGoneFrom (old new : Parts) (slot : ℕ) (cont : Cont (List ℕ)) (why : Option ContStop)
    (lane now : List ℕ) (answer : Answer) : Type 0 where
  pub gone : (call : PendingCall) (steps : ℕ) → IsCarriedOut cont why call steps →
      IsSomeAnd (progress_in (tables_of old.tables) call steps call.phase) (HasGoneOut old new slot lane now answer)
  pub pages : HasFreePages old.setup new.tables

-- by what the processor came in for
abbrev pub HasExitedWith : Parts → Parts → Errand → Carried → Option ContStop → List ℕ → List ℕ → Answer →
    Type 0
HasExitedWith old new (Fixed told) carried why lane now answer = (answer ≡ told) × (new ≡ old) × (now ≡ lane)
HasExitedWith old new (InSlot slot) carried why lane now answer =
    IsSomeAnd (call_carried carried) (λ cont. HasGoneFrom old new slot cont.value why lane now answer)
