-- What the kernel's call goes out with can be told of the call as data.
use Rattle.std.proofs.Common.{◌≡◌, ℕ, List, Option, Some, None, sym, ◌∙◌, ap, subst}
use Rattle.std.specs.Prelude.{IsSome, IsSomeAnd}
use Rattle.std.specs.List.{AllByRecursion}
use Rattle.std.specs.Option.{option_map}
use Rattle.kernel_state.specs.CallLeaving.{leaving_as, request_of}
use Rattle.kernel_state.specs.declared.leaving.Leaving.{Leaving}
use Rattle.kernel_state.specs.declared.leaving.Leaving.TheVariants.{Interrupted, WantsBuffer, Requests, FreesBuffer, Finishes}
use Rattle.kernel_state.specs.declared.leaving.Wanted.{Wanted}
use Rattle.kernel_state.specs.declared.leaving.Wanted.TheVariants.{Asked}
use Rattle.kernel_model.specs.Kernel.{CallPhase, PendingCall, Progress, Tables}
use Rattle.kernel_model.specs.Exit.{after_grant, answer_of, progress_in, slot_left, tables_left, writes_of}
use Rattle.kernel_model.specs.Leaving as model
use Rattle.job_model.specs.Steps.{grant_of}
use Rattle.kernel_state.specs.Calls.{IsCall}
use Rattle.ns_ram.specs.Lane.{IsInRam}
use Rattle.param_copy.specs.Places.{IsWritable}
use Rattle.param_copy.specs.declared.copied.Place.{Place}
use Rattle.rpc_cont.specs.declared.cont.Asked.{Asked as AskedFor}
use Rattle.rpc_cont.specs.declared.cont.Cont.{Cont}
use Rattle.rpc_cont.specs.declared.stop.ContStop.{ContStop}
use Rattle.rpc_msgs.specs.Request.{IsPayloadOf, IsRequest}
use Rattle.rpc_msgs.specs.declared.request_place.RequestPlace.{RequestPlace}
use Rattle.kernel_state.specs.declared.tables.Tables.{Tables as CoreTables}
use Rattle.kernel_state.specs.Tables.{HasFreePages, tables_of}
use Rattle.kernel_state.specs.declared.setup.Setup.{Setup}
use Rattle.kernel_exit.specs.Ending.{ComesOfGrant, HasComeTo}
use Rattle.kernel_state.specs.StandsFor.{IsBeside}
use Rattle.kernel_state.specs.declared.cancellation.Cancellation.{Cancellation}
use Rattle.kernel_state.specs.declared.parts.Parts.{Parts}
use Rattle.ns_ram.specs.Writes.{lane_after}
use Rattle.smc_abi.specs.declared.answer.Answer.{Answer}
use Rattle.kernel_exit.specs.GoingOut.{CanTell, CarriesCall, HasGoneOut, IsCarriedOut}
use Rattle.kernel_exit.specs.Telling.{CanBeTold, FitsMessage, HoldsNow}

-- ---- what it comes to

mapped : {A B : Type 0} (f : A → B) (P : B → Type 0) (o : Option A) → IsSomeAnd o (λ x. P (f x)) → IsSomeAnd (option_map f o) P
mapped f P None so = so
mapped f P (Some x) so = so

-- of one that ran
pub ran_comes : (tables : Tables) (ran new : Cont (List ℕ)) (why : ContStop) (after : CoreTables) → ComesOfGrant tables ran why new after →
    (call : PendingCall) (steps : ℕ) → IsCarriedOut ran (Some why) call steps →
    IsSomeAnd (progress_in tables call steps call.phase) (λ progress. HasComeTo progress new after)
ran_comes tables ran new why after comes call steps out =
    subst (λ (phase : CallPhase). IsSomeAnd (progress_in tables call steps phase) (λ progress. HasComeTo progress new after)) (sym out.runs)
    (mapped (after_grant tables call steps) (λ progress. HasComeTo progress new after) (grant_of steps out.job)
    (comes out.before call out.job steps out.is out.runs out.ran))

-- ---- what can be told

asked_fits : (request : Option AskedFor) (wanted : Wanted) → IsSome request → wanted ≡ Asked →
    IsRequest (request_of request wanted).wanted → IsPayloadOf (request_of request wanted).wanted (request_of request wanted).payload →
    IsSomeAnd request FitsMessage
asked_fits None wanted there is fits with = absurd cc
asked_fits (Some asked) wanted there is fits with = (
  subst (λ (w : Wanted). IsRequest (request_of (Some asked) w).wanted) is fits,
  subst (λ (w : Wanted). IsPayloadOf (request_of (Some asked) w).wanted (request_of (Some asked) w).payload) is with,
)

told_as : (cont : Cont (List ℕ)) (call : PendingCall) (leaving : Leaving) → IsCall cont call →
    ((place : RequestPlace) → leaving ≡ Requests place Asked → IsSome cont.request) → CanTell call (leaving_as cont leaving) → CanBeTold cont leaving
told_as cont call Interrupted is asked can = tt
told_as cont call WantsBuffer is asked can = tt
told_as cont call (Requests place wanted) is asked can = record {
  places = can.0;
  asked = λ so. asked_fits cont.request wanted (asked place (ap (λ (w : Wanted). Requests place w) so)) so can.1 can.2;
}
told_as cont call (FreesBuffer buffer) is asked can = tt
told_as cont call Finishes is asked can = record {
  argument = subst (λ (arg : ℕ). IsInRam arg 32) (sym is.arg) can.0;
  places = subst (λ (arg : ℕ). AllByRecursion (IsWritable arg) cont.places.items) (sym is.arg)
      (subst (λ (places : List Place). AllByRecursion (IsWritable call.arg) places) (sym is.places) can.1);
}

-- by what it goes out with
pub can_be_told : (slot : ℕ) (cont : Cont (List ℕ)) (call : PendingCall) (leaving : Leaving) → IsCall cont call →
    model.leaving_of slot call ≡ leaving_as cont leaving → ((place : RequestPlace) → leaving ≡ Requests place Asked → IsSome cont.request) →
    CanTell call (model.leaving_of slot call) → CanBeTold cont leaving
can_be_told slot cont call leaving is same asked can = told_as cont call leaving is asked (subst (CanTell call) same can)

-- what a call comes to can be told
pub carried_told : (tables : Tables) (slot : ℕ) (cont new : Cont (List ℕ)) (why : Option ContStop) (after : CoreTables) (leaving : Leaving) →
    CarriesCall tables slot cont why →
    ((call : PendingCall) (steps : ℕ) → IsCarriedOut cont why call steps →
    IsSomeAnd (progress_in tables call steps call.phase) (λ progress. HasComeTo progress new after)) →
    ((call : PendingCall) → IsCall new call → model.leaving_of slot call ≡ leaving_as new leaving) →
    ((place : RequestPlace) → leaving ≡ Requests place Asked → IsSome new.request) → CanBeTold new leaving
carried_told tables slot cont new why after leaving carried comes of asked =
    by (progress_in tables carried.call carried.steps carried.call.phase) carried.told (comes carried.call carried.steps carried.is)
  where
    by : (found : Option Progress) → IsSomeAnd found (λ progress. CanTell progress.call (model.leaving_of slot progress.call)) →
        IsSomeAnd found (λ progress. HasComeTo progress new after) → CanBeTold new leaving
    by None can so = absurd can
    by (Some progress) can so = can_be_told slot new progress.call leaving so.call (of progress.call so.call) asked can

-- ---- what it leaves

some_weaker : {T : Type 0} (found : Option T) (P Q : T → Type 0) → ((x : T) → P x → Q x) → IsSomeAnd found P → IsSomeAnd found Q
some_weaker None P Q weaker so = so
some_weaker (Some x) P Q weaker so = weaker x so

-- what is told of the call as data is told of the kernel's
pub gone_from : (old new : Parts) (slot : ℕ) (cont gone : Cont (List ℕ)) (why : Option ContStop) (after : CoreTables) (leaving : Leaving)
    (lane now : List ℕ) (answer : Answer) →
    ((call : PendingCall) (steps : ℕ) → IsCarriedOut cont why call steps →
    IsSomeAnd (progress_in (tables_of old.tables) call steps call.phase) (λ progress. HasComeTo progress gone after)) →
    ((call : PendingCall) → IsCall gone call → model.leaving_of slot call ≡ leaving_as gone leaving) →
    ((one : Cont (List ℕ)) → answer ≡ answer_of slot (leaving_as one leaving)) →
    ((call : PendingCall) → IsCall gone call → now ≡ lane_after lane (writes_of call (leaving_as gone leaving))) →
    ((call : PendingCall) (one : Cont (List ℕ)) → tables_of new.tables ≡ tables_left (tables_of after) slot (slot_left call (leaving_as one leaving))) →
    ((call : PendingCall) (beside : Cancellation) → IsCall gone call → IsBeside beside call →
    HoldsNow old.slots new.slots slot beside (slot_left call (leaving_as gone leaving))) →
    (call : PendingCall) (steps : ℕ) → IsCarriedOut cont why call steps →
    IsSomeAnd (progress_in (tables_of old.tables) call steps call.phase) (HasGoneOut old new slot lane now answer)
gone_from old new slot cont gone why after leaving lane now answer comes of answers writes tables holds call steps out =
    some_weaker (progress_in (tables_of old.tables) call steps call.phase) (λ progress. HasComeTo progress gone after)
    (HasGoneOut old new slot lane now answer) by (comes call steps out)
  where
    by : (progress : Progress) → HasComeTo progress gone after → HasGoneOut old new slot lane now answer progress
    by progress come =
        let same : model.leaving_of slot progress.call ≡ leaving_as gone leaving = of progress.call come.call in
        record {
          answered = answers gone ∙ ap (answer_of slot) (sym same);
          written = writes progress.call come.call ∙ ap (λ (l : model.Leaving). lane_after lane (writes_of progress.call l)) (sym same);
          tables = tables progress.call gone
              ∙ ap (λ (l : model.Leaving). tables_left (tables_of after) slot (slot_left progress.call l)) (sym same)
              ∙ ap (λ (t : Tables). tables_left t slot (slot_left progress.call (model.leaving_of slot progress.call))) come.with;
          slot_is = λ beside is. subst (λ (l : model.Leaving). HoldsNow old.slots new.slots slot beside (slot_left progress.call l)) (sym same)
              (holds progress.call beside come.call is);
        }

-- the pages are as they were behind the end of the call
pub pages_still : (setup : Setup) (after new : CoreTables) → new ≡ record after { registry = new.registry } → HasFreePages setup after → HasFreePages setup new
pages_still setup after new same pages = subst (λ (tables : CoreTables). HasFreePages setup tables) (sym same)
    (record { frames = pages.frames; free = pages.free })
