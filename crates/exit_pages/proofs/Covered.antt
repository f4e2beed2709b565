-- What the exit of a core writes lies in the pages that cover what its processor carries.
use Rattle.std.proofs.Common.{◌≡◌, ℕ, ◌≤◌, Bool, true, false, not, cond, List, [], length, Option, Some, None, refl, sym, ap, subst, ◌∙◌, arith}
use Rattle.std.specs.Prelude.{IfSome, IsSomeAnd, slice_get}
use Rattle.std.specs.Global.{Box}
use Rattle.std.specs.List.{AllByRecursion}
use Rattle.std.specs.Option.{option_and_then, option_map_or}
use Rattle.std.proofs.Math.Logic.{∥∥₁_elim, ∥∥₁_map}
use Rattle.std.proofs.Props.{props}
use Rattle.std.proofs.lemmas.Option.{same_Some}
use Rattle.exit_pages.specs.Covering.{CoversBytes, CoversCall, CoversCarried, CoversPlace}
use Rattle.exit_pages.proofs.Within.{all_within, result_in}
use Rattle.job_model.specs.Job.{Job}
use Rattle.job_model.specs.Steps.{Grant, Stopped, grant_of}
use Rattle.job_model.specs.Steps as steps
use Rattle.kernel_exit.proofs.ComesTo.{kept_by_run}
use Rattle.kernel_exit.proofs.FoundInside.{is_inside}
use Rattle.kernel_exit.proofs.Left.{CanGo, Goes, goes_from_slot, goes_truly}
use Rattle.kernel_exit.proofs.ByLaws.{stays_so}
use Rattle.kernel_exit.specs.Ending.{IsAtRest}
use Rattle.kernel_exit.specs.GoingOut.{CanTell, IsCarriedOut, IsInside, IsInsideFor, call_carried}
use Rattle.kernel_model.specs.Exit.{Exited, exit, exit_of, goes_out, goes_out_from, progress_of, writes_of}
use Rattle.kernel_model.specs.History.{exit_after}
use Rattle.kernel_model.specs.Kernel as model
use Rattle.kernel_model.specs.Kernel.{Asks, CallPhase, Ends, PendingCall, Progress, Runs, Tables, Waits}
use Rattle.kernel_model.specs.Leaving.{FreesBuffer, Finishes, Request, Requests, WantsBuffer, asks_for, leaving_in, leaving_of, place_of, plain_request}
use Rattle.kernel_model.proofs.SoundExits.{exits_all}
use Rattle.kernel_state.specs.Calls.{IsInPhase, bytes_of}
use Rattle.kernel_state.specs.Leaving.{CanLeave}
use Rattle.kernel_state.specs.Meaning.{booted_of, events_of}
use Rattle.kernel_state.specs.Setup.{booted_of_setup}
use Rattle.kernel_state.specs.declared.carried.Carried.{Carried}
use Rattle.kernel_state.specs.declared.carried.Carried.TheVariants as carried
use Rattle.kernel_state.specs.declared.kernel_core.Core.{Core}
use Rattle.kernel_state.specs.declared.parts.Parts.{Parts}
use Rattle.kernel_state.specs.declared.processor.Errand.{Errand}
use Rattle.kernel_state.specs.declared.processor.Errand.TheVariants.{Fixed, InSlot}
use Rattle.kernel_state.specs.declared.processor.Processor.{Processor}
use Rattle.kernel_state.specs.declared.processor.Processor.TheVariants.{Inside, Outside}
use Rattle.kernel_state.specs.declared.work.Ran.{Ran}
use Rattle.ns_ram.specs.Lane.{IsInRam}
use Rattle.ns_ram.specs.Writes.{lane_after}
use Rattle.page_set.specs.Pages.{HasBytes, IsWriteTo, StaysElsewhere}
use Rattle.page_set.proofs.Stays.{still_long, stays}
use Rattle.param_copy.specs.declared.copied.Place.{Place}
use Rattle.rpc_cont.specs.Advancing.{IsAdvance}
use Rattle.rpc_cont.specs.Conts.{job_of}
use Rattle.rpc_cont.specs.declared.cont.Asked.{Asked}
use Rattle.rpc_cont.specs.declared.cont.Cont.{Cont}
use Rattle.rpc_cont.specs.declared.stop.ContStop.{ContStop}
use Rattle.rpc_msgs.specs.Place.{HasPlaces, arg_at, buffer_at, place_for, writes_at}
use Rattle.rpc_msgs.specs.Request.{IsPayloadOf, has_payload}
use Rattle.rpc_msgs.specs.declared.request_place.RequestPlace.{RequestPlace}
use Rattle.rpc_msgs.specs.declared.request_place.RequestPlace.TheVariants.{InArea, InBuffer}
use Rattle.rpc_msgs.specs.declared.rpc.Rpc.{Rpc}
use Rattle.rpc_msgs.specs.declared.rpc.Rpc.TheVariants as rpc
use Rattle.rpc_msgs.specs.declared.rpc_buffer.RpcBuffer.{RpcBuffer}
use Rattle.rpc_msgs.proofs.Messages.{request_writes-within}
use Rattle.smc_abi.specs.declared.regs.Regs.{Regs}
use Rattle.ta_params.specs.declared.call_result.CallResult.{CallResult}
use Rattle.ta_params.specs.declared.copied_params.CopiedParams.{CopiedParams}

-- ---- the payload of what is asked for

abbrev IsShort : Option Asked → Type 0
IsShort request = IfSome request (λ asked. length asked.payload ≤ 3584)

asked_short : (request : Option Asked) (wanted : Rpc) (payload : List ℕ) → IsShort request
    → request ≡ Some (record { rpc = wanted; payload = payload }) → length payload ≤ 3584
asked_short None wanted payload few is = absurd cc
asked_short (Some asked) wanted payload few is =
    let made : Asked = record { rpc = wanted; payload = payload } in
    let same : asked ≡ made = same_Some asked made is in
    subst (λ (a : Asked). length a.payload ≤ 3584) same few

granted_short : (cont : Cont (List ℕ)) (before granted used : ℕ) (wanted : Rpc) (payload : List ℕ) (later : Job) (why : ContStop)
    (found : Option Grant) → found ≡ Some (Stopped used (steps.Asks wanted payload later))
    → IsSomeAnd found (λ grant. IsAdvance bytes_of cont.app cont before granted grant why) → IsShort cont.request → length payload ≤ 3584
granted_short cont before granted used wanted payload later why found is advances few =
    let so = subst (λ (o : Option Grant). IsSomeAnd o (λ grant. IsAdvance bytes_of cont.app cont before granted grant why)) is advances in
    asked_short cont.request wanted payload few so.0.1.1

-- of a call that ran and has asked
ran_short : (cont : Cont (List ℕ)) (why : Option ContStop) (call : PendingCall) (granted used : ℕ) (job later : Job) (wanted : Rpc)
    (payload : List ℕ) → IsCarriedOut cont why call granted → call.phase ≡ Runs job
    → grant_of granted job ≡ Some (Stopped used (steps.Asks wanted payload later)) → IsShort cont.request → length payload ≤ 3584
ran_short cont None call granted used job later wanted payload out is stopped few = absurd (subst IsAtRest is out.1)
ran_short cont (Some why) call granted used job later wanted payload out is stopped few =
    let runs : Runs job ≡ Runs out.job = sym is ∙ out.runs in
    let same : job ≡ out.job = cc in
    let its : out.job ≡ job_of bytes_of out.before = (subst (IsInPhase out.before) out.runs out.is.phase).0 in
    granted_short cont out.before.steps granted used wanted payload later why (grant_of granted (job_of bytes_of out.before))
    (ap (λ (j : Job). grant_of granted j) (sym (same ∙ its)) ∙ stopped) out.ran.advances few

-- of one that rests, and had asked before
rests_short : (cont : Cont (List ℕ)) (why : Option ContStop) (call : PendingCall) (granted : ℕ) (job : Job) (wanted : Rpc)
    (payload : List ℕ) → IsCarriedOut cont why call granted → call.phase ≡ Asks job wanted payload → IsShort cont.request
    → length payload ≤ 3584
rests_short cont None call granted job wanted payload out is few =
    let at = subst (IsInPhase cont) is out.0.phase in
    asked_short cont.request wanted payload few at.1.1
rests_short cont (Some why) call granted job wanted payload out is few =
    let no : Runs out.job ≡ Asks job wanted payload = sym out.runs ∙ is in absurd cc

abbrev AsksShortly : Progress → Type 0
AsksShortly progress =
    (job : Job) (wanted : Rpc) (payload : List ℕ) → progress.call.phase ≡ Asks job wanted payload → length payload ≤ 3584

same_payload : (job other : Job) (wanted want : Rpc) (payload pay : List ℕ) → Asks job wanted payload ≡ Asks other want pay → payload ≡ pay
same_payload job other wanted want payload pay e = cc

asks_shortly : (tables : Tables) (call : PendingCall) (granted : ℕ) (progress : Progress) (cont : Cont (List ℕ)) (why : Option ContStop)
    → IsCarriedOut cont why call granted → progress_of tables call granted ≡ Some progress → IsShort cont.request → AsksShortly progress
asks_shortly tables call granted progress cont why out comes few = exits_all tables call granted AsksShortly progress (record {
  left = λ job later is so. λ j w p at. absurd cc;
  ends = λ job used end is so. λ j w p at. absurd cc;
  panics = λ job used code is so. λ j w p at. absurd cc;
  asks = λ job later used wanted payload is so. λ j w p at.
      subst (λ (bytes : List ℕ). length bytes ≤ 3584) (same_payload later j wanted w payload p at)
      (ran_short cont why call granted used job later wanted payload out is so few);
  asked = λ job wanted payload is. λ j w p at. rests_short cont why call granted j w p out at few;
  waits = λ params is. λ j w p at. let no : Waits params ≡ Asks j w p = sym is ∙ at in absurd cc;
  told = λ result params wakes is. λ j w p at. let no : Ends result params true wakes ≡ Asks j w p = sym is ∙ at in absurd cc;
  tells = λ result params wakes is. λ j w p at. absurd cc;
}) comes

-- ---- what is told of a call

-- the pages cover what the kernel's call has in RAM
record Covers (pages : List Bool) (call : PendingCall) : Type 0 where
  argument : CoversBytes pages call.arg 32
  places : AllByRecursion (CoversPlace call.arg pages) call.places
  area : (area : ℕ) → call.area ≡ Some area → CoversBytes pages area 160
  buffer : (buffer : RpcBuffer) → call.buffer ≡ Some buffer → CoversBytes pages buffer.addr 4096

module _ (pages : List Bool) where
  narrow : (addr : ℕ) → HasBytes pages addr 4096 → HasBytes pages addr 160
  narrow addr has = λ number below above. has number (omega (arith, below)) above

  module _ (wanted : Rpc) (payload : List ℕ) (few : length payload ≤ 3584) (is : IsPayloadOf wanted payload) where
    abbrev IsTold : RequestPlace → Type 0
    IsTold place = HasPlaces (arg_at place) (buffer_at place) wanted → AllByRecursion (IsWriteTo pages) (writes_at place wanted payload)

    in_buffer : (buffer : RpcBuffer) → CoversBytes pages buffer.addr 4096 → IsTold (InBuffer buffer)
    in_buffer buffer covers = λ can.
        let inside : IsInRam buffer.addr 4096 = can.whole buffer.addr refl in
        all_within pages buffer.addr (Some (buffer.addr, buffer.cookie)) (writes_at (InBuffer buffer) wanted payload) can.argument
        (λ first. narrow buffer.addr (covers inside))
        (λ there e.
        let same : buffer.addr ≡ there.0 = ap (λ (o : Option (ℕ × ℕ)). option_map_or (λ (t : ℕ × ℕ). t.0) o 0) e in
        (subst (λ (a : ℕ). IsInRam a 4096) same inside, subst (λ (a : ℕ). CoversBytes pages a 4096) same covers))
        (request_writes-within buffer.addr (Some (buffer.addr, buffer.cookie)) wanted payload few is (λ paid. refl))

    in_both : (area : ℕ) (buffer : RpcBuffer) → CoversBytes pages area 160 → CoversBytes pages buffer.addr 4096
        → IsTold (InArea area (Some buffer))
    in_both area buffer argument covers = λ can.
        let inside : IsInRam buffer.addr 4096 = can.whole buffer.addr refl in
        all_within pages area (Some (buffer.addr, buffer.cookie)) (writes_at (InArea area (Some buffer)) wanted payload) can.argument argument
        (λ there e.
        let same : buffer.addr ≡ there.0 = ap (λ (o : Option (ℕ × ℕ)). option_map_or (λ (t : ℕ × ℕ). t.0) o 0) e in
        (subst (λ (a : ℕ). IsInRam a 4096) same inside, subst (λ (a : ℕ). CoversBytes pages a 4096) same covers))
        (request_writes-within area (Some (buffer.addr, buffer.cookie)) wanted payload few is (λ paid. refl))

    in_area : (area : ℕ) → CoversBytes pages area 160 → IsTold (InArea area None)
    in_area area argument = λ can.
        all_within pages area None (writes_at (InArea area None) wanted payload) can.argument argument
        (λ there e. absurd cc)
        (request_writes-within area None wanted payload few is (λ paid. can.payload paid))

    placed : (area : Option ℕ) (buffer : Option RpcBuffer) (place : RequestPlace) → place_for area buffer wanted ≡ Some place
        → ((at : ℕ) → area ≡ Some at → CoversBytes pages at 160)
        → ((there : RpcBuffer) → buffer ≡ Some there → CoversBytes pages there.addr 4096) → IsTold place
    placed None None place e areas buffers = absurd cc
    placed None (Some buffer) place e areas buffers =
        let same : InBuffer buffer ≡ place = cc in subst IsTold same (in_buffer buffer (buffers buffer refl))
    placed (Some area) (Some buffer) place e areas buffers =
        let same : InArea area (Some buffer) ≡ place = cc in
        subst IsTold same (in_both area buffer (areas area refl) (buffers buffer refl))
    placed (Some area) None place e areas buffers = by_payload (has_payload wanted) e
      where
        by_payload : (paid : Bool) → cond (not paid) (Some (InArea area None)) None ≡ Some place → IsTold place
        by_payload true made = absurd cc
        by_payload false made =
            let same : InArea area None ≡ place = cc in subst IsTold same (in_area area (areas area refl))

  -- what it asks for
  request_in : (call : PendingCall) (request : Request) (at : Option RequestPlace) → place_of call request ≡ at → Covers pages call
      → length request.payload ≤ 3584 → CanTell call (option_map_or (λ place. Requests place request) at WantsBuffer)
      → AllByRecursion (IsWriteTo pages) (writes_of call (option_map_or (λ place. Requests place request) at WantsBuffer))
  request_in call request None is covers few can = tt
  request_in call request (Some place) is covers few can =
      placed request.wanted request.payload few can.2 call.area call.buffer place is covers.area covers.buffer can.0

  -- its end
  end_in : (call : PendingCall) (buffer : Option RpcBuffer) (result : CallResult) (params : CopiedParams) → Covers pages call
      → CanTell call (option_map_or FreesBuffer buffer (Finishes result params))
      → AllByRecursion (IsWriteTo pages) (writes_of call (option_map_or FreesBuffer buffer (Finishes result params)))
  end_in call None result params covers can = result_in pages call result params can.0 can.1 covers.argument covers.places
  end_in call (Some buffer) result params covers can = tt

  told_in : (slot : ℕ) (call : PendingCall) → Covers pages call
      → ((job : Job) (wanted : Rpc) (payload : List ℕ) → call.phase ≡ Asks job wanted payload → length payload ≤ 3584)
      → CanTell call (leaving_of slot call) → AllByRecursion (IsWriteTo pages) (writes_of call (leaving_of slot call))
  told_in slot call covers few can = by call.phase refl can
    where
      by : (at : CallPhase) → call.phase ≡ at → CanTell call (leaving_in slot call at)
          → AllByRecursion (IsWriteTo pages) (writes_of call (leaving_in slot call at))
      by (Runs its) is can = tt
      by (Asks its wanted payload) is can =
          let request : Request = record { wanted = wanted; payload = payload } in
          request_in call request (place_of call request) refl covers (few its wanted payload is) can
      by (Waits params) is can =
          let request : Request = plain_request (rpc.Sleep slot) in
          request_in call request (place_of call request) refl covers (omega arith) can
      by (Ends result params told (Some woken)) is can =
          let request : Request = plain_request (rpc.Wake woken) in
          request_in call request (place_of call request) refl covers (omega arith) can
      by (Ends result params told None) is can = end_in call call.buffer result params covers can

  -- ---- the call as data

  of_carried : (call : Carried) (cont : Box (Cont (List ℕ))) → CoversCarried pages call → call_carried call ≡ Some cont
      → CoversCall pages cont.value
  of_carried carried.Nothing cont covers is = absurd cc
  of_carried (carried.Resting its) cont covers is =
      let same : its ≡ cont = same_Some its cont is in subst (λ (b : Box (Cont (List ℕ))). CoversCall pages b.value) same covers
  of_carried (carried.Running its) cont covers is =
      let same : its ≡ cont = same_Some its cont is in subst (λ (b : Box (Cont (List ℕ))). CoversCall pages b.value) same covers

  -- what covers it covers the kernel's
  of_call : (cont : Cont (List ℕ)) (call : PendingCall) → cont.arg ≡ call.arg → cont.area ≡ call.area → cont.places.items ≡ call.places
      → cont.buffer ≡ call.buffer → CoversCall pages cont → Covers pages call
  of_call cont call arg area places buffer covers = record {
    argument = subst (λ (a : ℕ). CoversBytes pages a 32) arg covers.argument;
    places = subst (λ (a : ℕ). AllByRecursion (CoversPlace a pages) call.places) arg
        (subst (λ (all : List Place). AllByRecursion (CoversPlace cont.arg pages) all) places covers.places);
    area = λ at is. covers.area at (area ∙ is);
    buffer = λ there is. covers.buffer there (buffer ∙ is);
  }

  carried_out : (cont : Cont (List ℕ)) (why : Option ContStop) (call : PendingCall) (granted : ℕ) → IsCarriedOut cont why call granted
      → CoversCall pages cont → Covers pages call
  carried_out cont None call granted out covers =
      of_call cont call out.0.arg out.0.area out.0.places out.0.buffer covers
  carried_out cont (Some why) call granted out covers =
      let keeps = kept_by_run granted out.before cont why out.ran in
      of_call cont call (keeps.arg ∙ out.is.arg) (keeps.area ∙ out.is.area) (ap (λ p. p.items) keeps.places ∙ out.is.places)
      (keeps.buffer ∙ out.is.buffer) covers

  -- ---- the exit

  exit_in : (parts : Parts) (ran : Ran) (came : Regs) (errand : Errand) (exited : Exited) → CoversCarried pages ran.call
      → Goes parts ran came errand → exit_after (booted_of_setup parts.setup) parts.journal.events ran.cpu ≡ Some exited
      → AllByRecursion (IsWriteTo pages) exited.writes
  exit_in parts ran came (Fixed answer) exited covers its e =
      let visit : model.Visit = record { cpu = ran.cpu; regs = came.a; steps = its.goes.steps } in
      let made : Exited = goes_out its.kernel visit answer [] in
      let is : exit_after (booted_of_setup parts.setup) parts.journal.events ran.cpu ≡ Some made =
      ap (λ (o : Option model.Kernel). option_and_then (λ kernel. exit kernel ran.cpu) o) its.comes
      ∙ ap (λ (p : Option model.Processor). option_and_then (exit_of its.kernel ran.cpu) p) its.goes.inside in
      subst (λ (x : Exited). AllByRecursion (IsWriteTo pages) x.writes) (same_Some made exited (sym is ∙ e)) tt
  exit_in parts ran came (InSlot slot) exited covers its e =
      let so = goes_from_slot parts ran came slot its in
      let kernel = so.its.kernel in
      let call = so.carries.call in
      let progress = so.exits.progress in
      let visit : model.Visit = record { cpu = ran.cpu; regs = came.a; steps = so.its.goes.steps } in
      let made : Exited = goes_out_from kernel visit slot progress in
      let is : exit_after (booted_of_setup parts.setup) parts.journal.events ran.cpu ≡ Some made =
      ap (λ (o : Option model.Kernel). option_and_then (λ k. exit k ran.cpu) o) so.its.comes ∙ so.exits.exits in
      let cont = so.carries.cont.value in
      let its_pages = of_carried ran.call so.carries.cont covers so.carries.there in
      let was = carried_out cont ran.stop call so.its.goes.steps so.carries.is its_pages in
      let stay = stays_so kernel.tables call so.its.goes.steps progress so.exits.comes in
      let now : Covers pages progress.call = record {
        argument = subst (λ (a : ℕ). CoversBytes pages a 32) (sym stay.arg) was.argument;
        places = subst (λ (a : ℕ). AllByRecursion (CoversPlace a pages) progress.call.places) (sym stay.arg)
            (subst (λ (all : List Place). AllByRecursion (CoversPlace call.arg pages) all) (sym stay.places) was.places);
        area = λ at there. was.area at (sym stay.area ∙ there);
        buffer = λ buffer there. was.buffer buffer (sym stay.buffer ∙ there);
      } in
      subst (λ (x : Exited). AllByRecursion (IsWriteTo pages) x.writes) (same_Some made exited (sym is ∙ e))
      (told_in slot progress.call now
      (asks_shortly kernel.tables call so.its.goes.steps progress cont ran.stop so.carries.is so.exits.comes its_pages.payload) so.can)

  truly_in : (core : Core) (ran : Ran) (exited : Exited) → CoversCarried pages ran.call → CanLeave core ran
      → exit_after (booted_of core) (events_of core) ran.cpu ≡ Some exited → ∥ AllByRecursion (IsWriteTo pages) exited.writes ∥₁
  truly_in core ran exited covers can e =
      by (slice_get core.parts.processors.items ran.cpu) refl (is_inside core.parts ran core.replay can)
    where
      by : (there : Option Processor) → slice_get core.parts.processors.items ran.cpu ≡ there → IsSomeAnd there IsInside
          → ∥ AllByRecursion (IsWriteTo pages) exited.writes ∥₁
      by None at inside = absurd inside
      by (Some Outside) at inside = absurd inside
      by (Some (Inside came granted errand)) at inside =
          let for : IsSomeAnd (slice_get core.parts.processors.items ran.cpu) (IsInsideFor came errand) =
          subst (λ (o : Option Processor). IsSomeAnd o (IsInsideFor came errand)) (sym at) (refl, refl) in
          ∥∥₁_map (goes_truly core.parts ran came errand core.replay can for) (λ (its : Goes core.parts ran came errand).
          exit_in core.parts ran came errand exited covers its e)

  pub exit_stays : (core : Core) (ran : Ran) (exited : Exited) (lane : List ℕ) → CoversCarried pages ran.call → CanLeave core ran
      → length lane ≡ 0x400000 → exit_after (booted_of core) (events_of core) ran.cpu ≡ Some exited
      → StaysElsewhere pages lane (lane_after lane exited.writes)
  exit_stays core ran exited lane covers can whole e = λ number few none.
      ∥∥₁_elim (truly_in core ran exited covers can e) (Prim.hlevel props)
      (λ (all : AllByRecursion (IsWriteTo pages) exited.writes). stays pages lane exited.writes whole all number few none)

  pub exit_long : (core : Core) (ran : Ran) (exited : Exited) (lane : List ℕ) → CoversCarried pages ran.call → CanLeave core ran
      → length lane ≡ 0x400000 → exit_after (booted_of core) (events_of core) ran.cpu ≡ Some exited
      → length (lane_after lane exited.writes) ≡ 0x400000
  exit_long core ran exited lane covers can whole e =
      ∥∥₁_elim (truly_in core ran exited covers can e) (Prim.hlevel props)
      (λ (all : AllByRecursion (IsWriteTo pages) exited.writes). still_long pages lane exited.writes whole all ∙ whole)
