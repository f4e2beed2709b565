-- What an exit writes lies in RAM, in every kernel that a legal history comes to.
use Rattle.std.proofs.Common.{◌≡◌, ℕ, ◌+◌, ◌-◌, ◌≤◌, Bool, true, false, List, [], ◌∷◌, ◌++◌, length, take, drop, Option, Some, None, nat_eq, refl, sym, ap, subst, ◌∙◌, arith}
use Rattle.std.specs.Prelude.{IsSome, slice_get, if◌then◌else◌, ◌==◌, unwrap_or}
use Rattle.std.specs.List.{AllByRecursion}
use Rattle.std.specs.Option.{option_and_then}
use Rattle.std.proofs.lemmas.Bool.Decides.{nat_tests}
use Rattle.std.proofs.lemmas.List.{length-append, length-drop, length-take}
use Rattle.std.proofs.lemmas.Option.{option_and_then_some, same_Some}
use Rattle.event_journal.specs.declared.event.Event.{Event}
use Rattle.event_journal.specs.declared.event.Event.TheVariants.{Exit}
use Rattle.job_model.specs.Job.{Job}
use Rattle.job_model.specs.declared.call_kind.CallKind.{CallKind}
use Rattle.job_model.specs.declared.call_kind.CallKind.TheVariants as kind
use Rattle.kernel_model.specs.Application.{Booted, IsBooted}
use Rattle.kernel_model.specs.Codes.{success}
use Rattle.kernel_model.specs.Exit.{Exited, exit, exit_of, goes_out, goes_out_from, output_writes, result_writes, session_writes, word32, writes_of}
use Rattle.kernel_model.specs.History.{kernel_after}
use Rattle.kernel_model.specs.Kernel.{Active, Asks, Fixed, InSlot, Inside, Kernel, Outside, PendingCall, Processor, Visit}
use Rattle.kernel_model.specs.Leaving.{FreesBuffer, Finishes, Interrupted, Leaving, Requests, WantsBuffer, leaving_of}
use Rattle.kernel_model.specs.Sound.{unmarked_in, unmarked}
use Rattle.kernel_model.specs.SoundPlaces.{HasItsPlaces}
use Rattle.kernel_model.specs.SoundRequests.{HasFittingRequest}
use Rattle.kernel_model.proofs.SoundPlaces.{calls_placed}
use Rattle.kernel_model.proofs.SoundRequests.{calls_fit}
use Rattle.kernel_model.proofs.SoundWork.{works}
use Rattle.kernel_exit.specs.GoingOut.{CanTell}
use Rattle.kernel_exit.proofs.ByLaws.{ExitsFrom, asks_there, can_tell, exits_from, stays_so}
use Rattle.kernel_exit.proofs.StandsAfter.{comes_behind}
use Rattle.msg_args.specs.Spelling.{spelling}
use Rattle.ns_ram.specs.Lane.{IsInRam, bytes_put}
use Rattle.ns_ram.specs.Writes.{IsWriteOfRam, Write, lane_after}
use Rattle.ns_ram.proofs.LaneBytes.{length-bytes_put}
use Rattle.ns_ram.proofs.WriteList.{AllInRam-append}
use Rattle.param_copy.specs.Places.{IsWritable}
use Rattle.param_copy.specs.WritingBack.{params_of, writes_back}
use Rattle.param_copy.specs.declared.copied.Place.{Place}
use Rattle.param_copy.proofs.Writing.{writes_of-in_ram}
use Rattle.rpc_msgs.specs.Place.{HasPlaces, arg_at, buffer_at, payload_place, writes_at}
use Rattle.rpc_msgs.specs.Request.{IsPayloadOf, request_arg}
use Rattle.rpc_msgs.specs.declared.request_place.RequestPlace.{RequestPlace}
use Rattle.rpc_msgs.specs.declared.request_place.RequestPlace.TheVariants.{InArea, InBuffer}
use Rattle.rpc_msgs.specs.declared.rpc.Rpc.{Rpc}
use Rattle.rpc_msgs.proofs.Messages.{length-spelling, payload-placed}
use Rattle.smc_abi.specs.declared.regs.Regs.{Regs}
use Rattle.ta_params.specs.declared.call_result.CallResult.{CallResult}
use Rattle.ta_params.specs.declared.copied_params.CopiedParams.{CopiedParams}

-- ---- a request

-- bytes that were written behind the start of RAM, and have made it no longer, lie in it
fits : (lane : List ℕ) (addr : ℕ) (bytes : List ℕ) → length lane ≡ 0x400000 → 0x40000000 ≤ addr → addr ≤ 0x40000000 + 0x400000
    → length (bytes_put lane addr bytes) ≡ 0x400000 → IsInRam addr (length bytes)
fits lane addr bytes whole above below still =
    let offset = addr - 0x40000000 in
    let front = length-take offset lane in
    let back = length-drop (offset + length bytes) lane in
    let first = length-append (take offset lane) bytes in
    let all = length-append (take offset lane ++ bytes) (drop (offset + length bytes) lane) in
    (above, omega (arith, whole, below, still, front, back, first, all))

-- the payload is written to this buffer
payload_in_ram : (lane now payload : List ℕ) (buffer : ℕ) → IsInRam buffer 4096 → length lane ≡ 0x400000 → length now ≡ 0x400000
    → now ≡ bytes_put lane (buffer + 512) payload → IsInRam (buffer + 512) (length payload)
payload_in_ram lane now payload buffer inside whole still is =
    fits lane (buffer + 512) payload whole (omega (arith, inside.0)) (omega (arith, inside.1))
    (sym (ap (λ (bytes : List ℕ). length bytes) is) ∙ still)

nowhere : (buffer : Option ℕ) → buffer ≡ None → IsSome buffer → ⊥
nowhere None is there = cc
nowhere (Some addr) is there = cc

-- the argument
argument_in_ram : (at : ℕ) (there : ℕ × ℕ) (rpc : Rpc) → IsInRam at 160
    → IsWriteOfRam (record { addr = at; bytes = spelling (request_arg there.0 there.1 rpc) })
argument_in_ram at there rpc inside = (inside.0, omega (arith, inside.1, length-spelling there.0 there.1 rpc))

module _ (rpc : Rpc) (lane now : List ℕ) (whole : length lane ≡ 0x400000) (still : length now ≡ 0x400000) where
  -- behind the argument
  behind : ℕ → ℕ × ℕ → List ℕ
  behind at there = bytes_put lane at (spelling (request_arg there.0 there.1 rpc))

  with_buffer : (at : ℕ) (there : ℕ × ℕ) (byte : ℕ) (bytes : List ℕ) → IsInRam at 160 → IsInRam there.0 4096
      → now ≡ bytes_put (bytes_put lane at (spelling (request_arg there.0 there.1 rpc))) (there.0 + 512) (byte ∷ bytes)
      → IsInRam (there.0 + 512) (length (byte ∷ bytes))
  with_buffer at there byte bytes argument inside is =
      let first = bytes_put lane at (spelling (request_arg there.0 there.1 rpc)) in
      payload_in_ram first now (byte ∷ bytes) there.0 inside
      (length-bytes_put lane at (spelling (request_arg there.0 there.1 rpc)) whole (argument_in_ram at there rpc argument)) still is

  request_in_ram : (place : RequestPlace) (payload : List ℕ) → HasPlaces (arg_at place) (buffer_at place) rpc → IsPayloadOf rpc payload
      → now ≡ lane_after lane (writes_at place rpc payload) → AllByRecursion IsWriteOfRam (writes_at place rpc payload)
  request_in_ram place [] places is written =
      (argument_in_ram (arg_at place) (unwrap_or (payload_place place) (0, 0)) rpc places.argument, tt)
  request_in_ram (InBuffer buffer) (byte ∷ bytes) places is written = (
    argument_in_ram buffer.addr (buffer.addr, buffer.cookie) rpc places.argument,
    (with_buffer buffer.addr (buffer.addr, buffer.cookie) byte bytes places.argument (places.whole buffer.addr refl) written, tt),
  )
  request_in_ram (InArea area (Some buffer)) (byte ∷ bytes) places is written = (
    argument_in_ram area (buffer.addr, buffer.cookie) rpc places.argument,
    (with_buffer area (buffer.addr, buffer.cookie) byte bytes places.argument (places.whole buffer.addr refl) written, tt),
  )
  request_in_ram (InArea area None) (byte ∷ bytes) places is written =
      let some : nat_eq (length (byte ∷ bytes)) 0 ≡ false = grind (arith, nat_tests) in
      absurd (nowhere None refl (places.payload (payload-placed rpc (byte ∷ bytes) is some)))

-- ---- a result

word_in_ram : (arg offset number : ℕ) → IsInRam arg 32 → offset ≤ 28 → IsWriteOfRam (word32 (arg + offset) number)
word_in_ram arg offset number inside few = (omega (arith, inside.0), omega (arith, inside.1, few))

-- by a choice
chosen : (test : Bool) (writes : List Write) → AllByRecursion IsWriteOfRam writes → AllByRecursion IsWriteOfRam (if test then writes else [])
chosen true writes all = all
chosen false writes all = tt

outputs_in_ram : (call : PendingCall) (result : CallResult) (params : CopiedParams) → AllByRecursion (IsWritable call.arg) call.places
    → AllByRecursion IsWriteOfRam (output_writes call result params)
outputs_in_ram call result params places =
    chosen (result.origin == 4) (writes_back call.arg call.places params) (writes_of-in_ram call.arg call.places (params_of params) places)

session_in_ram : (call : PendingCall) (of : CallKind) (result : CallResult) → IsInRam call.arg 32
    → AllByRecursion IsWriteOfRam (session_writes call of result)
session_in_ram call kind.Open result inside =
    chosen (result.result == success) (word32 (call.arg + 8) call.session ∷ []) (word_in_ram call.arg 8 call.session inside (omega arith), tt)
session_in_ram call (kind.Invoke func) result inside = tt
session_in_ram call kind.Close result inside = tt
session_in_ram call kind.Settled result inside = tt

result_in_ram : (call : PendingCall) (result : CallResult) (params : CopiedParams) → IsInRam call.arg 32
    → AllByRecursion (IsWritable call.arg) call.places → AllByRecursion IsWriteOfRam (result_writes call result params)
result_in_ram call result params inside places =
    let last = word32 (call.arg + 20) result.result ∷ word32 (call.arg + 24) result.origin ∷ [] in
    let told : AllByRecursion IsWriteOfRam last =
    (word_in_ram call.arg 20 result.result inside (omega arith), (word_in_ram call.arg 24 result.origin inside (omega arith), tt)) in
    AllInRam-append (output_writes call result params ++ session_writes call call.kind result) last
    (AllInRam-append (output_writes call result params) (session_writes call call.kind result)
    (outputs_in_ram call result params places) (session_in_ram call call.kind result inside))
    told

-- ---- an exit

told_in_ram : (call : PendingCall) (leaving : Leaving) (lane now : List ℕ) → CanTell call leaving → length lane ≡ 0x400000
    → length now ≡ 0x400000 → now ≡ lane_after lane (writes_of call leaving) → AllByRecursion IsWriteOfRam (writes_of call leaving)
told_in_ram call Interrupted lane now can whole still is = tt
told_in_ram call WantsBuffer lane now can whole still is = tt
told_in_ram call (Requests place request) lane now can whole still is =
    request_in_ram request.wanted lane now whole still place request.payload can.0 can.2 is
told_in_ram call (FreesBuffer buffer) lane now can whole still is = tt
told_in_ram call (Finishes result params) lane now can whole still is = result_in_ram call result params can.0 can.1

module _ (boot : Booted) (history : List Event) (kernel : Kernel) (booted : IsBooted boot) (comes : kernel_after boot history ≡ Some kernel)
    (cpu slot steps : ℕ) (regs : List ℕ) (call : PendingCall)
    (inside : slice_get kernel.processors cpu ≡ Some (Inside regs steps (InSlot slot)))
    (active : slice_get kernel.slots slot ≡ Some (Active cpu call)) where
  visit : Visit
  visit = record { cpu = cpu; regs = regs; steps = steps }

  asked_fits : (exits : ExitsFrom kernel cpu slot steps regs call) (asking : Job) (wanted : Rpc) (payload : List ℕ)
      → exits.progress.call.phase ≡ Asks asking wanted payload → HasFittingRequest (unmarked exits.progress.call)
  asked_fits exits asking wanted payload is =
      let exited : Exited = goes_out_from kernel (record { cpu = cpu; regs = regs; steps = steps }) slot exits.progress in
      let told : Regs = record { a = exited.regs } in
      calls_fit boot (history ++ Exit cpu told ∷ []) exited.kernel booted
      (comes_behind boot history kernel cpu told exited comes exits.exits refl)
      slot (unmarked exits.progress.call)
      (asks_there kernel.slots slot (Active cpu call) exits.progress.call asking wanted payload active is)

  can_be_told : (exits : ExitsFrom kernel cpu slot steps regs call) → CanTell exits.progress.call (leaving_of slot exits.progress.call)
  can_be_told exits =
      let stays = stays_so kernel.tables call steps exits.progress exits.comes in
      let has : HasItsPlaces (unmarked call) = calls_placed boot history kernel booted comes slot (unmarked call) (ap (option_and_then unmarked_in) active) in
      can_tell slot exits.progress.call
      (subst (λ (arg : ℕ). IsInRam arg 32) (sym stays.arg) has.argument)
      (subst (λ (arg : ℕ). AllByRecursion (IsWritable arg) exits.progress.call.places) (sym stays.arg)
      (subst (λ (places : List Place). AllByRecursion (IsWritable call.arg) places) (sym stays.places) has.places))
      (λ area there. has.area area (sym stays.area ∙ there))
      (λ place there. has.buffer place (sym stays.buffer ∙ there))
      (λ asking wanted payload is.
      let fits = asked_fits exits asking wanted payload is in
      (fits.request asking wanted payload is, fits.payload asking wanted payload is))

  call_in_ram : (exited : Exited) (lane now : List ℕ) → exit kernel cpu ≡ Some exited → length lane ≡ 0x400000 → length now ≡ 0x400000
      → now ≡ lane_after lane exited.writes → AllByRecursion IsWriteOfRam exited.writes
  call_in_ram exited lane now e whole still is =
      let exits = exits_from boot history kernel cpu slot steps regs call booted comes inside active in
      let made : Exited = goes_out_from kernel (record { cpu = cpu; regs = regs; steps = steps }) slot exits.progress in
      let same : made ≡ exited = same_Some made exited (sym exits.exits ∙ e) in
      subst (λ (x : Exited). AllByRecursion IsWriteOfRam x.writes) same
      (told_in_ram exits.progress.call (leaving_of slot exits.progress.call) lane now (can_be_told exits) whole still
      (is ∙ ap (λ (x : Exited). lane_after lane x.writes) (sym same)))

-- RAM is as long behind an exit as it was, so what the exit writes lies in it
pub exit_in_ram : (boot : Booted) (history : List Event) (kernel : Kernel) (cpu : ℕ) (exited : Exited) (lane now : List ℕ) → IsBooted boot
    → kernel_after boot history ≡ Some kernel → exit kernel cpu ≡ Some exited → length lane ≡ 0x400000 → length now ≡ 0x400000
    → now ≡ lane_after lane exited.writes → AllByRecursion IsWriteOfRam exited.writes
exit_in_ram boot history kernel cpu exited lane now booted comes e whole still is =
    option_and_then_some (exit_of kernel cpu) (slice_get kernel.processors cpu) exited e by
  where
    by : (was : Processor) → slice_get kernel.processors cpu ≡ Some was → exit_of kernel cpu was ≡ Some exited
        → AllByRecursion IsWriteOfRam exited.writes
    by Outside there onward = absurd cc
    by (Inside regs steps (Fixed told)) there onward =
        let made : Exited = goes_out kernel (record { cpu = cpu; regs = regs; steps = steps }) told [] in
        let same : made ≡ exited = same_Some made exited onward in
        subst (λ (x : Exited). AllByRecursion IsWriteOfRam x.writes) same tt
    by (Inside regs steps (InSlot slot)) there onward =
        let work = (works boot history kernel comes).work cpu slot steps regs there in
        call_in_ram boot history kernel booted comes cpu slot steps regs work.0 there work.1 exited lane now e whole still is
