-- What an entry asks for lies in RAM.
use Rattle.std.proofs.Common.{◌≡◌, ℕ, ◌+◌, ◌≤◌, Bool, true, false, List, [], ◌∷◌, Option, Some, None, Ok, refl, ap}
use Rattle.std.proofs.Common.{subst, arith}
use Rattle.std.specs.Prelude.{find, if◌then◌else◌, is_none, is_some, length, nat_le, nat_lt, not, unwrap_or, ◌-◌, ◌==◌, ◌%◌}
use Rattle.std.specs.List.{AllByRecursion}
use Rattle.std.specs.Option.{option_and_then, option_map, option_map_or}
use Rattle.std.proofs.lemmas.Bool.{and_parts}
use Rattle.std.proofs.lemmas.Bool.Decides.{nat_tests}
use Rattle.event_journal.specs.declared.event.Event.{Event}
use Rattle.job_model.specs.Job.{Job}
use Rattle.kernel_model.specs.Application.{Booted, IsBooted}
use Rattle.kernel_model.specs.Argument.{invocation, opening, params_in, reg, registering, thread_in}
use Rattle.kernel_model.specs.Argument.{unregistering}
use Rattle.kernel_model.specs.Codes.{bad_parameters, busy, ebadaddr, ebadcmd, eresume, ethread_limit, item_not_found}
use Rattle.kernel_model.specs.Codes.{out_of_memory, target_dead}
use Rattle.kernel_model.specs.Decision.{Answers, Taken, Tested, decided_by, taken_by}
use Rattle.kernel_model.specs.Entry.{decision_of, entry}
use Rattle.kernel_model.specs.Given.{given_after, given_to}
use Rattle.kernel_model.specs.History.{kernel_after}
use Rattle.kernel_model.specs.Instances.{app_of}
use Rattle.kernel_model.specs.Kernel.{Asks, CallPhase, Ends, Kernel, PendingCall, Runs, Tables, ThreadSlot, Visit}
use Rattle.kernel_model.specs.Kernel.{Waits, lowest_free}
use Rattle.kernel_model.specs.Leaving.{FreesBuffer, Finishes, Request, Requests, WantsBuffer, asks_for, leaving_in}
use Rattle.kernel_model.specs.Leaving.{place_of, plain_request}
use Rattle.kernel_model.specs.Located.{Located, has_argument, has_bytes, has_head, has_room, located}
use Rattle.kernel_model.specs.NewCall.{NewCall, cancel_calls, cancels, close_session, closes, command_of, commands}
use Rattle.kernel_model.specs.NewCall.{copied_params, drops_buffer, has_pages, has_session_room, invokes}
use Rattle.kernel_model.specs.NewCall.{is_taken, keeps_buffer, offset_in, opens_or_waits, pages_touched, settles}
use Rattle.kernel_model.specs.NewCall.{settles_invoke, settles_open, shares_one, invoke_command, new_call}
use Rattle.kernel_model.specs.NewCall.{listed_pages, named_session, new_call_in, new_call_of, new_call_with}
use Rattle.kernel_model.specs.NewCall.{open_session, parameters, register_memory, unregister_memory}
use Rattle.kernel_model.specs.Resume.{call_resumed_by, resume_call, takes_call}
use Rattle.kernel_model.specs.Sound.{unmarked_in, unmarked}
use Rattle.kernel_model.proofs.Copied.{HaveGoodPages, argument_inside}
use Rattle.kernel_model.proofs.SoundPlaces.{calls_placed}
use Rattle.kernel_model.proofs.SoundRequests.{calls_fit}
use Rattle.kernel_model.proofs.Suspended.{suspended_there}
use Rattle.msg_args.specs.Layout.{argument_len, p_at, params_at, params_len, q_at, ret_at}
use Rattle.msg_args.specs.Reading.{head_at}
use Rattle.msg_args.specs.declared.param.MsgParam.{MsgParam}
use Rattle.shm_registry.specs.Registered.{lowest_slot}
use Rattle.base.specs.NumberMap.{get}
use Rattle.ns_ram.specs.Attempt.{faultless, known}
use Rattle.ns_ram.specs.Lane.{IsInRam, is_in_ram}
use Rattle.ns_ram.specs.Reader.{done, take_bytes}
use Rattle.param_copy.specs.Copying.{copying}
use Rattle.rpc_msgs.specs.Answer.{nothing_read}
use Rattle.rpc_msgs.specs.Place.{HasPlaces, arg_at, buffer_at, reader_at}
use Rattle.rpc_msgs.specs.Reply.{descriptor_of, payload_of, piece_of, reply_reader, take_u32, take_u64}
use Rattle.rpc_msgs.specs.Request.{IsRequest, payload_at}
use Rattle.rpc_msgs.specs.declared.request_place.RequestPlace.{RequestPlace}
use Rattle.rpc_msgs.proofs.Places.{buffer_whole, placed_whole}
use Rattle.rpc_msgs.specs.declared.rpc.Rpc.{Rpc}
use Rattle.rpc_msgs.specs.declared.rpc.Rpc.TheVariants.{Time, Sleep, Wake, Suspend, FsOpen, FsCreate, FsClose, FsRead}
use Rattle.rpc_msgs.specs.declared.rpc.Rpc.TheVariants.{FsWrite, FsRemove}
use Rattle.rpc_msgs.specs.declared.rpc.Rpc.TheVariants as rpc
use Rattle.rpc_msgs.specs.declared.rpc_buffer.RpcBuffer.{RpcBuffer}
use Rattle.smc_abi.specs.Call.{call_of}
use Rattle.smc_abi.specs.declared.call.Call.{Call}
use Rattle.smc_abi.specs.declared.call.Call.TheVariants.{Fast, Resume, Unknown, WithArg, WithRegdArg, WithRpcArg}
use Rattle.ta_params.specs.declared.call_result.CallResult.{CallResult}
use Rattle.ta_params.specs.declared.copied_params.CopiedParams.{CopiedParams}
use Rattle.kernel_model.proofs.CopiesAsk.{asks_copies}
use Rattle.kernel_model.proofs.PagesKept.{pages_kept}
use Rattle.kernel_model.proofs.Asking.{AsksRam, asks_done, asks_if, asks_on, asks_taken, asks_walk, faultless_so, knows_on}
use Rattle.kernel_model.proofs.Asking.{needs_on, passes_on, reads_so}

-- ---- the reply to a request

u32_asks : (addr : ℕ) → IsInRam addr 4 → AsksRam (take_u32 addr)
u32_asks addr inside = asks_on (take_bytes addr 4) _ (asks_taken addr 4 inside)
    (λ bytes. asks_done _)

u64_asks : (addr : ℕ) → IsInRam addr 8 → AsksRam (take_u64 addr)
u64_asks addr inside = asks_on (take_bytes addr 8) _ (asks_taken addr 8 inside)
    (λ bytes. asks_done _)

payload_asks : (buffer most size : ℕ) → IsInRam buffer 4096 → most ≤ 3584 → AsksRam (payload_of buffer most size)
payload_asks buffer most size inside few =
    let low = inside.0 in
    let high = inside.1 in
    asks_if (nat_le size most) _ _
    (λ (fits : nat_le size most ≡ true).
    let within : size ≤ most = grind (arith, nat_tests) in
    asks_taken (payload_at buffer) size (omega (arith, low), omega (arith, high, within, few)))
    (λ long. asks_done _)

module _ (at : ℕ) (inside : IsInRam at 160) where
  low : 0x40000000 ≤ at
  low = inside.0

  high : at + 160 ≤ 0x40000000 + 0x400000
  high = inside.1

  ret_asks : AsksRam (take_u32 (ret_at at))
  ret_asks = u32_asks (ret_at at) (omega (arith, low), omega (arith, high))

  descriptor_asks : AsksRam (descriptor_of at)
  descriptor_asks =
      asks_on (take_u32 (ret_at at)) _ ret_asks (λ ret.
      asks_on (take_u64 (p_at at 2)) _ (u64_asks (p_at at 2) (omega (arith, low), omega (arith, high)))
      (λ fd. asks_done (record nothing_read { ret = ret; v = fd })))

  piece_asks : (buffer len : ℕ) → IsInRam buffer 4096 → len ≤ 3584 → AsksRam (piece_of at buffer len)
  piece_asks buffer len whole fits =
      asks_on (take_u32 (ret_at at)) _ ret_asks (λ ret.
      asks_on (take_u64 (q_at at 1)) _
      (u64_asks (q_at at 1) (omega (arith, low), omega (arith, high))) (λ size.
      asks_on (payload_of buffer len size) _ (payload_asks buffer len size whole fits)
      (λ bytes. asks_done (record nothing_read { ret = ret; size = size; bytes = bytes }))))

  reply_asks : (buffer : Option ℕ) (wanted : Rpc) → HasPlaces at buffer wanted → IsRequest wanted → AsksRam (reply_reader at buffer wanted)
  reply_asks buffer Time places fits =
      asks_on (take_u32 (ret_at at)) _ ret_asks (λ ret.
      asks_on (take_u64 (p_at at 0)) _
      (u64_asks (p_at at 0) (omega (arith, low), omega (arith, high))) (λ seconds.
      asks_on (take_u64 (q_at at 0)) _ (u64_asks (q_at at 0) (omega (arith, low), omega (arith, high)))
      (λ nanoseconds. asks_done (record nothing_read { ret = ret; v = seconds; w = nanoseconds }))))
  reply_asks buffer (Sleep key) places fits = asks_done _
  reply_asks buffer (Wake key) places fits = asks_done _
  reply_asks buffer (Suspend ms) places fits = asks_done _
  reply_asks buffer (FsOpen name) places fits = descriptor_asks
  reply_asks buffer (FsCreate name) places fits = descriptor_asks
  reply_asks buffer (FsClose fd) places fits = asks_on (take_u32 (ret_at at)) _ ret_asks
      (λ ret. asks_done (record nothing_read { ret = ret }))
  reply_asks buffer (FsRead fd offset len) places fits =
      piece_asks (unwrap_or buffer 0) len (buffer_whole at buffer (FsRead fd offset len) places refl) fits
  reply_asks buffer (FsWrite fd offset len) places fits = asks_on (take_u32 (ret_at at)) _ ret_asks
      (λ ret. asks_done (record nothing_read { ret = ret }))
  reply_asks buffer (FsRemove name) places fits = asks_on (take_u32 (ret_at at)) _ ret_asks
      (λ ret. asks_done (record nothing_read { ret = ret }))

-- ---- what a resume gives

-- where the call has an area or a buffer it lies in RAM, and what it asks for fits a message
record IsFitting (call : PendingCall) : Type 0 where
  area : (area : ℕ) → call.area ≡ Some area → IsInRam area 160
  placed : (buffer : RpcBuffer) → call.buffer ≡ Some buffer → IsInRam buffer.addr 4096
  request : (job : Job) (wanted : Rpc) (payload : List ℕ) → call.phase ≡ Asks job wanted payload → IsRequest wanted

asked_asks : (regs : List ℕ) (at : Option RequestPlace) (request : Request)
    → ((place : RequestPlace) → at ≡ Some place → HasPlaces (arg_at place) (buffer_at place) request.wanted) → IsRequest request.wanted
    → AsksRam (given_after regs (option_map_or (λ place. Requests place request) at WantsBuffer))
asked_asks regs None request placed fits = asks_done _
asked_asks regs (Some place) request placed fits =
    let places = placed place refl in
    asks_on (reader_at place request.wanted) _
    (reply_asks (arg_at place) places.argument (buffer_at place) request.wanted places fits)
    (λ reply. asks_done _)

ended_asks : (regs : List ℕ) (buffer : Option RpcBuffer) (result : CallResult) (params : CopiedParams)
    → AsksRam (given_after regs (option_map_or FreesBuffer buffer (Finishes result params)))
ended_asks regs None result params = asks_done _
ended_asks regs (Some place) result params = asks_done _

resume_asks : (regs : List ℕ) (slot : ℕ) (call : PendingCall) → IsFitting call → AsksRam (given_to regs slot call)
resume_asks regs slot call fits = by call.phase refl
  where
    asks : (request : Request) → IsRequest request.wanted → AsksRam (given_after regs (asks_for call request))
    asks request is = asked_asks regs (place_of call request) request
        (λ place there. placed_whole call.area call.buffer request.wanted place there fits.area fits.placed) is

    by : (phase : CallPhase) → call.phase ≡ phase → AsksRam (given_after regs (leaving_in slot call phase))
    by (Runs job) is = asks_done _
    by (Asks job wanted payload) is = asks (record { wanted = wanted; payload = payload }) (fits.request job wanted payload is)
    by (Waits params) is = asks (plain_request (rpc.Sleep slot)) tt
    by (Ends result params told (Some woken)) is = asks (plain_request (rpc.Wake woken)) tt
    by (Ends result params told None) is = ended_asks regs call.buffer result params

-- ---- new calls

known_asks : {F A : Type 0} (found : Option A) (refusal : F) → AsksRam (known found refusal)
known_asks None refusal = asks_done _
known_asks (Some value) refusal = asks_done _

module _ (c : NewCall) (good : HaveGoodPages c.tables.registered.buffers)
    (within : IsInRam c.arg (argument_len c.head.count)) where
  copied_asks : (params : List MsgParam) (first : ℕ) (faulty : Taken)
      → AsksRam (copied_params c params first faulty)
  copied_asks params first faulty =
      faultless_so (copying c.tables.registered.buffers params first) faulty
      (asks_copies c.tables.registered.buffers params first good)

  parameters_asks : AsksRam (parameters c)
  parameters_asks =
      let from = within.0 in
      let to = within.1 in
      passes_on _ _
      (reads_so (take_bytes (params_at c.arg) (params_len c.head.count))
      (asks_taken (params_at c.arg) (params_len c.head.count) (omega (arith, from), omega (arith, to))))
      (λ bytes. known_asks (params_in c.head.count bytes) _)

  open_asks : AsksRam (open_session c)
  open_asks =
      passes_on (parameters c) _ parameters_asks (λ params.
      knows_on (opening params) (settles c bad_parameters) _ (λ wanted shape.
      knows_on (app_of c.boot wanted.uuid) (settles c item_not_found) _ (λ app found.
      needs_on (not (shares_one c app (λ kept. kept.1.dead))) (settles_open c app wanted.login target_dead) _ (λ alive.
      needs_on (not (is_taken c app)) (settles_open c app wanted.login busy) _ (λ free.
      needs_on (has_session_room c) (settles_open c app wanted.login out_of_memory) _ (λ room.
      needs_on (has_pages c app) (settles_open c app wanted.login out_of_memory) _ (λ pages.
      passes_on (copied_params c wanted.params 2 (settles_open c app wanted.login bad_parameters)) _
      (copied_asks wanted.params 2 (settles_open c app wanted.login bad_parameters))
      (λ copies. asks_done (Ok (opens_or_waits c wanted app copies))))))))))

  invoke_asks : AsksRam (invoke_command c)
  invoke_asks =
      passes_on (parameters c) _ parameters_asks (λ params.
      knows_on (invocation params) (settles c bad_parameters) _ (λ invoked shape.
      knows_on (named_session c) (settles c bad_parameters) _ (λ named found.
      needs_on (not named.1.dead) (settles_invoke c target_dead) _ (λ alive.
      passes_on (copied_params c invoked 0 (settles_invoke c bad_parameters)) _
      (copied_asks invoked 0 (settles_invoke c bad_parameters))
      (λ copies. asks_done (Ok (invokes c named copies)))))))

  close_asks : AsksRam (close_session c)
  close_asks = knows_on (named_session c) (settles c bad_parameters) _
      (λ named found. asks_done (Ok (closes c named)))

  cancel_asks : AsksRam (cancel_calls c)
  cancel_asks = knows_on (named_session c) (settles c bad_parameters) _
      (λ named found. asks_done (Ok (cancels c)))

  register_asks : AsksRam (register_memory c)
  register_asks =
      passes_on (parameters c) _ parameters_asks (λ params.
      knows_on (registering params) (settles c bad_parameters) _ (λ param shape.
      needs_on (is_none (get c.tables.registered.buffers param.s)) (settles c bad_parameters) _ (λ new.
      needs_on (nat_lt 0 param.q) (settles c bad_parameters) _ (λ some.
      needs_on (nat_le (pages_touched param) 1024) (settles c bad_parameters) _ (λ few.
      needs_on (nat_lt (length c.tables.registered.buffers) 64) (settles c out_of_memory) _ (λ room.
      passes_on (faultless (listed_pages param) (settles c bad_parameters)) _
      (faultless_so (listed_pages param) (settles c bad_parameters)
      (asks_walk (param.p - offset_in param) (pages_touched param)))
      (λ pages. asks_done (Ok (keeps_buffer c param pages)))))))))

  unregister_asks : AsksRam (unregister_memory c)
  unregister_asks =
      passes_on (parameters c) _ parameters_asks (λ params.
      knows_on (unregistering params) (settles c bad_parameters) _ (λ param shape.
      needs_on (is_some (get c.tables.registered.buffers param.s)) (settles c bad_parameters) _ (λ there.
      needs_on (is_none (lowest_slot c.tables.registered.pins param.s)) (settles c busy) _ (λ unpinned.
      asks_done (Ok (drops_buffer c param))))))

  -- a row of the commands
  abbrev AsksSo : ℕ × (NewCall → Tested Taken) → Type 0
  AsksSo row = AsksRam (row.1 c)

  row_asks : (rows : List (ℕ × (NewCall → Tested Taken))) (cmd : ℕ) (command : NewCall → Tested Taken)
      → AllByRecursion AsksSo rows
      → option_map (λ row. row.1) (find (λ row. row.0 == cmd) rows) ≡ Some command → AsksRam (command c)
  row_asks [] cmd command all e = absurd cc
  row_asks (first ∷ rows) cmd command all e = by (first.0 == cmd) (row_asks rows cmd command all.1) e
    where
      by : (test : Bool) → (option_map (λ row. row.1) (find (λ row. row.0 == cmd) rows) ≡ Some command
          → AsksRam (command c))
          → option_map (λ row. row.1) (if test then Some first else find (λ row. row.0 == cmd) rows) ≡ Some command
          → AsksRam (command c)
      by true rest here =
          let same : first.1 ≡ command = cc in
          subst (λ (f : NewCall → Tested Taken). AsksRam (f c)) same all.0
      by false rest later = rest later

  command_asks : (cmd : ℕ) (command : NewCall → Tested Taken) → command_of cmd ≡ Some command
      → AsksRam (taken_by (command c))
  command_asks cmd command is =
      asks_on (command c) _
      (row_asks commands cmd command
      (open_asks, (invoke_asks, (close_asks, (cancel_asks, (register_asks, (unregister_asks, tt)))))) is)
      (λ result. asks_done _)

-- the bytes of a head lie in RAM
head_inside : (at : Located) → has_head at ≡ true → IsInRam at.addr 32
head_inside at is =
    let bytes = (and_parts (at.addr % 8 == 0) (has_bytes at 32) is).1 in
    let inside : is_in_ram at.addr 32 ≡ true = (and_parts (is_in_ram at.addr 32) (has_room at 32) bytes).0 in
    (grind (arith, nat_tests), grind (arith, nat_tests))

slot_asks : (boot : Booted) (tables : Tables) (regs : List ℕ) (slot : ℕ) → HaveGoodPages tables.registered.buffers
    → AsksRam (new_call_in boot tables regs slot)
slot_asks boot tables regs slot good =
    knows_on (located tables regs) ebadaddr _ (λ at lies.
    needs_on (has_head at) ebadaddr _ (λ head.
    passes_on _ _
    (reads_so (take_bytes at.addr 32)
    (asks_taken at.addr 32 (head_inside at head))) (λ bytes.
    needs_on (has_argument at (head_at bytes)) ebadaddr _ (λ fits.
    knows_on (command_of (head_at bytes).cmd) ebadcmd _ (λ command is.
    reads_so _
    (command_asks (new_call_of boot tables regs slot at bytes) good
    (argument_inside at (head_at bytes) fits)
    (head_at bytes).cmd command is))))))

new_asks : (boot : Booted) (tables : Tables) (regs : List ℕ) (free : Option ℕ)
    → HaveGoodPages tables.registered.buffers
    → AsksRam (decided_by (new_call_with boot tables regs free))
new_asks boot tables regs free good =
    asks_on (new_call_with boot tables regs free) _
    (knows_on free ethread_limit _ (λ slot is.
    passes_on (new_call_in boot tables regs slot) _ (slot_asks boot tables regs slot good)
    (λ taken. asks_done _)))
    (λ result. asks_done _)

-- ---- entries

takes_asks : (boot : Booted) (tables : Tables) (regs : List ℕ) (call : PendingCall) → IsFitting call
    → AsksRam (takes_call boot tables regs call)
takes_asks boot tables regs call fits =
    asks_on (resume_call boot tables regs call) _
    (asks_on (given_to regs (thread_in regs) call) _ (resume_asks regs (thread_in regs) call fits)
    (λ given. asks_done _))
    (λ progress. asks_done _)

module _ (boot : Booted) (history : List Event) (kernel : Kernel) (boots : IsBooted boot)
    (comes : kernel_after boot history ≡ Some kernel) where
  -- the call that a resume is for
  resumed_fits : (regs : List ℕ) (call : PendingCall) → call_resumed_by kernel.slots regs ≡ Some call → IsFitting call
  resumed_fits regs call some =
      let slot = thread_in regs in
      let there = ap (λ (o : Option ThreadSlot). option_and_then unmarked_in o) (suspended_there kernel regs call some) in
      let placed = calls_placed boot history kernel boots comes slot (unmarked call) there in
      let fits = calls_fit boot history kernel boots comes slot (unmarked call) there in
      record {
        area = placed.area;
        placed = placed.buffer;
        request = fits.request;
      }

  resumes_asks : (regs : List ℕ) (found : Option PendingCall) → call_resumed_by kernel.slots regs ≡ found
      → AsksRam (option_map_or (takes_call boot kernel.tables regs) found (done (Answers eresume)))
  resumes_asks regs None is = asks_done _
  resumes_asks regs (Some call) is = takes_asks boot kernel.tables regs call (resumed_fits regs call is)

  new_ones : (regs : List ℕ) → AsksRam (new_call boot kernel regs)
  new_ones regs = new_asks boot kernel.tables regs (lowest_free kernel.slots) (pages_kept boot history kernel comes)

  decision_asks : (regs : List ℕ) (call : Call) → AsksRam (decision_of boot kernel regs call)
  decision_asks regs (Fast call) = asks_done _
  decision_asks regs WithArg = new_ones regs
  decision_asks regs WithRpcArg = new_ones regs
  decision_asks regs WithRegdArg = new_ones regs
  decision_asks regs Resume = resumes_asks regs (call_resumed_by kernel.slots regs) refl
  decision_asks regs Unknown = asks_done _

  pub entry_asks : (visit : Visit) → AsksRam (entry boot kernel visit)
  entry_asks visit =
      asks_on (decision_of boot kernel visit.regs (call_of (reg visit.regs 0))) _
      (decision_asks visit.regs (call_of (reg visit.regs 0))) (λ decision. asks_done _)
