-- The first entry of a client's call: the kernel reads the argument that the client wrote, and takes the first slot for a call of
-- the session that it names.
use Rattle.std.proofs.Common.{◌≡◌, ℕ, suc, ◌+◌, ◌-◌, ◌*◌, ◌≤◌, ◌<◌, Bool, true, false, List, [], ◌∷◌, ◌++◌, length, map, take, drop, not, Option, Some, None, Result, Ok, Err, refl, ap, subst, sym, ◌∙◌, arith}
use Rattle.std.specs.Prelude.{if◌then◌else◌, nat_le, ◌^◌}
use Rattle.std.specs.List.{flat_map, list_all}
use Rattle.std.specs.Option.{option_and_then, option_map, option_map_or}
use Rattle.std.specs.Simd.{first_chunks}
use Rattle.std.proofs.Math.Seq.{take-append_seam}
use Rattle.std.proofs.lemmas.Bool.{and_from, le-leb}
use Rattle.std.proofs.lemmas.List.{length-map}
use Rattle.std.proofs.lemmas.Nat.{from_le_bytes-to_le_bytes_4}
use Rattle.base.specs.NumberMap.{get}
use Rattle.job_model.specs.declared.call_kind.CallKind.{CallKind}
use Rattle.job_model.specs.declared.call_kind.CallKind.TheVariants as kind
use Rattle.job_model.specs.declared.entry_point.EntryPoint.{EntryPoint}
use Rattle.job_model.specs.declared.entry_point.EntryPoint.TheVariants as entry
use Rattle.kernel_model.specs.Application.{Application, Booted, pages_in}
use Rattle.kernel_model.specs.Argument.{Opening, invocation, opening, opening_with, params_in}
use Rattle.kernel_model.specs.Begin.{Beginner, Begun, Opener, awaited_number, begins_on, closing_points, opening_job, opens_kept, opens_made, opens_new}
use Rattle.kernel_model.specs.Codes.{bad_parameters, busy, item_not_found, out_of_memory, target_dead}
use Rattle.kernel_model.specs.Decision.{Taken, Tested, taken_in}
use Rattle.kernel_model.specs.Instances.{app_of, fresh_memory, is_held}
use Rattle.kernel_model.specs.Kernel.{Instance, Kernel, lowest_free}
use Rattle.kernel_model.specs.Located.{at_address}
use Rattle.kernel_model.specs.NewCall.{NewCall, about_session, beginner, close_session, copied_params, has_pages, has_session_room, invoke_command}
use Rattle.kernel_model.specs.NewCall.{invokes, is_taken, named_session, new_call, new_call_of, no_copies, open_session, open_waits, opener, opens}
use Rattle.kernel_model.specs.NewCall.{opens_or_waits, runs_in, settles, settles_invoke, settles_open, shared_by, shares_one, waits_in, works_or_waits}
use Rattle.kernel_model.specs.Sessions.{opened_by}
use Rattle.kernel_model.proofs.Parts.{if-both, map_or-both}
use Rattle.msg_args.specs.Layout.{params_at}
use Rattle.msg_args.specs.Reading.{has_attribute, head_at, param_at}
use Rattle.msg_args.specs.Spelling.{head_bytes, param_bytes, spelling}
use Rattle.msg_args.specs.declared.arg.MsgArg.{MsgArg}
use Rattle.msg_args.specs.declared.head.MsgHead.{MsgHead}
use Rattle.msg_args.specs.declared.param.MsgParam.{MsgParam}
use Rattle.msg_args.proofs.Pieces.{length-first_chunks, length-flat_map_params}
use Rattle.ns_ram.specs.Attempt.{Attempt, faultless, known, need, passes, ◌>>=◌, ◌>>◌}
use Rattle.ns_ram.specs.Lane.{bytes_at, bytes_put}
use Rattle.ns_ram.specs.Reader.{done, want_bytes, want_words}
use Rattle.ns_ram.specs.Writes.{Write, lane_after}
use Rattle.ns_ram.proofs.LaneBytes.{bytes_at-is}
use Rattle.param_copy.specs.Copying.{Copies, copying}
use Rattle.session_table.specs.declared.session.Session.{Session}
use Rattle.ta_params.specs.declared.login.Login.{Login}
use Rattle.ta_params.specs.declared.copied_params.GpParam.{GpParam}
use Rattle.ta_params.specs.declared.copied_params.GpParam.TheVariants.{Empty, Memref, Value}
use Rattle.ta_params.specs.declared.copied_params.Way.TheVariants.{In, Inout, Out}
use Rattle.teec.specs.Calls.{close_call, invoke_call, open_call}
use Rattle.teec.specs.Answers.{call_with_arg}
use Rattle.teec.specs.Arguments.{close_argument, invoke_argument, name_of, nobody, open_argument}
use Rattle.teec.specs.Operation.{IsSendable, Sends, buffer_writes, param_sent, params_of, params_sent, sent_from}
use Rattle.teec.specs.Places.{argument_at}
use Rattle.teec.specs.declared.operation.Operation.{Operation}
use Rattle.client_play.proofs.Bringing.{Brings, Brought, nothing_brought, of_no_application, opens_so, session_so}
use Rattle.client_play.proofs.CopiedThere.{AreCopies, IfPassed, brought_by, copying_there, on_then}
use Rattle.client_play.proofs.NewCalls.{IsWellMade, Lasting, OnLane, TakesSlot, known_passes, lasting, takes_there}
use Rattle.client_play.proofs.NoFaults.{whole_after}
use Rattle.client_play.proofs.ScriptsPlayed.{HasArgument, argument_has, count_again, few_sent, head_first, lane_is}
use Rattle.client_play.proofs.ShapesKept.{IsSo}

-- ---- the parameters of an invoke

-- its attribute is valid, and META isn't set
abbrev IsPlain : MsgParam → Type 0
IsPlain param = (has_attribute (param_bytes param) ≡ true) × (not (param_at (param_bytes param)).meta ≡ true)

sent_plain : (number : ℕ) (param : GpParam) → IsPlain (param_sent number param)
sent_plain number Empty = (refl, refl)
sent_plain number (Value In a b) = (refl, refl)
sent_plain number (Value Out a b) = (refl, refl)
sent_plain number (Value Inout a b) = (refl, refl)
sent_plain number (Memref In buf size) = (refl, refl)
sent_plain number (Memref Out buf size) = (refl, refl)
sent_plain number (Memref Inout buf size) = (refl, refl)

-- the pieces in which they are read
abbrev pieces_of : List MsgParam → List (List ℕ)
pieces_of params = first_chunks 32 (length params) (flat_map param_bytes params)

all_valid : (number : ℕ) (params : List GpParam) → list_all has_attribute (pieces_of (sent_from number params)) ≡ true
all_valid number [] = refl
all_valid number (param ∷ params) =
    and_from (has_attribute (param_bytes (param_sent number param))) (list_all has_attribute (pieces_of (sent_from (suc number) params)))
    (sent_plain number param).0 (all_valid (suc number) params)

none_meta : (number : ℕ) (params : List GpParam)
    → list_all (λ (p : MsgParam). not p.meta) (map param_at (pieces_of (sent_from number params))) ≡ true
none_meta number [] = refl
none_meta number (param ∷ params) =
    and_from (not (param_at (param_bytes (param_sent number param))).meta)
    (list_all (λ (p : MsgParam). not p.meta) (map param_at (pieces_of (sent_from (suc number) params))))
    (sent_plain number param).1 (none_meta (suc number) params)

-- what is read of those that an operation sends
abbrev read_of : Operation → ℕ → List MsgParam
read_of op sent = map param_at (pieces_of (params_sent op sent))

read_so : (op : Operation) (sent : ℕ)
    → params_in (length (params_sent op sent)) (flat_map param_bytes (params_sent op sent)) ≡ Some (read_of op sent)
read_so op sent = ap (λ b. if b then Some (read_of op sent) else None) (all_valid 0 (take sent (params_of op.params)))

are_four : (op : Operation) (sent : ℕ) → length (read_of op sent) ≤ 4
are_four op sent =
    let few = few_sent op sent in
    let params = params_sent op sent in
    omega (arith, few, length-map (pieces_of params) param_at, length-first_chunks (length params) (flat_map param_bytes params))

invoked_so : (op : Operation) (sent : ℕ) → invocation (read_of op sent) ≡ Some (read_of op sent)
invoked_so op sent =
    ap (λ b. if b then Some (read_of op sent) else None)
    (and_from (nat_le (length (read_of op sent)) 4) (list_all (λ (p : MsgParam). not p.meta) (read_of op sent))
    (le-leb (length (read_of op sent)) 4 (are_four op sent)) (none_meta 0 (take sent (params_of op.params))))

-- ---- where they stand

-- behind the head
params_there : (lane : List ℕ) (arg : MsgArg)
    → bytes_at (bytes_put lane argument_at (spelling arg)) (params_at argument_at) (32 * length arg.params.items)
    ≡ flat_map param_bytes arg.params.items
params_there lane arg =
    let params = arg.params.items in
    let rest = flat_map param_bytes params in
    let behind = drop ((argument_at - 0x40000000) + length (spelling arg)) lane in
    bytes_at-is (bytes_put lane argument_at (spelling arg)) (params_at argument_at) (32 * length params) (omega arith)
    ∙ subst (λ n. take n (rest ++ behind) ≡ rest) (length-flat_map_params params) (take-append_seam rest behind)

session_again : (head : MsgHead) → head.session < 2 ^ 32 → (head_at (head_bytes head)).session ≡ head.session
session_again head fits = from_le_bytes-to_le_bytes_4 head.session fits

-- ---- the command

-- the new call of a client in the first slot
abbrev the_call : Booted → Kernel → List ℕ → NewCall
the_call boot kernel lane =
    new_call_of boot kernel.tables (call_with_arg argument_at).a 0 (at_address false argument_at) (bytes_at lane argument_at 32)

abbrev whose : NewCall → Lasting
whose c = record { client = c.client; session = c.head.session; arg = c.arg }

-- it holds of the value of a test that passes, and of what the slot is taken for by one that fails
abbrev PassedOr : {A : Type 0} → (Taken → Type 0) → (A → Type 0) → Result A Taken → Type 0
PassedOr P R (Ok value) = R value
PassedOr P R (Err taken) = P taken

need_there : (lane : List ℕ) (P : Taken → Type 0) (test : Bool) (refusal : Taken) → P refusal
    → OnLane lane (PassedOr P (λ (_ : Unit {0}). Unit {0})) (need test refusal)
need_there lane P true refusal fails = tt
need_there lane P false refusal fails = fails

known_there : {A : Type 0} (lane : List ℕ) (P : Taken → Type 0) (found : Option A) (refusal : Taken) → P refusal
    → OnLane lane (PassedOr P (λ (_ : A). Unit {0})) (known found refusal)
known_there lane P None refusal fails = fails
known_there lane P (Some value) refusal fails = tt

faultless_there : {E A : Type 0} (lane : List ℕ) (P : Taken → Type 0) (R : A → Type 0) (attempt : Attempt E A) (refusal : Taken) → P refusal
    → OnLane lane (IfPassed R) attempt → OnLane lane (PassedOr P R) (faultless attempt refusal)
faultless_there lane P R (done (Ok value)) refusal fails holds = holds
faultless_there lane P R (done (Err fault)) refusal fails holds = fails
faultless_there lane P R (want_bytes addr len next) refusal fails holds =
    faultless_there lane P R (next (bytes_at lane addr len)) refusal fails holds
faultless_there lane P R (want_words addr most test next) refusal fails holds =
    λ got. faultless_there lane P R (next got) refusal fails (holds got)

-- the one test, and then the others
then_others : {A : Type 0} (lane : List ℕ) (P : Taken → Type 0) (R : A → Type 0) (first : Tested A) (onward : A → Tested Taken)
    → OnLane lane (PassedOr P R) first
    → ((value : A) → R value → OnLane lane (λ (result : Result Taken Taken). P (taken_in result)) (onward value))
    → OnLane lane (λ (result : Result Taken Taken). P (taken_in result)) (first >>= onward)
then_others lane P R first onward holds rest =
    on_then lane (PassedOr P R) (λ (result : Result Taken Taken). P (taken_in result)) first onward holds rest (λ refusal fails. fails)

module _ (boot : Booted) (kernel : Kernel) (lane : List ℕ) (b : Brought) (session : ℕ) (kept : Session) (instance : Instance) where
  abbrev c : NewCall
  c = the_call boot kernel lane

  -- the slot is taken for a call of the session, with what the client has sent
  abbrev Ours : Taken → Type 0
  Ours taken = (lasting taken.call ≡ whose c) × Brings b taken.call

  -- where the head names this session, it is opened, and its instance is there
  named_so : c.head.session ≡ session → opened_by kernel.tables.sessions session 0 ≡ Some kept
      → get kernel.tables.instances kept.instance ≡ Some instance → named_session c ≡ Some (kept, instance)
  named_so names opened has =
      let beside = λ (found : Session). option_map (λ (i : Instance). (found, i)) (get kernel.tables.instances found.instance) in
      ap (λ (n : ℕ). option_and_then beside (opened_by kernel.tables.sessions n 0)) names
      ∙ ap (λ (o : Option Session). option_and_then beside o) opened
      ∙ ap (λ (o : Option Instance). option_map (λ (i : Instance). (kept, i)) o) has

  -- on its instance, or behind others that wait for it
  works_ours : (call_kind : CallKind) (copied : Copies) (points : List EntryPoint) → AreCopies b copied
      → Ours (works_or_waits c call_kind kept instance copied points)
  works_ours call_kind copied points are =
      if-both Ours (is_held instance)
      (waits_in c c.tables (about_session c call_kind kept instance copied) copied)
      (runs_in c (begins_on (beginner c) kept instance copied.params points).tables (about_session c call_kind kept instance copied)
      copied.cookies (begins_on (beginner c) kept instance copied.params points).job)
      (refl, are) (refl, (are.0, session_so b (beginner c) kept instance copied.params points are.1))

  close_ours : AreCopies b no_copies → named_session c ≡ Some (kept, instance)
      → OnLane lane (λ (result : Result Taken Taken). Ours (taken_in result)) (close_session c)
  close_ours none named =
      known_passes lane (λ (result : Result Taken Taken). Ours (taken_in result)) (named_session c) (kept, instance) (settles c bad_parameters) _
      named (works_ours kind.Close no_copies (closing_points (beginner c) c.head.session kept instance) none)

  -- settled, of no application
  invoke_settled : (code : ℕ) → Ours (settles_invoke c code)
  invoke_settled code = (refl, λ origin. of_no_application origin)

  -- the tests of an invoke behind that of its session
  behind_session : (params : List MsgParam) → OnLane lane (IfPassed (AreCopies b)) (copying c.tables.registered.buffers params 0)
      → OnLane lane (λ (result : Result Taken Taken). Ours (taken_in result)) (need (not instance.dead) (settles_invoke c target_dead)
      >> (copied_params c params 0 (settles_invoke c bad_parameters) >>= (λ copies. passes (invokes c (kept, instance) copies))))
  behind_session params copied =
      then_others lane Ours (λ (_ : Unit {0}). Unit {0}) (need (not instance.dead) (settles_invoke c target_dead)) _
      (need_there lane Ours (not instance.dead) (settles_invoke c target_dead) (invoke_settled target_dead))
      (λ value holds.
      then_others lane Ours (AreCopies b) (copied_params c params 0 (settles_invoke c bad_parameters))
      (λ copies. passes (invokes c (kept, instance) copies))
      (faultless_there lane Ours (AreCopies b) (copying c.tables.registered.buffers params 0) (settles_invoke c bad_parameters)
      (invoke_settled bad_parameters) copied)
      (λ copies are. works_ours (kind.Invoke c.head.func) copies (entry.Invoke c.head.func ∷ []) are))

  invoke_ours : (params : List MsgParam) → params_in c.head.count (bytes_at lane (params_at argument_at) (32 * c.head.count)) ≡ Some params
      → invocation params ≡ Some params → named_session c ≡ Some (kept, instance)
      → OnLane lane (IfPassed (AreCopies b)) (copying c.tables.registered.buffers params 0)
      → OnLane lane (λ (result : Result Taken Taken). Ours (taken_in result)) (invoke_command c)
  invoke_ours params there shape named copied =
      let Q = λ (result : Result Taken Taken). Ours (taken_in result) in
      known_passes lane Q (params_in c.head.count (bytes_at lane (params_at argument_at) (32 * c.head.count))) params (settles c bad_parameters) _
      there (
      known_passes lane Q (invocation params) params (settles c bad_parameters) _ shape (
      known_passes lane Q (named_session c) (kept, instance) (settles c bad_parameters) _ named (behind_session params copied)))

-- ---- the tests of an open

module _ (lane : List ℕ) (b : Brought) (c : NewCall) where
  abbrev OfCaller : Taken → Type 0
  OfCaller taken = (taken.call.client ≡ c.client) × (taken.call.arg ≡ c.arg) × Brings b taken.call

  settled : (code : ℕ) → OfCaller (settles c code)
  settled code = (refl, refl, λ origin. of_no_application origin)

  settled_open : (of : Application) (login : Login) (code : ℕ) → OfCaller (settles_open c of login code)
  settled_open of login code = (refl, refl, λ origin. of_no_application origin)

  module _ (wanted : Opening) (of : Application) (copied : Copies) (are : AreCopies b copied) where
    abbrev who : Beginner
    who = beginner c

    abbrev brought : Opener
    brought = opener wanted of copied

    on_new : (number : ℕ)
        → IsSo b.shapes (opening_job who brought (record { number = number; memory = fresh_memory (pages_in of); objects = []; points = entry.Create ∷ entry.Open ∷ [] }))
    on_new number =
        opens_so b who brought
        (record { number = number; memory = fresh_memory (pages_in of); objects = []; points = entry.Create ∷ entry.Open ∷ [] }) are.1

    job_so : IsSo b.shapes (option_map_or (opens_kept who brought) (shared_by c of) (opens_made who brought)).job
    job_so =
        let next = c.tables.next_instance in
        map_or-both (λ (begun : Begun). IsSo b.shapes begun.job) (opens_kept who brought) (shared_by c of) (opens_made who brought)
        (λ kept.
        opens_so b who brought
        (record { number = kept.0; memory = kept.1.memory; objects = kept.1.objects; points = entry.Open ∷ [] }) are.1)
        (map_or-both (λ (begun : Begun). IsSo b.shapes begun.job) (λ number. opens_new who brought number next)
        (awaited_number c.tables of) (opens_new who brought next (next + 1)) on_new (on_new next))

    opens_so_far : OfCaller (opens_or_waits c wanted of copied)
    opens_so_far =
        map_or-both OfCaller
        (λ (kept : ℕ × Instance). if is_held kept.1 then open_waits c wanted of copied kept else opens c wanted of copied)
        (shared_by c of) (opens c wanted of copied)
        (λ kept.
        if-both OfCaller (is_held kept.1) (open_waits c wanted of copied kept) (opens c wanted of copied) (refl, refl, are)
        (refl, refl, (are.0, job_so)))
        (refl, refl, (are.0, job_so))

  -- where its parameters are read so
  open_there : (params : List MsgParam) (wanted : Opening)
      → params_in c.head.count (bytes_at lane (params_at c.arg) (32 * c.head.count)) ≡ Some params → opening params ≡ Some wanted
      → OnLane lane (IfPassed (AreCopies b)) (copying c.tables.registered.buffers wanted.params 2)
      → OnLane lane (λ (result : Result Taken Taken). OfCaller (taken_in result)) (open_session c)
  open_there params wanted there shape copied =
      let Q = λ (result : Result Taken Taken). OfCaller (taken_in result) in
      known_passes lane Q (params_in c.head.count (bytes_at lane (params_at c.arg) (32 * c.head.count))) params (settles c bad_parameters) _
      there (
      known_passes lane Q (opening params) wanted (settles c bad_parameters) _ shape (
      then_others lane OfCaller (λ (_ : Application). Unit {0}) (known (app_of c.boot wanted.uuid) (settles c item_not_found)) _
      (known_there lane OfCaller (app_of c.boot wanted.uuid) (settles c item_not_found) (settled item_not_found))
      (λ (of : Application) found.
      then_others lane OfCaller (λ (_ : Unit {0}). Unit {0})
      (need (not (shares_one c of (λ kept. kept.1.dead))) (settles_open c of wanted.login target_dead)) _
      (need_there lane OfCaller (not (shares_one c of (λ kept. kept.1.dead))) (settles_open c of wanted.login target_dead)
      (settled_open of wanted.login target_dead))
      (λ alive holds.
      then_others lane OfCaller (λ (_ : Unit {0}). Unit {0}) (need (not (is_taken c of)) (settles_open c of wanted.login busy)) _
      (need_there lane OfCaller (not (is_taken c of)) (settles_open c of wanted.login busy) (settled_open of wanted.login busy))
      (λ free holds.
      then_others lane OfCaller (λ (_ : Unit {0}). Unit {0}) (need (has_session_room c) (settles_open c of wanted.login out_of_memory)) _
      (need_there lane OfCaller (has_session_room c) (settles_open c of wanted.login out_of_memory)
      (settled_open of wanted.login out_of_memory))
      (λ room holds.
      then_others lane OfCaller (λ (_ : Unit {0}). Unit {0}) (need (has_pages c of) (settles_open c of wanted.login out_of_memory)) _
      (need_there lane OfCaller (has_pages c of) (settles_open c of wanted.login out_of_memory) (settled_open of wanted.login out_of_memory))
      (λ pages holds.
      then_others lane OfCaller (AreCopies b) (copied_params c wanted.params 2 (settles_open c of wanted.login bad_parameters))
      (λ copies. passes (opens_or_waits c wanted of copies))
      (faultless_there lane OfCaller (AreCopies b) (copying c.tables.registered.buffers wanted.params 2)
      (settles_open c of wanted.login bad_parameters) (settled_open of wanted.login bad_parameters) copied)
      (λ copies are. opens_so_far wanted of copies are))))))))

-- its parameters, and how they are read
abbrev named_params : List ℕ → Operation → ℕ → List MsgParam
named_params uuid op sent = name_of uuid ∷ nobody ∷ params_sent op sent

abbrev named_of : List ℕ → Operation → ℕ → List MsgParam
named_of uuid op sent = map param_at (pieces_of (named_params uuid op sent))

named_read : (uuid : List ℕ) (op : Operation) (sent : ℕ)
    → params_in (length (named_params uuid op sent)) (flat_map param_bytes (named_params uuid op sent)) ≡ Some (named_of uuid op sent)
named_read uuid op sent = ap (λ b. if b then Some (named_of uuid op sent) else None) (all_valid 0 (take sent (params_of op.params)))

abbrev opened_as : List ℕ → Operation → ℕ → Opening
opened_as uuid op sent = opening_with (param_at (param_bytes (name_of uuid))) (param_at (param_bytes nobody)) (read_of op sent)

opened_so : (uuid : List ℕ) (op : Operation) (sent : ℕ) → opening (named_of uuid op sent) ≡ Some (opened_as uuid op sent)
opened_so uuid op sent = ap (λ b. if b then Some (opened_as uuid op sent) else None) (none_meta 0 (take sent (params_of op.params)))

-- ---- what the first slot is taken for

-- a call of client 0 in this session, with what it has sent
abbrev pub IsOurs : Brought → ℕ → Taken → Type 0
IsOurs b session taken = (lasting taken.call ≡ record { client = 0; session = session; arg = argument_at }) × Brings b taken.call

-- a call of client 0, with what it has sent
abbrev pub IsOfClient : Brought → Taken → Type 0
IsOfClient b taken = (taken.call.client ≡ 0) × (taken.call.arg ≡ argument_at) × Brings b taken.call

well_made : (kernel : Kernel) (lane : List ℕ) (command : NewCall → Tested Taken) → lowest_free kernel.slots ≡ Some 0
    → HasArgument lane argument_at command
    → IsWellMade kernel (call_with_arg argument_at).a lane 0 (at_address false argument_at) command
well_made kernel lane command lowest has =
    record { lowest = lowest; place = refl; head = refl; argument = has.whole; command_is = has.command_is }

-- a session that the client has opened, with its instance
pub record HasSession (kernel : Kernel) (session : ℕ) : Type 0 where
  pub lowest : lowest_free kernel.slots ≡ Some 0
  pub fits : session < 2 ^ 32
  pub kept : Session
  pub opened : opened_by kernel.tables.sessions session 0 ≡ Some kept
  pub instance : Instance
  pub has : get kernel.tables.instances kept.instance ≡ Some instance

module _ (boot : Booted) (kernel : Kernel) (ram : List ℕ) where
  -- where its command takes it for a call in the session that the argument names
  for_session : (lane : List ℕ) (b : Brought) (session : ℕ) (command : NewCall → Tested Taken) → lowest_free kernel.slots ≡ Some 0
      → HasArgument lane argument_at command → (the_call boot kernel lane).head.session ≡ session
      → OnLane lane (λ (result : Result Taken Taken).
      (lasting (taken_in result).call ≡ whose (the_call boot kernel lane)) × Brings b (taken_in result).call)
      (command (the_call boot kernel lane))
      → OnLane lane (TakesSlot 0 (IsOurs b session)) (new_call boot kernel (call_with_arg argument_at).a)
  for_session lane b session command lowest has names all =
      subst (λ (n : ℕ). OnLane lane (TakesSlot 0 (IsOurs b n)) (new_call boot kernel (call_with_arg argument_at).a)) names
      (takes_there boot kernel (call_with_arg argument_at).a lane 0 (at_address false argument_at) command
      (well_made kernel lane command lowest has)
      (λ (taken : Taken). (lasting taken.call ≡ whose (the_call boot kernel lane)) × Brings b taken.call) all)

  names_so : (lane : List ℕ) (arg : MsgArg) → arg.head.session < 2 ^ 32
      → (the_call boot kernel (bytes_put lane argument_at (spelling arg))).head.session ≡ arg.head.session
  names_so lane arg fits =
      ap (λ (bytes : List ℕ). (head_at bytes).session) (head_first lane arg) ∙ session_again arg.head fits

  pub close_taken : (session : ℕ) → HasSession kernel session
      → OnLane (lane_after ram (close_call session).writes) (TakesSlot 0 (IsOurs nothing_brought session))
      (new_call boot kernel (call_with_arg argument_at).a)
  close_taken session s =
      let arg = close_argument session in
      let lane = bytes_put ram argument_at (spelling arg) in
      let small : 2 < 2 ^ 32 = omega arith in
      let six : 0 ≤ 6 = omega arith in
      let names = names_so ram arg s.fits in
      for_session lane nothing_brought session close_session s.lowest (argument_has arg [] close_session small six refl ram) names
      (close_ours boot kernel lane nothing_brought session s.kept s.instance (refl, refl)
      (named_so boot kernel lane nothing_brought session s.kept s.instance names s.opened s.has))

  -- RAM with an argument behind other writes
  whole_with : (writes : List Write) (arg : MsgArg) → 0x400000 ≤ length ram
      → 0x400000 ≤ length (bytes_put (lane_after ram writes) argument_at (spelling arg))
  whole_with writes arg whole =
      whole_after (lane_after ram writes) (record { addr = argument_at; bytes = spelling arg } ∷ []) (whole_after ram writes whole)

  pub invoke_taken : (session func : ℕ) (op : Operation) (sent : ℕ) → HasSession kernel session → 0x400000 ≤ length ram
      → IsSendable op → Sends op sent
      → OnLane (lane_after ram (invoke_call session func op sent).writes) (TakesSlot 0 (IsOurs (brought_by 0 op sent) session))
      (new_call boot kernel (call_with_arg argument_at).a)
  invoke_taken session func op sent s whole sendable sends =
      let b = brought_by 0 op sent in
      let arg = invoke_argument session func op sent in
      let before = lane_after ram (buffer_writes op) in
      let lane = bytes_put before argument_at (spelling arg) in
      let params = params_sent op sent in
      let few = few_sent op sent in
      let small : 1 < 2 ^ 32 = omega arith in
      let six : length params ≤ 6 = omega (arith, few) in
      let fits : length params < 2 ^ 32 = omega (arith, few) in
      let names = names_so before arg s.fits in
      let count : (the_call boot kernel lane).head.count ≡ length params =
      ap (λ (bytes : List ℕ). (head_at bytes).count) (head_first before arg) ∙ count_again arg.head fits in
      let there : params_in (the_call boot kernel lane).head.count
      (bytes_at lane (params_at argument_at) (32 * (the_call boot kernel lane).head.count)) ≡ Some (read_of op sent) =
      ap (λ (n : ℕ). params_in n (bytes_at lane (params_at argument_at) (32 * n))) count
      ∙ ap (λ (bytes : List ℕ). params_in (length params) bytes) (params_there before arg) ∙ read_so op sent in
      let is = lane_is ram (buffer_writes op) arg in
      subst (λ (all : List ℕ). OnLane all (TakesSlot 0 (IsOurs b session)) (new_call boot kernel (call_with_arg argument_at).a)) (sym is)
      (for_session lane b session invoke_command s.lowest
      (subst (λ (all : List ℕ). HasArgument all argument_at invoke_command) is
      (argument_has arg (buffer_writes op) invoke_command small six refl ram)) names
      (invoke_ours boot kernel lane b session s.kept s.instance (read_of op sent) there (invoked_so op sent)
      (named_so boot kernel lane b session s.kept s.instance names s.opened s.has)
      (copying_there lane (whole_with (buffer_writes op) arg whole) (the_call boot kernel lane).tables.registered.buffers 0 op sent sendable sends)))

  -- ---- an open

  pub open_taken : (uuid : List ℕ) (op : Operation) (sent : ℕ) → lowest_free kernel.slots ≡ Some 0 → 0x400000 ≤ length ram
      → IsSendable op → Sends op sent
      → OnLane (lane_after ram (open_call uuid op sent).writes) (TakesSlot 0 (IsOfClient (brought_by 2 op sent)))
      (new_call boot kernel (call_with_arg argument_at).a)
  open_taken uuid op sent lowest whole sendable sends =
      let b = brought_by 2 op sent in
      let arg = open_argument uuid op sent in
      let before = lane_after ram (buffer_writes op) in
      let lane = bytes_put before argument_at (spelling arg) in
      let params = named_params uuid op sent in
      let few = few_sent op sent in
      let small : 0 < 2 ^ 32 = omega arith in
      let six : suc (suc (length (params_sent op sent))) ≤ 6 = omega (arith, few) in
      let fits : length params < 2 ^ 32 = omega (arith, few) in
      let count : (the_call boot kernel lane).head.count ≡ length params =
      ap (λ (bytes : List ℕ). (head_at bytes).count) (head_first before arg) ∙ count_again arg.head fits in
      let there : params_in (the_call boot kernel lane).head.count
      (bytes_at lane (params_at argument_at) (32 * (the_call boot kernel lane).head.count)) ≡ Some (named_of uuid op sent) =
      ap (λ (n : ℕ). params_in n (bytes_at lane (params_at argument_at) (32 * n))) count
      ∙ ap (λ (bytes : List ℕ). params_in (length params) bytes) (params_there before arg) ∙ named_read uuid op sent in
      let is = lane_is ram (buffer_writes op) arg in
      subst (λ (all : List ℕ). OnLane all (TakesSlot 0 (IsOfClient b)) (new_call boot kernel (call_with_arg argument_at).a)) (sym is)
      (takes_there boot kernel (call_with_arg argument_at).a lane 0 (at_address false argument_at) open_session
      (well_made kernel lane open_session lowest
      (subst (λ (all : List ℕ). HasArgument all argument_at open_session) is
      (argument_has arg (buffer_writes op) open_session small six refl ram)))
      (IsOfClient b)
      (open_there lane b (the_call boot kernel lane) (named_of uuid op sent) (opened_as uuid op sent) there (opened_so uuid op sent)
      (copying_there lane (whole_with (buffer_writes op) arg whole) (the_call boot kernel lane).tables.registered.buffers 2 op sent sendable sends)))
