-- What is shown of a call is a function of its reply and of its places.
use Rattle.std.proofs.Common.{◌≡◌, ℕ, ◌≤◌, Bool, true, false, min, List, [], ◌∷◌, ◌++◌, length, map, take, Option, Some, None, refl, ap, subst, sym, ◌∙◌, arith}
use Rattle.std.specs.Prelude.{◌==◌, if◌then◌else◌, nat_le}
use Rattle.std.specs.Option.{option_and_then, option_map, option_map_or}
use Rattle.std.proofs.lemmas.Bool.Decides.{nat_tests}
use Rattle.std.proofs.lemmas.List.{length-take, take_all}
use Rattle.job_model.specs.Point.{no_params}
use Rattle.job_model.specs.declared.call_kind.CallKind.{CallKind}
use Rattle.job_model.specs.declared.call_kind.CallKind.TheVariants as kind
use Rattle.msg_args.specs.Layout.{ret_at, origin_at}
use Rattle.ns_ram.specs.Writes.{Write}
use Rattle.param_copy.specs.WritingBack.{bytes_to, memory_to, param_writes, word_to, writes_back}
use Rattle.param_copy.specs.WritingBack.{params_of as params_listed, writes_of as params_written}
use Rattle.param_copy.specs.declared.copied.Place.{Place}
use Rattle.msg_args.specs.Layout.{q_at}
use Rattle.rpc_msgs.specs.declared.request_place.RequestPlace.{RequestPlace}
use Rattle.rpc_msgs.specs.declared.rpc_buffer.RpcBuffer.{RpcBuffer}
use Rattle.rpc_msgs.specs.declared.rpc.Rpc.TheVariants as rpc
use Rattle.shm_registry.specs.declared.piece.Piece.{Piece}
use Rattle.ta_params.specs.declared.call_result.CallResult.{CallResult}
use Rattle.ta_params.specs.declared.copied_params.CopiedParams.{CopiedParams}
use Rattle.ta_params.specs.declared.copied_params.GpParam.{GpParam}
use Rattle.ta_params.specs.declared.copied_params.GpParam.TheVariants.{Empty, Value, Memref}
use Rattle.ta_params.specs.declared.copied_params.Way.TheVariants.{In, Out, Inout}
use Rattle.kernel_model.specs.Exit.{Exited, answer_of, exit, exit_of, goes_out_from, session_writes, word32, writes_of}
use Rattle.kernel_model.specs.Kernel.{CallPhase, Runs, Asks, Waits, Ends, PendingCall, Processor, Progress, Visit}
use Rattle.kernel_model.specs.Leaving.{FreesBuffer, Finishes, Leaving, Request, Requests, WantsBuffer, leaving_in, place_of, plain_request}
use Rattle.own_model.specs.declared.own_reply.OwnReply.{OwnReply}
use Rattle.own_model.specs.declared.own_reply.OwnReply.TheVariants as reply
use Rattle.own_model.specs.Own.{ended, reply_of, request_reply}
use Rattle.own_model.specs.Parameters.{bytes_told, output_of, outputs_of, outputs_with}
use Rattle.own_model.specs.Shown.{CallPlaces, ExitsShowReplies, Shown, buffer_freed, opened_number, outputs_shown}
use Rattle.own_model.specs.Shown.{places_in, requested_at, seen_with, session_shown, shown}

-- ---- what is written back is what is told

fits : (size n m : ℕ) → nat_le size n ≡ true → m ≡ min size n → nat_le size m ≡ true
fits size n m le is = grind (arith, nat_tests)

short : (size n m : ℕ) → m ≡ min size n → m ≤ size
short size n m is = omega (arith, is)

nothing_fits : (size n : ℕ) → nat_le size n ≡ false → nat_le size 0 ≡ false
nothing_fits size n le = grind (arith, nat_tests)

memory_told : (size_place : ℕ) (pieces : List Piece) (bytes : List ℕ) (size : ℕ)
    → memory_to size_place pieces (bytes_told bytes size) size ≡ memory_to size_place pieces bytes size
memory_told size_place pieces bytes size = by (nat_le size (length bytes)) refl
  where
    written : Bool → List ℕ → List Write
    written fitting taken = word_to size_place size ∷ (if fitting then bytes_to pieces taken else [])

    by : (fitting : Bool) → nat_le size (length bytes) ≡ fitting
        → memory_to size_place pieces (bytes_told bytes size) size ≡ memory_to size_place pieces bytes size
    by true le =
        let of : length (take size bytes) ≡ min size (length bytes) = length-take size bytes in
        ap (λ (b : Bool). memory_to size_place pieces (if b then take size bytes else []) size) le
        ∙ ap (λ (b : Bool). written b (take size (take size bytes))) (fits size (length bytes) (length (take size bytes)) le of)
        ∙ ap (λ (taken : List ℕ). written true taken)
        (take_all size (take size bytes) (short size (length bytes) (length (take size bytes)) of))
        ∙ sym (ap (λ (b : Bool). written b (take size bytes)) le)
    by false le =
        ap (λ (b : Bool). memory_to size_place pieces (if b then take size bytes else []) size) le
        ∙ ap (λ (b : Bool). written b (take size [])) (nothing_fits size (length bytes) le)
        ∙ sym (ap (λ (b : Bool). written b (take size bytes)) le)

param_told : (arg : ℕ) (place : Place) (param : GpParam) → param_writes arg place (output_of param) ≡ param_writes arg place param
param_told arg place Empty = refl
param_told arg place (Value In a b) = refl
param_told arg place (Value Out a b) = refl
param_told arg place (Value Inout a b) = refl
param_told arg place (Memref In bytes size) = refl
param_told arg place (Memref Out bytes size) = memory_told (q_at arg place.number) place.pieces bytes size
param_told arg place (Memref Inout bytes size) = memory_told (q_at arg place.number) place.pieces bytes size

params_told : (arg : ℕ) (places : List Place) (params : List GpParam)
    → params_written arg places (map output_of params) ≡ params_written arg places params
params_told arg [] params = refl
params_told arg (place ∷ places) [] = refl
params_told arg (place ∷ places) (param ∷ params) =
    ap (λ (ws : List Write). ws ++ params_written arg places (map output_of params)) (param_told arg place param)
    ∙ ap (λ (ws : List Write). param_writes arg place param ++ ws) (params_told arg places params)

outputs_told : (arg : ℕ) (places : List Place) (params : CopiedParams) (returned : Bool)
    → (if returned then writes_back arg places (if returned then outputs_of params else no_params) else [])
    ≡ (if returned then writes_back arg places params else [])
outputs_told arg places params true = params_told arg places (params_listed params)
outputs_told arg places params false = refl

session_told : (call : PendingCall) (kinds : CallKind) (places : CallPlaces) (result : CallResult)
    → places.argument ≡ call.arg → places.opens ≡ opened_number kinds call.session
    → session_shown places result.result ≡ session_writes call kinds result
session_told call kind.Open places result at opens = cc
session_told call (kind.Invoke func) places result at opens = cc
session_told call kind.Close places result at opens = cc
session_told call kind.Settled places result at opens = cc

-- ---- by the phase

-- what is shown of a call that goes out so
abbrev shown_of : ℕ → PendingCall → Leaving → Shown
shown_of slot call leaving = record { answer = answer_of slot leaving; writes = writes_of call leaving }

some_reply : (one other : OwnReply) → Some one ≡ Some other → one ≡ other
some_reply one other e = cc

-- a call that asks for something, by the place that there is for it
asked : (slot : ℕ) (call : PendingCall) (phase : CallPhase) (request : Request) (woken : Option ℕ) (its told : OwnReply)
    (found : Option RequestPlace) → (let places = places_in slot call phase in
    request_reply woken phase ≡ Some its → shown places its ≡ option_map (requested_at slot request) found →
    reply_of woken phase (option_map_or (λ place. Requests place request) found WantsBuffer) ≡ Some told →
    shown places told ≡ Some (shown_of slot call (option_map_or (λ place. Requests place request) found WantsBuffer)))
asked slot call phase request woken its told None its_is shows e =
    subst (λ (r : OwnReply). shown (places_in slot call phase) r ≡ Some (shown_of slot call WantsBuffer)) (some_reply reply.Alloc told e) refl
asked slot call phase request woken its told (Some place) its_is shows e =
    subst (λ (r : OwnReply). shown (places_in slot call phase) r ≡ Some (shown_of slot call (Requests place request)))
    (some_reply its told (sym its_is ∙ e)) shows

-- one that has ended, by the buffer that it still has
freed : (slot : ℕ) (call : PendingCall) (phase : CallPhase) (result : CallResult) (params : CopiedParams) (woken : Option ℕ)
    (told : OwnReply) (found : Option RpcBuffer) → (let places = places_in slot call phase in
    shown places reply.Free ≡ option_map (buffer_freed slot) found →
    reply_of woken phase (option_map_or FreesBuffer found (Finishes result params)) ≡ Some told →
    shown places told ≡ Some (shown_of slot call (option_map_or FreesBuffer found (Finishes result params))))
freed slot call phase result params woken told (Some buffer) shows e =
    subst (λ (r : OwnReply). shown (places_in slot call phase) r ≡ Some (shown_of slot call (FreesBuffer buffer)))
    (some_reply reply.Free told e) shows
freed slot call phase result params woken told None shows e =
    let places = places_in slot call phase in
    let last : List Write = word32 (ret_at call.arg) result.result ∷ word32 (origin_at call.arg) result.origin ∷ [] in
    let with_writes = λ (ws : List Write). Some (record (shown_of slot call (Finishes result params)) { writes = ws }) in
    let outputs : outputs_shown places result.origin (outputs_with result params)
    ≡ (if result.origin == 4 then writes_back call.arg call.places params else []) =
    outputs_told call.arg call.places params (result.origin == 4) in
    let session : session_shown places result.result ≡ session_writes call call.kind result =
    session_told call call.kind places result refl refl in
    subst (λ (r : OwnReply). shown places r ≡ Some (shown_of slot call (Finishes result params)))
    (some_reply (ended result params) told e)
    (ap (λ (ws : List Write). with_writes (ws ++ session_shown places result.result ++ last)) outputs
    ∙ ap (λ (ws : List Write). with_writes ((if result.origin == 4 then writes_back call.arg call.places params else []) ++ ws ++ last))
    session)

in_phase : (slot : ℕ) (call : PendingCall) (phase : CallPhase) (woken : Option ℕ) (told : OwnReply)
    → reply_of woken phase (leaving_in slot call phase) ≡ Some told
    → shown (places_in slot call phase) told ≡ Some (shown_of slot call (leaving_in slot call phase))
in_phase slot call (Runs job) woken told e = absurd cc
in_phase slot call (Asks job wanted payload) woken told e =
    let request : Request = record { wanted = wanted; payload = payload } in
    asked slot call (Asks job wanted payload) request woken (reply.Ask wanted payload) told (place_of call request) refl refl e
in_phase slot call (Waits params) woken told e =
    let request = plain_request (rpc.Sleep slot) in
    asked slot call (Waits params) request woken reply.Sleep told (place_of call request) refl refl e
in_phase slot call (Ends result params before None) woken told e =
    freed slot call (Ends result params before None) result params woken told call.buffer refl e
in_phase slot call (Ends result params before (Some number)) None told e =
    no_number (place_of call (plain_request (rpc.Wake number))) e
  where
    -- of a call that wakes one of no number a request for a buffer alone is told
    no_number : (found : Option RequestPlace) → (let request = plain_request (rpc.Wake number) in
        let phase = Ends result params before (Some number) in
        reply_of None phase (option_map_or (λ place. Requests place request) found WantsBuffer) ≡ Some told →
        shown (places_in slot call phase) told
        ≡ Some (shown_of slot call (option_map_or (λ place. Requests place request) found WantsBuffer)))
    no_number None is =
        subst (λ (r : OwnReply). shown (places_in slot call (Ends result params before (Some number))) r
        ≡ Some (shown_of slot call WantsBuffer)) (some_reply reply.Alloc told is) refl
    no_number (Some place) is = absurd cc
in_phase slot call (Ends result params before (Some number)) (Some known) told e =
    let request = plain_request (rpc.Wake number) in
    asked slot call (Ends result params before (Some number)) request (Some known) (reply.Wake known) told (place_of call request)
    refl refl e

-- ---- the law

some_exit : (one other : Exited) → Some one ≡ Some other → one ≡ other
some_exit one other e = cc

pub exits_show : ExitsShowReplies
exits_show kernel cpu slot regs progress exited woken told goes e =
    let visit : Visit = record { cpu = cpu; regs = regs; steps = goes.steps } in
    let is : exit kernel cpu ≡ Some (goes_out_from kernel visit slot progress) =
    ap (λ (o : Option Processor). option_and_then (exit_of kernel cpu) o) goes.is_inside
    ∙ ap (λ (o : Option Progress). option_map (goes_out_from kernel visit slot) o) goes.comes_to in
    let same : goes_out_from kernel visit slot progress ≡ exited =
    some_exit (goes_out_from kernel visit slot progress) exited (sym is ∙ goes.exits) in
    ap (λ (o : Option Shown). option_map (seen_with regs) o)
    (in_phase slot progress.call progress.call.phase woken told e)
    ∙ ap (λ (x : Exited). Some (x.regs, x.writes)) same
