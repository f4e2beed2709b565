-- A call that ends with a result of its application leaves its outputs where its client looks for them.
use Rattle.std.proofs.Common.{◌≡◌, ℕ, suc, ◌+◌, ◌≤◌, Bool, true, false, List, [], ◌∷◌, ◌++◌, length, Option, Some, None, ap, subst, sym, ◌∙◌, arith}
use Rattle.std.proofs.Common.{append_assoc}
use Rattle.std.specs.Prelude.{◌==◌, if◌then◌else◌}
use Rattle.std.specs.List.{AllByRecursion}
use Rattle.std.specs.Option.{option_map_or}
use Rattle.job_model.specs.Point.{no_params}
use Rattle.job_model.specs.declared.call_kind.CallKind.{CallKind}
use Rattle.job_model.specs.declared.call_kind.CallKind.TheVariants as kind
use Rattle.kernel_model.specs.Codes.{success}
use Rattle.kernel_model.specs.Exit.{output_writes, result_writes, session_writes, word32}
use Rattle.kernel_model.specs.Kernel.{Asks, CallPhase, Ends, PendingCall, Runs, Waits}
use Rattle.kernel_model.specs.Leaving.{Finishes, FreesBuffer, Request, Requests, WantsBuffer, leaving_in, leaving_of}
use Rattle.msg_args.specs.Layout.{origin_at, ret_at}
use Rattle.ns_ram.specs.Writes.{Write, lane_after}
use Rattle.ns_ram.proofs.WriteList.{lane_after-append}
use Rattle.own_model.specs.Parameters.{output_of, outputs_of, outputs_with}
use Rattle.param_copy.specs.WritingBack.{writes_back}
use Rattle.param_copy.specs.declared.copied.Place.{Place}
use Rattle.rpc_msgs.specs.declared.request_place.RequestPlace.{RequestPlace}
use Rattle.rpc_msgs.specs.declared.rpc_buffer.RpcBuffer.{RpcBuffer}
use Rattle.ta_params.specs.declared.call_result.CallResult.{CallResult}
use Rattle.ta_params.specs.declared.copied_params.CopiedParams.{CopiedParams}
use Rattle.ta_step.specs.Shape.{shapes}
use Rattle.teec.specs.Operation.{IsSendable, Sends, param_back, params_back, params_of}
use Rattle.teec.specs.Places.{argument_at}
use Rattle.teec.specs.declared.operation.Operation.{Operation}
use Rattle.client_play.specs.Outputs.{TellsOutput, TellsOutputs}
use Rattle.client_play.proofs.Bringing.{Brings, BringsIn, Brought, IsBrought}
use Rattle.client_play.proofs.CopiedThere.{brought_by}
use Rattle.client_play.proofs.OutputsTold.{AreAlike, IsInHead, all_both, all_told}

-- an operation as a call sends it, whose parameters the argument has behind so many others
pub record Sending : Type 0 where
  pub before : ℕ
  pub op : Operation
  pub sent : ℕ
  pub few : before ≤ 2
  pub sendable : IsSendable op
  pub sends : Sends op sent

abbrev pub brought : Sending → Brought
brought s = brought_by s.before s.op s.sent

-- its parameters, with the outputs that RAM has
abbrev pub back_in : Sending → List ℕ → CopiedParams
back_in s ram = params_back ram s.before s.op.params

-- ---- the phase of a call that goes out with its result

no_request : (request : Request) (found : Option RequestPlace) (result : CallResult) (params : CopiedParams)
    → option_map_or (λ place. Requests place request) found WantsBuffer ≡ Finishes result params → ⊥
no_request request None result params e = cc
no_request request (Some place) result params e = cc

-- it has what it has brought
pub finished_brings : (b : Brought) (slot : ℕ) (call : PendingCall) (result : CallResult) (params : CopiedParams)
    → leaving_of slot call ≡ Finishes result params → Brings b call → result.origin ≡ 4 → IsBrought b call.places params
finished_brings b slot call result params = by call.phase
  where
    by_buffer : (found : Option RpcBuffer) (its : CallResult) (left : CopiedParams)
        → option_map_or FreesBuffer found (Finishes its left) ≡ Finishes result params
        → (its.origin ≡ 4 → IsBrought b call.places left) → result.origin ≡ 4 → IsBrought b call.places params
    by_buffer (Some buffer) its left e has origin = absurd cc
    by_buffer None its left e has origin =
        let same : left ≡ params = cc in
        let result_same : its ≡ result = cc in
        subst (IsBrought b call.places) same (has (ap (λ (r : CallResult). r.origin) result_same ∙ origin))

    by : (phase : CallPhase) → leaving_in slot call phase ≡ Finishes result params → BringsIn b call.places phase → result.origin ≡ 4
        → IsBrought b call.places params
    by (Runs job) e has origin = absurd cc
    by (Asks job wanted payload) e has origin = absurd (no_request _ _ result params e)
    by (Waits left) e has origin = absurd (no_request _ _ result params e)
    by (Ends its left told (Some woken)) e has origin = absurd (no_request _ _ result params e)
    by (Ends its left told None) e has origin = by_buffer call.buffer its left e has origin

-- ---- what its last writes leave

-- behind its outputs it writes to the head of its argument alone
abbrev last_writes : PendingCall → CallResult → List Write
last_writes call result =
    session_writes call call.kind result
    ++ word32 (ret_at call.arg) result.result ∷ word32 (origin_at call.arg) result.origin ∷ []

word_in_head : (addr offset number : ℕ) → addr ≡ argument_at → offset ≤ 28 → IsInHead (word32 (addr + offset) number)
word_in_head addr offset number is few = record { above = omega (arith, is); below = omega (arith, is, few) }

session_in_head : (call : PendingCall) (call_kind : CallKind) (result : CallResult) → call.arg ≡ argument_at
    → AllByRecursion IsInHead (session_writes call call_kind result)
session_in_head call kind.Open result is = by (result.result == success)
  where
    by : (test : Bool) → AllByRecursion IsInHead (if test then word32 (call.arg + 8) call.session ∷ [] else [])
    by true = (word_in_head call.arg 8 call.session is (omega arith), tt)
    by false = tt
session_in_head call (kind.Invoke func) result is = tt
session_in_head call kind.Close result is = tt
session_in_head call kind.Settled result is = tt

last_in_head : (call : PendingCall) (result : CallResult) → call.arg ≡ argument_at → AllByRecursion IsInHead (last_writes call result)
last_in_head call result is =
    all_both IsInHead (session_writes call call.kind result)
    (word32 (ret_at call.arg) result.result ∷ word32 (origin_at call.arg) result.origin ∷ []) (session_in_head call call.kind result is)
    (word_in_head call.arg 20 result.result is (omega arith), (word_in_head call.arg 24 result.origin is (omega arith), tt))

-- all outputs of an operation, behind writes to the head
outputs_there : (s : Sending) (lane : List ℕ) (told : CopiedParams) (last : List Write) → 0x400000 ≤ length lane
    → shapes told ≡ shapes s.op.params → AllByRecursion IsInHead last
    → TellsOutputs (back_in s (lane_after (lane_after lane (writes_back argument_at (brought s).places told)) last)) (outputs_of told)
outputs_there s lane told last whole same in_head =
    let ram = lane_after (lane_after lane (writes_back argument_at (brought s).places told)) last in
    let at_most = s.sends.at_most_four in
    let few = s.few in
    let zeroth : s.before ≡ s.before + 0 = omega arith in
    let one : suc s.before ≡ s.before + 1 = omega arith in
    let two : suc (suc s.before) ≡ s.before + 2 = omega arith in
    let three : suc (suc (suc s.before)) ≡ s.before + 3 = omega arith in
    let alike : AreAlike (params_of s.op.params) (params_of told) = (
      ap (λ (all : List (ℕ × ℕ)). first_of all) same,
      (
        ap (λ (all : List (ℕ × ℕ)). first_of (rest_of all)) same,
        (
          ap (λ (all : List (ℕ × ℕ)). first_of (rest_of (rest_of all))) same,
          (ap (λ (all : List (ℕ × ℕ)). first_of (rest_of (rest_of (rest_of all)))) same, tt),
        ),
      ),
    ) in
    let all = all_told s.sent s.before 0 (params_of s.op.params) (params_of told) lane last whole
    (omega (arith, at_most, few), omega (arith, at_most)) s.sendable alike s.sends.others_empty in_head in
    record {
      first = subst (λ (place : ℕ). TellsOutput (param_back ram place 0 s.op.params.p0) (output_of told.p0)) zeroth all.0;
      second = subst (λ (place : ℕ). TellsOutput (param_back ram place 1 s.op.params.p1) (output_of told.p1)) one all.1.0;
      third = subst (λ (place : ℕ). TellsOutput (param_back ram place 2 s.op.params.p2) (output_of told.p2)) two all.1.1.0;
      fourth = subst (λ (place : ℕ). TellsOutput (param_back ram place 3 s.op.params.p3) (output_of told.p3)) three all.1.1.1.0;
    }
  where
    first_of : List (ℕ × ℕ) → ℕ × ℕ
    first_of [] = (0, 0)
    first_of (x ∷ xs) = x

    rest_of : List (ℕ × ℕ) → List (ℕ × ℕ)
    rest_of [] = []
    rest_of (x ∷ xs) = xs

-- all outputs of a call that ends so
pub written_told : (s : Sending) (ram : List ℕ) (call : PendingCall) (result : CallResult) (params : CopiedParams) → 0x400000 ≤ length ram
    → call.arg ≡ argument_at → IsBrought (brought s) call.places params → result.origin ≡ 4
    → TellsOutputs (back_in s (lane_after ram (result_writes call result params))) (outputs_with result params)
written_told s ram call result params whole arg has origin =
    let last = last_writes call result in
    let by_application : (result.origin == 4) ≡ true = ap (λ (n : ℕ). n == 4) origin in
    let outputs_are : output_writes call result params ≡ writes_back argument_at (brought s).places params =
    ap (λ (b : Bool). if b then writes_back call.arg call.places params else []) by_application
    ∙ ap (λ (addr : ℕ). writes_back addr call.places params) arg
    ∙ ap (λ (places : List Place). writes_back argument_at places params) has.0 in
    let ram_is : lane_after ram (result_writes call result params)
    ≡ lane_after (lane_after ram (writes_back argument_at (brought s).places params)) last =
    ap (lane_after ram)
    (append_assoc (output_writes call result params) (session_writes call call.kind result)
    (word32 (ret_at call.arg) result.result ∷ word32 (origin_at call.arg) result.origin ∷ [])
    ∙ ap (λ (outputs : List Write). outputs ++ last) outputs_are)
    ∙ lane_after-append ram (writes_back argument_at (brought s).places params) last in
    let told_is : outputs_with result params ≡ outputs_of params = ap (λ (b : Bool). if b then outputs_of params else no_params) by_application in
    subst (λ (lane : List ℕ). TellsOutputs (back_in s lane) (outputs_with result params)) (sym ram_is)
    (subst (λ (outputs : CopiedParams).
    TellsOutputs (back_in s (lane_after (lane_after ram (writes_back argument_at (brought s).places params)) last)) outputs) (sym told_is)
    (outputs_there s ram params last whole has.1 (last_in_head call result arg)))
