-- Each script has a play: what a client writes before a call is a whole argument of a command, and so no call fails.
use Rattle.std.proofs.Common.{◌≡◌, ℕ, zero, suc, ◌+◌, ◌-◌, ◌≤◌, ◌<◌, Bool, true, false, List, [], ◌∷◌, ◌++◌, length, map, take, drop, replicate, Option, Some, None, refl, ap, subst, sym, ◌∙◌, arith}
use Rattle.std.proofs.Common.{append_assoc}
use Rattle.std.specs.Prelude.{IfSome, IsSome, nat_le, slice_get, ◌^◌, ◌&&◌, ◌==◌, if◌then◌else◌}
use Rattle.std.specs.List.{flat_map}
use Rattle.std.specs.Option.{option_and_then, option_map_or}
use Rattle.std.proofs.lemmas.Bool.Decides.{nat_tests}
use Rattle.std.proofs.Math.Seq.{drop-append_seam}
use Rattle.std.proofs.lemmas.List.{length-take}
use Rattle.std.proofs.lemmas.Nat.{from_le_bytes-to_le_bytes_4}
use Rattle.base.specs.Zeros.{zeros}
use Rattle.base.proofs.ZeroLemmas.{length-zeros}
use Rattle.client_text.specs.Sound.{IsClientBoot, IsSoundScript}
use Rattle.client_text.specs.declared.script.Script.{Script}
use Rattle.client_text.specs.declared.script.ScriptCall.{ScriptCall}
use Rattle.client_text.specs.declared.script.ScriptCall.TheVariants.{Close, Invoke, Open}
use Rattle.kernel_model.specs.Application.{Booted, IsBooted, Native, booted}
use Rattle.kernel_model.specs.Argument.{reg}
use Rattle.kernel_model.specs.Decision.{Taken, Tested}
use Rattle.kernel_model.specs.Entry.{decision_of}
use Rattle.kernel_model.specs.Kernel.{Free, Outside, PendingCall, Suspended, ThreadSlot, lowest_free}
use Rattle.kernel_model.specs.Leaving.{Leaving}
use Rattle.kernel_model.specs.Located.{at_address, has_argument}
use Rattle.kernel_model.specs.NewCall.{NewCall, cancel_calls, close_session, command_of, invoke_command, open_session}
use Rattle.kernel_model.proofs.Parts.{if-both}
use Rattle.msg_args.specs.Layout.{argument_len}
use Rattle.msg_args.specs.Reading.{head_at}
use Rattle.msg_args.specs.Spelling.{head_bytes, param_bytes, spelling}
use Rattle.msg_args.specs.declared.arg.MsgArg.{MsgArg}
use Rattle.msg_args.specs.declared.head.MsgHead.{MsgHead}
use Rattle.ns_ram.specs.Lane.{bytes_at, bytes_put, is_in_ram}
use Rattle.ns_ram.specs.Writes.{Write, lane_after}
use Rattle.ns_ram.proofs.LaneBytes.{bytes_at-is}
use Rattle.ns_ram.proofs.WriteList.{lane_after-append}
use Rattle.play_model.specs.Play.{Play}
use Rattle.smc_abi.specs.Call as smc
use Rattle.smc_abi.specs.declared.regs.Regs.{Regs}
use Rattle.ta_isa.specs.declared.boot.Boot.{Boot}
use Rattle.ta_params.specs.declared.copied_params.GpParam.{GpParam}
use Rattle.teec.specs.Calls.{Call}
use Rattle.teec.specs.declared.fault.TeecFault.TheVariants.{Rounds}
use Rattle.teec.specs.Rounds.{Calls, Cancels, Ended, Failed, Resumes, Stage, after_cancel, after_resume, after_return, before_answer}
use Rattle.teec.specs.Rounds as rounds
use Rattle.teec.specs.Answers.{call_with_arg, return_from_rpc, return_of}
use Rattle.teec.specs.Arguments.{cancel_argument, close_argument, invoke_argument, open_argument}
use Rattle.teec.specs.Operation.{buffer_writes, params_of, params_sent, sent_from}
use Rattle.teec.specs.Places.{argument_at, cancel_at}
use Rattle.teec.specs.declared.answer.RpcKind.{RpcKind}
use Rattle.teec.specs.declared.answer.RpcReturn.{RpcReturn}
use Rattle.teec.specs.declared.answer.Said.{Said}
use Rattle.teec.specs.declared.operation.Operation.{Operation}
use Rattle.trace_text.specs.declared.trace.Fill.{Fill}
use Rattle.client_play.specs.Calls.{Sessions, call_of, cancelled_after, operation_of, session_of}
use Rattle.client_play.specs.PlayLaws.{ScriptsHavePlays}
use Rattle.client_play.specs.Played.{Client, after_call, call_made, calls_made, first_client, first_standing, goes_on}
use Rattle.client_play.specs.Making.{prepared_at}
use Rattle.client_play.specs.Standing as standing
use Rattle.client_play.specs.Standing.{Came, Fails, Standing, Stopped, after_smc, answer_of, call_from, most_returns, next_stage, prepared, standing_after, tries, unless_full}
use Rattle.client_play.proofs.Bringing.{Follows}
use Rattle.client_play.proofs.NewCalls.{IsSettled, IsWellMade, Lasting, OnLane, TakesSlot, takes_for_client, takes_settled}
use Rattle.client_play.proofs.NoFaults.{Comes, Full, Stands, Took, call_turns, cancel_turns, smc_comes, whole_after}
use Rattle.client_play.proofs.OfTraces.{some_cpu}
use Rattle.client_play.proofs.Turns.{Asked, Over, Turned, first_lowest, resumes_call, second_lowest, slots_with}

-- ---- the head of an argument

-- its bytes are read where they were written
head_there : (lane : List ℕ) (addr : ℕ) (head : MsgHead) (rest : List ℕ) → 0x40000000 ≤ addr → addr - 0x40000000 ≤ length lane
    → bytes_at (bytes_put lane addr (head_bytes head ++ rest)) addr 32 ≡ head_bytes head
head_there lane addr head rest above within =
    let offset = addr - 0x40000000 in
    let bytes = head_bytes head ++ rest in
    let behind = drop (offset + length bytes) lane in
    let n : length (take offset lane) ≡ offset = omega (arith, length-take offset lane) in
    let there : drop offset (take offset lane ++ (bytes ++ behind)) ≡ bytes ++ behind =
    rw n at (drop-append_seam (take offset lane) (bytes ++ behind)) in
    bytes_at-is (bytes_put lane addr bytes) addr 32 above
    ∙ ap (λ (all : List ℕ). take 32 (drop offset all)) (append_assoc (take offset lane) bytes behind)
    ∙ ap (λ (all : List ℕ). take 32 all) there

cmd_again : (head : MsgHead) → head.cmd < 2 ^ 32 → (head_at (head_bytes head)).cmd ≡ head.cmd
cmd_again head fits = from_le_bytes-to_le_bytes_4 head.cmd fits

pub count_again : (head : MsgHead) → head.count < 2 ^ 32 → (head_at (head_bytes head)).count ≡ head.count
count_again head fits = from_le_bytes-to_le_bytes_4 head.count fits

-- an argument of so many parameters is whole at an address
abbrev is_whole : ℕ → ℕ → Bool
is_whole addr count = nat_le count 6 && (is_in_ram addr (argument_len count + 0) && true)

few_are_whole : (count : ℕ) → count ≤ 6 → is_whole argument_at count ≡ true
few_are_whole zero few = refl
few_are_whole (suc zero) few = refl
few_are_whole (suc (suc zero)) few = refl
few_are_whole (suc (suc (suc zero))) few = refl
few_are_whole (suc (suc (suc (suc zero)))) few = refl
few_are_whole (suc (suc (suc (suc (suc zero))))) few = refl
few_are_whole (suc (suc (suc (suc (suc (suc zero)))))) few = refl
few_are_whole (suc (suc (suc (suc (suc (suc (suc more))))))) few = absurd (omega arith)

-- ---- calls

-- RAM has the whole argument of this command there
pub record HasArgument (ram : List ℕ) (addr : ℕ) (command : NewCall → Tested Taken) : Type 0 where
  pub whole : has_argument (at_address false addr) (head_at (bytes_at ram addr 32)) ≡ true
  pub command_is : command_of (head_at (bytes_at ram addr 32)).cmd ≡ Some command

-- whatever RAM has before
pub record IsMade (call : Call) : Type 0 where
  pub command : NewCall → Tested Taken
  pub has : (ram : List ℕ) → HasArgument (lane_after ram call.writes) argument_at command

-- behind other writes RAM is what it was with the argument in front
pub lane_is : (ram : List ℕ) (writes : List Write) (arg : MsgArg)
    → lane_after ram (writes ++ record { addr = argument_at; bytes = spelling arg } ∷ [])
    ≡ bytes_put (lane_after ram writes) argument_at (spelling arg)
lane_is ram writes arg = lane_after-append ram writes (record { addr = argument_at; bytes = spelling arg } ∷ [])

-- and so are its first bytes
pub head_first : (lane : List ℕ) (arg : MsgArg) → bytes_at (bytes_put lane argument_at (spelling arg)) argument_at 32 ≡ head_bytes arg.head
head_first lane arg =
    let first : 0x40000000 ≤ argument_at = omega arith in
    let within : argument_at - 0x40000000 ≤ length lane = omega arith in
    head_there lane argument_at arg.head (flat_map param_bytes arg.params.items) first within

pub argument_has : (arg : MsgArg) (writes : List Write) (command : NewCall → Tested Taken) → arg.head.cmd < 2 ^ 32
    → arg.head.count ≤ 6 → command_of arg.head.cmd ≡ Some command → (ram : List ℕ)
    → HasArgument (lane_after ram (writes ++ record { addr = argument_at; bytes = spelling arg } ∷ [])) argument_at command
argument_has arg writes command cmd few known ram =
    let head = head_first (lane_after ram writes) arg in
    let fits : arg.head.count < 2 ^ 32 = omega (arith, few) in
    let count : (head_at (head_bytes arg.head)).count ≡ arg.head.count = count_again arg.head fits in
    subst (λ (all : List ℕ). HasArgument all argument_at command) (sym (lane_is ram writes arg)) (record {
      whole = ap (λ (bytes : List ℕ). is_whole argument_at (head_at bytes).count) head
          ∙ ap (λ (n : ℕ). is_whole argument_at n) count ∙ few_are_whole arg.head.count few;
      command_is = ap (λ (bytes : List ℕ). command_of (head_at bytes).cmd) head
          ∙ ap command_of (cmd_again arg.head cmd) ∙ known;
    })

argument_made : (arg : MsgArg) (writes : List Write) (session : ℕ) (command : NewCall → Tested Taken) → arg.head.cmd < 2 ^ 32
    → arg.head.count ≤ 6 → command_of arg.head.cmd ≡ Some command
    → IsMade (record { writes = writes ++ record { addr = argument_at; bytes = spelling arg } ∷ []; session = session })
argument_made arg writes session command cmd few known =
    record { command = command; has = argument_has arg writes command cmd few known }

length-sent : (number : ℕ) (params : List GpParam) → length (sent_from number params) ≡ length params
length-sent number [] = refl
length-sent number (param ∷ params) = ap suc (length-sent (suc number) params)

pub few_sent : (op : Operation) (sent : ℕ) → length (params_sent op sent) ≤ 4
few_sent op sent =
    let all = length-sent 0 (take sent (params_of op.params)) in
    let cut = length-take sent (params_of op.params) in
    omega (arith, all, cut)

-- each call of a script
pub calls_are_made : (sessions : Sessions) (call : ScriptCall) → IsMade (call_of sessions call)
calls_are_made sessions (Open name uuid params) =
    let op = operation_of params None in
    let few = few_sent op (length params) in
    let small : 0 < 2 ^ 32 = omega arith in
    let six : suc (suc (length (params_sent op (length params)))) ≤ 6 = omega (arith, few) in
    argument_made (open_argument uuid op (length params)) (buffer_writes op) 0 open_session small six refl
calls_are_made sessions (Invoke name func cancel_after params) =
    let op = operation_of params cancel_after in
    let few = few_sent op (length params) in
    let small : 1 < 2 ^ 32 = omega arith in
    let six : length (params_sent op (length params)) ≤ 6 = omega (arith, few) in
    argument_made (invoke_argument (session_of sessions name) func op (length params)) (buffer_writes op) (session_of sessions name)
    invoke_command small six refl
calls_are_made sessions (Close name) =
    let small : 2 < 2 ^ 32 = omega arith in
    let six : 0 ≤ 6 = omega arith in
    argument_made (close_argument (session_of sessions name)) [] (session_of sessions name) close_session small six refl

-- ---- a call

-- the call is in slot 0, suspended for client 0 behind this RPC return
pub record Holds (boot : Booted) (n : ℕ) (rpc : RpcReturn) (at : Standing) : Type 0 where
  pub pending : PendingCall
  pub client : pending.client ≡ 0
  pub stands : Stands boot (Suspended 0 pending) n at
  pub thread : rpc.thread ≡ 0

-- as an SMC has left it there
holds_call : (boot : Booted) (n : ℕ) (was pending : PendingCall) (kind : RpcKind) (held : ThreadSlot) (at : Standing) → was.client ≡ 0
    → Follows was pending → held ≡ Suspended 0 pending → Stands boot held n at
    → Holds boot n (record { kind = kind; thread = 0 }) at
holds_call boot n was pending kind held at client follows there stands = record {
  pending = pending;
  client = ap (λ (l : Lasting). l.client) follows.same ∙ client;
  stands = subst (λ (h : ThreadSlot). Stands boot h n at) there stands;
  thread = refl;
}

-- in a call: so many RPC returns, and SMCs that can still be made
pub record InCall (boot : Booted) (n returns room : ℕ) (rpc : RpcReturn) (at : Standing) : Type 0 where
  pub holds : Holds boot n rpc at
  pub few : returns + room ≤ 32768

-- it returns between two calls, or stops
abbrev pub IsWellDone : Booted → ℕ → ℕ → Came → Type 0
IsWellDone boot n room (standing.Returned left after) = Stands boot Free n after × (left ≤ room)
IsWellDone boot n room (Stopped more history) = Unit {0}
IsWellDone boot n room (Fails fault) = ⊥

module _ (boot : Booted) (boots : IsBooted boot) (n : ℕ) (cancel_after : Option ℕ) (call : Call) (made : IsMade call) where
  abbrev Fits : Stage → ℕ → Standing → Type 0
  Fits (Calls zero) room at = Stands boot Free n at
  Fits (Calls (suc refused)) room at = ⊥
  Fits (Cancels returns rpc) room at = InCall boot n returns room rpc at
  Fits (Resumes returns rpc) room at = InCall boot n returns room rpc at
  Fits Ended room at = Stands boot Free n at
  Fits (Failed fault) room at = ⊥

  abbrev IsWell : ℕ → Came → Type 0
  IsWell room came = IsWellDone boot n room came

  abbrev Well : ℕ → Option Came → Type 0
  Well room found = (came : Came) × (found ≡ Some came) × IsWell room came

  -- with room for one more
  roomier : (room : ℕ) (came : Came) → IsWell room came → IsWell (suc room) came
  roomier room (standing.Returned left after) well = (well.0, omega (arith, well.1))
  roomier room (Stopped more history) well = tt
  roomier room (Fails fault) well = well

  -- the stage behind an answer to a call or a resume
  same_return : (returns : ℕ) → returns < 65536 → (returns == 65536) ≡ false
  same_return returns few = grind (arith, nat_tests)

  -- the stages behind an RPC return, and behind the answers to a call and to a resume
  abbrev answering : ℕ → RpcReturn → Stage
  answering returns rpc = before_answer (record { retries = tries; rounds = most_returns; cancel_after = cancel_after }) returns rpc

  abbrev returning : ℕ → RpcReturn → Stage
  returning returns rpc = after_return (record { retries = tries; rounds = most_returns; cancel_after = cancel_after }) returns rpc

  abbrev called_so : Regs → Said → Stage
  called_so answer s = rounds.after_call (record { retries = tries; rounds = most_returns; cancel_after = cancel_after }) 0 answer s

  abbrev resumed_so : ℕ → Regs → Said → Stage
  resumed_so returns answer s = after_resume (record { retries = tries; rounds = most_returns; cancel_after = cancel_after }) returns answer s

  fits_return : (returns room : ℕ) (rpc : RpcReturn) (at : Standing) → returns < 65536 → InCall boot n (suc returns) room rpc at
      → Fits (returning returns rpc) room at
  fits_return returns room rpc at few inside =
      subst (λ (b : Bool). Fits (if b then Failed (Rounds most_returns) else answering (suc returns) rpc) room at)
      (sym (same_return returns few))
      (if-both (λ (stage : Stage). Fits stage room at) (option_map_or (λ after. after == suc returns) cancel_after false)
      (Cancels (suc returns) rpc) (Resumes (suc returns) rpc) inside inside)

  -- by what an SMC of the call has left and answered
  after_first : (room : ℕ) (was : PendingCall) (leaving : Leaving) (held : ThreadSlot) (answer : Regs) (at : Standing)
      → suc room ≤ 32768 → was.client ≡ 0 → Turned was leaving held answer
      → Stands boot held n at → Fits (next_stage cancel_after (Calls 0) answer) room at
  after_first room was leaving held answer at few client (Over result params leaves free fin) stands =
      subst (λ (s : Said). Fits (called_so answer s) room at) (sym fin) (subst (λ (h : ThreadSlot). Stands boot h n at) free stands)
  after_first room was leaving held answer at few client (Asked pending there same k ret) stands =
      subst (λ (s : Said). Fits (called_so answer s) room at) (sym ret)
      (fits_return 0 room (record { kind = k; thread = 0 }) at (omega arith)
      (record { holds = holds_call boot n was pending k held at client same there stands; few = omega arith }))

  after_another : (returns room : ℕ) (rpc : RpcReturn) (was : PendingCall) (leaving : Leaving) (held : ThreadSlot) (answer : Regs)
      (at : Standing) → returns + suc room ≤ 32768
      → was.client ≡ 0 → Turned was leaving held answer → Stands boot held n at → Fits (next_stage cancel_after (Resumes returns rpc) answer) room at
  after_another returns room rpc was leaving held answer at few client (Over result params leaves free fin) stands =
      subst (λ (s : Said). Fits (resumed_so returns answer s) room at) (sym fin)
      (subst (λ (h : ThreadSlot). Stands boot h n at) free stands)
  after_another returns room rpc was leaving held answer at few client (Asked pending there same k ret) stands =
      subst (λ (s : Said). Fits (resumed_so returns answer s) room at) (sym ret)
      (fits_return returns room (record { kind = k; thread = 0 }) at (omega arith)
      (record { holds = holds_call boot n was pending k held at client same there stands; few = omega arith }))

  -- an SMC, and what comes behind it
  stopped_well : (room more : ℕ) (regs : Regs) (asked : Standing) (after : Play) (onward : Play → Option Came)
      → after_smc boot regs asked ≡ Some after → after.refused ≡ Some more
      → Well room (option_and_then (unless_full onward) (after_smc boot regs asked))
  stopped_well room more regs asked after onward e full = (
    Stopped more after.history,
    ap (λ (o : Option Play). option_and_then (unless_full onward) o) e
        ∙ ap (λ (o : Option ℕ). option_map_or (λ bytes. Some (Stopped bytes after.history)) o (onward after)) full,
    tt,
  )

  went_well : (room : ℕ) (regs : Regs) (asked : Standing) (after : Play) (onward : Play → Option Came)
      → after_smc boot regs asked ≡ Some after → after.refused ≡ None → Well room (onward after)
      → Well (suc room) (option_and_then (unless_full onward) (after_smc boot regs asked))
  went_well room regs asked after onward e going well = (
    well.0,
    ap (λ (o : Option Play). option_and_then (unless_full onward) o) e
        ∙ ap (λ (o : Option ℕ). option_map_or (λ bytes. Some (Stopped bytes after.history)) o (onward after)) going ∙ well.1,
    roomier room well.0 well.2,
  )

  -- RAM with what was written before an SMC
  pub asked_stands : (held : ThreadSlot) (stage : Stage) (at : Standing) → Stands boot held n at → Stands boot held n (prepared call stage at)
  asked_stands held stage at stands = record {
    comes = stands.comes;
    outside = stands.outside;
    whole = whole_after at.ram (prepared_at call stage at.ram at.storage).writes stands.whole;
    slots = stands.slots;
  }

  first_comes : (at : Standing) → Stands boot Free n at
      → (let asked = prepared call (Calls 0) at in
      (after : Play) × (after_smc boot (call_with_arg argument_at) asked ≡ Some after)
      × Comes boot asked (call_with_arg argument_at) 0 (λ taken. taken.call.client ≡ 0) after)
  first_comes at stands =
      let asked = prepared call (Calls 0) at in
      let ready = asked_stands Free (Calls 0) at stands in
      let has = made.has at.ram in
      let well : IsWellMade asked.kernel (call_with_arg argument_at).a asked.ram 0 (at_address false argument_at) made.command = record {
        lowest = ap lowest_free stands.slots ∙ first_lowest n;
        place = refl;
        head = refl;
        argument = has.whole;
        command_is = has.command_is;
      } in
      smc_comes boot asked (call_with_arg argument_at) 0 (λ taken. taken.call.client ≡ 0) boots ready.comes ready.outside ready.whole
      (takes_for_client boot asked.kernel (call_with_arg argument_at).a asked.ram 0 (at_address false argument_at) made.command well)

  pub resume_comes : (returns : ℕ) (rpc : RpcReturn) (at : Standing) (holds : Holds boot n rpc at)
      → (let asked = prepared call (Resumes returns rpc) at in
      (after : Play) × (after_smc boot (return_from_rpc rpc) asked ≡ Some after)
      × Comes boot asked (return_from_rpc rpc) 0 (λ taken. Follows holds.pending taken.call) after)
  resume_comes returns rpc at holds =
      let asked = prepared call (Resumes returns rpc) at in
      let ready = asked_stands (Suspended 0 holds.pending) (Resumes returns rpc) at holds.stands in
      let on = resumes_call boot asked.kernel asked.ram rpc.kind holds.pending (Free ∷ replicate n Free) holds.stands.slots in
      smc_comes boot asked (return_from_rpc rpc) 0 (λ taken. Follows holds.pending taken.call) boots ready.comes ready.outside
      ready.whole
      (subst (λ (t : ℕ). OnLane asked.ram (TakesSlot 0 (λ taken. Follows holds.pending taken.call))
      (decision_of boot asked.kernel (return_of rpc.kind t).a (smc.call_of (reg (return_of rpc.kind t).a 0)))) (sym holds.thread) on)

  pub cancel_comes : (returns : ℕ) (rpc : RpcReturn) (at : Standing) → Holds boot n rpc at
      → (let asked = prepared call (Cancels returns rpc) at in
      (after : Play) × (after_smc boot (call_with_arg cancel_at) asked ≡ Some after)
      × Comes boot asked (call_with_arg cancel_at) 1 (λ taken. IsSettled taken.call) after)
  cancel_comes returns rpc at holds =
      let asked = prepared call (Cancels returns rpc) at in
      let ready = asked_stands (Suspended 0 holds.pending) (Cancels returns rpc) at holds.stands in
      let arg = cancel_argument call.session in
      let whole = holds.stands.whole in
      let zero_fits : 0 < 2 ^ 32 = omega arith in
      let three_fits : 3 < 2 ^ 32 = omega arith in
      let head : bytes_at asked.ram cancel_at 32 ≡ head_bytes arg.head = head_there at.ram cancel_at arg.head [] (omega arith) (omega (arith, whole)) in
      let well : IsWellMade asked.kernel (call_with_arg cancel_at).a asked.ram 1 (at_address false cancel_at) cancel_calls = record {
        lowest = ap lowest_free holds.stands.slots ∙ second_lowest 0 n holds.pending;
        place = refl;
        head = refl;
        argument = ap (λ (bytes : List ℕ). is_whole cancel_at (head_at bytes).count) head
            ∙ ap (λ (count : ℕ). is_whole cancel_at count) (count_again arg.head zero_fits);
        command_is = ap (λ (bytes : List ℕ). command_of (head_at bytes).cmd) head ∙ ap command_of (cmd_again arg.head three_fits);
      } in
      smc_comes boot asked (call_with_arg cancel_at) 1 (λ taken. IsSettled taken.call) boots ready.comes ready.outside ready.whole
      (takes_settled boot asked.kernel (call_with_arg cancel_at).a asked.ram 1 (at_address false cancel_at) well)

  -- from a stage on, while every stage that fits goes well with less room
  abbrev GoesWell : ℕ → Type 0
  GoesWell room = (stage : Stage) (at : Standing) → Fits stage room at → Well room (call_from boot cancel_after call room stage at)

  abbrev onward_from : ℕ → Stage → Standing → Play → Option Came
  onward_from room stage asked play =
      call_from boot cancel_after call room (next_stage cancel_after stage (answer_of play)) (standing_after play asked.storage)

  by_first : (room : ℕ) (at : Standing) (after : Play) → suc room ≤ 32768 → Stands boot Free n at → GoesWell room
      → (let asked = prepared call (Calls 0) at in after_smc boot (call_with_arg argument_at) asked ≡ Some after
      → Comes boot asked (call_with_arg argument_at) 0 (λ taken. taken.call.client ≡ 0) after
      → Well (suc room) (option_and_then (unless_full (onward_from room (Calls 0) asked)) (after_smc boot (call_with_arg argument_at) asked)))
  by_first room at after few stands rest e (Full more is) =
      stopped_well (suc room) more (call_with_arg argument_at) (prepared call (Calls 0) at) after
      (onward_from room (Calls 0) (prepared call (Calls 0) at)) e is
  by_first room at after few stands rest e (Took going went) =
      let asked = prepared call (Calls 0) at in
      let turned = call_turns boot asked (call_with_arg argument_at) Free n (λ taken. taken.call.client ≡ 0) after asked.storage
      (asked_stands Free (Calls 0) at stands) went went.holds in
      went_well room (call_with_arg argument_at) asked after (onward_from room (Calls 0) asked) e going
      (rest (next_stage cancel_after (Calls 0) (answer_of after)) (standing_after after asked.storage)
      (after_first room went.taken.call _ turned.0 (answer_of after) (standing_after after asked.storage) few went.holds turned.1 turned.2))

  by_resume : (returns room : ℕ) (rpc : RpcReturn) (at : Standing) (after : Play) (inside : InCall boot n returns (suc room) rpc at)
      → GoesWell room → (let asked = prepared call (Resumes returns rpc) at in after_smc boot (return_from_rpc rpc) asked ≡ Some after
      → Comes boot asked (return_from_rpc rpc) 0 (λ taken. Follows inside.holds.pending taken.call) after
      → Well (suc room) (option_and_then (unless_full (onward_from room (Resumes returns rpc) asked)) (after_smc boot (return_from_rpc rpc) asked)))
  by_resume returns room rpc at after inside rest e (Full more is) =
      stopped_well (suc room) more (return_from_rpc rpc) (prepared call (Resumes returns rpc) at) after
      (onward_from room (Resumes returns rpc) (prepared call (Resumes returns rpc) at)) e is
  by_resume returns room rpc at after inside rest e (Took going went) =
      let asked = prepared call (Resumes returns rpc) at in
      let held = Suspended 0 inside.holds.pending in
      let client = ap (λ (l : Lasting). l.client) went.holds.same ∙ inside.holds.client in
      let turned = call_turns boot asked (return_from_rpc rpc) held n (λ taken. Follows inside.holds.pending taken.call) after
      asked.storage (asked_stands held (Resumes returns rpc) at inside.holds.stands) went client in
      went_well room (return_from_rpc rpc) asked after (onward_from room (Resumes returns rpc) asked) e going
      (rest (next_stage cancel_after (Resumes returns rpc) (answer_of after)) (standing_after after asked.storage)
      (after_another returns room rpc went.taken.call _ turned.0 (answer_of after) (standing_after after asked.storage) inside.few client
      turned.1 turned.2))

  by_cancel : (returns room : ℕ) (rpc : RpcReturn) (at : Standing) (after : Play) → InCall boot n returns (suc room) rpc at → GoesWell room
      → (let asked = prepared call (Cancels returns rpc) at in after_smc boot (call_with_arg cancel_at) asked ≡ Some after
      → Comes boot asked (call_with_arg cancel_at) 1 (λ taken. IsSettled taken.call) after
      → Well (suc room) (option_and_then (unless_full (onward_from room (Cancels returns rpc) asked)) (after_smc boot (call_with_arg cancel_at) asked)))
  by_cancel returns room rpc at after inside rest e (Full more is) =
      stopped_well (suc room) more (call_with_arg cancel_at) (prepared call (Cancels returns rpc) at) after
      (onward_from room (Cancels returns rpc) (prepared call (Cancels returns rpc) at)) e is
  by_cancel returns room rpc at after inside rest e (Took going went) =
      let asked = prepared call (Cancels returns rpc) at in
      let turned = cancel_turns boot asked (call_with_arg cancel_at) inside.holds.pending n after asked.storage
      (asked_stands (Suspended 0 inside.holds.pending) (Cancels returns rpc) at inside.holds.stands) went in
      let few = inside.few in
      let holds : Holds boot n rpc (standing_after after asked.storage) = record {
        pending = turned.0;
        client = ap (λ (l : Lasting). l.client) turned.1.same ∙ inside.holds.client;
        stands = turned.3;
        thread = inside.holds.thread;
      } in
      let fits : InCall boot n returns room rpc (standing_after after asked.storage) = record { holds = holds; few = omega (arith, few) } in
      went_well room (call_with_arg cancel_at) asked after (onward_from room (Cancels returns rpc) asked) e going
      (rest (next_stage cancel_after (Cancels returns rpc) (answer_of after)) (standing_after after asked.storage)
      (subst (λ (s : Said). Fits (after_cancel returns rpc (answer_of after) s) room (standing_after after asked.storage)) (sym turned.2) fits))

  pub call_comes : (room : ℕ) → room ≤ 32768 → GoesWell room
  call_comes zero few (Calls zero) at fits = (Stopped 0 at.history, refl, tt)
  call_comes zero few (Calls (suc refused)) at fits = absurd fits
  call_comes zero few (Cancels returns rpc) at fits = (Stopped 0 at.history, refl, tt)
  call_comes zero few (Resumes returns rpc) at fits = (Stopped 0 at.history, refl, tt)
  call_comes zero few Ended at fits = (standing.Returned 0 at, refl, (fits, omega arith))
  call_comes zero few (Failed fault) at fits = absurd fits
  call_comes (suc room) few (Calls zero) at fits =
      let comes = first_comes at fits in
      by_first room at comes.0 few fits (call_comes room (omega (arith, few))) comes.1 comes.2
  call_comes (suc room) few (Calls (suc refused)) at fits = absurd fits
  call_comes (suc room) few (Cancels returns rpc) at fits =
      let comes = cancel_comes returns rpc at fits.holds in
      by_cancel returns room rpc at comes.0 fits (call_comes room (omega (arith, few))) comes.1 comes.2
  call_comes (suc room) few (Resumes returns rpc) at fits =
      let comes = resume_comes returns rpc at fits.holds in
      by_resume returns room rpc at comes.0 fits (call_comes room (omega (arith, few))) comes.1 comes.2
  call_comes (suc room) few Ended at fits = (standing.Returned (suc room) at, refl, (fits, omega arith))
  call_comes (suc room) few (Failed fault) at fits = absurd fits

-- ---- calls

-- by what the first comes to
first_well : (boot : Booted) (n : ℕ) (calls : List ScriptCall) (client : Client) (call : ScriptCall) (came : Came)
    → ((next : Client) → Stands boot Free n next.standing → next.room ≤ client.room → IsSome (calls_made boot calls next))
    → call_made boot client call ≡ Some came → IsWellDone boot n client.room came
    → IsSome (option_and_then (goes_on (λ next. calls_made boot calls next) client call) (call_made boot client call))
first_well boot n calls client call (standing.Returned left after) rest e well =
    subst (λ (o : Option Came). IsSome (option_and_then (goes_on (λ next. calls_made boot calls next) client call) o)) (sym e)
    (rest (after_call client call left after) well.0 well.1)
first_well boot n calls client call (Stopped more history) rest e well =
    subst (λ (o : Option Came). IsSome (option_and_then (goes_on (λ next. calls_made boot calls next) client call) o)) (sym e) refl
first_well boot n calls client call (Fails fault) rest e well = absurd well

calls_come : (boot : Booted) → IsBooted boot → (n : ℕ) (calls : List ScriptCall) (client : Client) → Stands boot Free n client.standing
    → client.room ≤ 32768 → IsSome (calls_made boot calls client)
calls_come boot boots n [] client stands few = refl
calls_come boot boots n (call ∷ calls) client stands few =
    let came = call_comes boot boots n (cancelled_after call) (call_of client.sessions call) (calls_are_made client.sessions call)
    client.room few (Calls 0) client.standing stands in
    first_well boot n calls client call came.0
    (λ next still less. calls_come boot boots n calls next still (omega (arith, few, less))) came.1 came.2

-- ---- scripts

two_slots : (threads : ℕ) → 2 ≤ threads → (n : ℕ) × (replicate threads Free ≡ slots_with Free n)
two_slots zero two = absurd (omega arith)
two_slots (suc zero) two = absurd (omega arith)
two_slots (suc (suc n)) two = (n, refl)

first_outside : (cpus : ℕ) → 1 ≤ cpus → slice_get (replicate cpus Outside) 0 ≡ Some Outside
first_outside zero some = absurd (omega arith)
first_outside (suc cpus) some = refl

-- before the first call all slots are free
pub first_stands : (natives : List Native) (uuids : List (List ℕ)) (boot : Boot) (script : Script) → IsBooted (booted boot natives)
    → IsSoundScript uuids script → script.boot ≡ Some boot
    → (n : ℕ) × Stands (booted boot natives) Free n (first_standing (zeros 0x400000) (booted boot natives) script)
first_stands natives uuids boot script boots sound is =
    let on = booted boot natives in
    let client : IsClientBoot uuids boot = subst (λ (b : Option Boot). IfSome b (IsClientBoot uuids)) is sound.boot in
    let slots = two_slots boot.threads client.two_threads in
    let size = length-zeros 0x400000 in
    let whole : 0x400000 ≤ length (zeros 0x400000) = omega (arith, size) in (
      slots.0,
      record {
        comes = refl;
        outside = first_outside boot.cpus (some_cpu on boots);
        whole = whole_after (zeros 0x400000) (map (λ (fill : Fill). record { addr = fill.addr; bytes = fill.bytes }) script.fills) whole;
        slots = slots.1;
      },
    )

pub scripts_have_plays : ScriptsHavePlays
scripts_have_plays natives uuids boot script boots sound is =
    let on = booted boot natives in
    let first = first_stands natives uuids boot script boots sound is in
    calls_come on boots first.0 script.calls (first_client (first_standing (zeros 0x400000) on script)) first.1 (omega arith)
