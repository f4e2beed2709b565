-- One SMC of a client's call on a core: what its entry decides, and what its exit leaves and answers.
use Rattle.std.proofs.Common.{◌≡◌, ℕ, zero, suc, ◌+◌, ◌^◌, Bool, true, false, List, [], ◌∷◌, ◌++◌, length, replicate, map, Option, Some, None, refl, ap, subst, sym, ◌∙◌, arith}
use Rattle.std.specs.Prelude.{cond, nat_lt, not, slice_get, slice_set, ◌&&◌, if◌then◌else◌}
use Rattle.std.specs.Option.{option_and_then, option_map, option_map_or}
use Rattle.std.proofs.lemmas.Bool.Decides.{Decides-ltb}
use Rattle.std.proofs.lemmas.Option.{option_and_then_some}
use Rattle.base.specs.NumberMap.{get}
use Rattle.event_journal.specs.Journal.{copied_bytes}
use Rattle.event_journal.specs.declared.event.Event.TheVariants.{Exit}
use Rattle.job_model.specs.declared.call_kind.CallKind.{CallKind}
use Rattle.job_model.specs.declared.call_kind.CallKind.TheVariants as kind
use Rattle.job_model.specs.Steps.{Grant, JobStop, Left, Stopped, grant_of}
use Rattle.job_model.specs.Steps as steps
use Rattle.kernel_model.specs.Application.{Booted}
use Rattle.kernel_model.specs.Argument.{reg, thread_in}
use Rattle.kernel_model.specs.Codes.{eresume, out_of_memory, target_dead}
use Rattle.kernel_model.specs.Decision.{Answers, Decision, Takes, works_on}
use Rattle.kernel_model.specs.Entry.{after_decision, decision_of, entry}
use Rattle.kernel_model.specs.Exit.{Exited, after_grant, answer_of, exit_of, goes_out_from, progress_held, progress_in, progress_in_slot, progress_of, slot_left, writes_of}
use Rattle.kernel_model.specs.Given.{Buffer, Given, NoBuffer, Nothing, Reply, call_given, given_to}
use Rattle.kernel_model.specs.History.{after_event}
use Rattle.kernel_model.specs.Instances.{is_held}
use Rattle.kernel_model.specs.Kernel.{Active, Asks, CallPhase, Cancel, Ends, Free, InSlot, Inside, Instance, Kernel, PendingCall, Processor, Progress, Runs}
use Rattle.kernel_model.specs.Kernel.{Suspended, Tables, ThreadSlot, Visit, Waits, cancelled_call, cancelled_slot, cancelled_slots, lowest_free}
use Rattle.kernel_model.specs.Leaving.{Finishes, FreesBuffer, Interrupted, Leaving, Requests, WantsBuffer, leaving_of}
use Rattle.kernel_model.specs.Resume.{Resumed, app_of_call, begins_in, call_resumed_by, ends_with, goes_on, is_close, is_without_buffer, onward_in, onward_of, resume}
use Rattle.kernel_model.specs.Resume.{resumed_call, sees, sleeps_on, takes_call, tested_again}
use Rattle.kernel_model.proofs.Parts.{if-both, map_or-both, option_map_some}
use Rattle.ns_ram.specs.Reader.{Reader, done, over_lane, reading, want_bytes, want_words, ◌>>=◌}
use Rattle.ns_ram.specs.Lane.{bytes_at}
use Rattle.ns_ram.specs.Reads.{total_bytes}
use Rattle.ns_ram.specs.Writes.{lane_after}
use Rattle.ns_ram.specs.declared.read.Read.{Read}
use Rattle.ns_ram.proofs.ReaderLaws.{over_lane-reading}
use Rattle.own_model.proofs.FixedAnswers as fixed
use Rattle.play_model.specs.Play.{Play, enters, enters_with, entry_event, lane_of, leaves, reads_of, with_event}
use Rattle.play_model.proofs.Adds.{some_is}
use Rattle.play_model.proofs.Entries.{left}
use Rattle.play_model.proofs.EventsCome.{exits_come}
use Rattle.session_table.specs.declared.session.Session.{Session}
use Rattle.smc_abi.specs.Answer.{registers_of}
use Rattle.smc_abi.specs.Call.{call_of}
use Rattle.smc_abi.specs.declared.regs.Regs.{Regs}
use Rattle.ta_params.specs.declared.call_result.CallResult.{CallResult}
use Rattle.ta_params.specs.declared.copied_params.CopiedParams.{CopiedParams}
use Rattle.teec.specs.Answers.{return_of, said}
use Rattle.teec.specs.declared.answer.RpcKind.{RpcKind}
use Rattle.teec.specs.declared.answer.RpcKind.TheVariants as rpc
use Rattle.teec.specs.declared.answer.Said.TheVariants.{Finished, Returned}
use Rattle.client_play.specs.Standing.{Standing, play_of, steps_granted, visit_with}
use Rattle.client_play.proofs.Bringing.{Follows, cancelled_follows, exit_brings, followed_by_itself, resumed_brings}
use Rattle.client_play.proofs.NewCalls.{OnLane, TakesSlot, lasting, made_on}

-- ---- what stays of a call

kept_given : (given : Given) (call : PendingCall) → lasting (call_given given call) ≡ lasting call
kept_given Nothing call = refl
kept_given (Buffer buffer) call = refl
kept_given NoBuffer call = refl
kept_given (Reply reply) call = refl

kept_seen : (call : PendingCall) → lasting (sees call) ≡ lasting call
kept_seen call = if-both (λ (c : PendingCall). lasting c ≡ lasting call) call.marked _ call refl refl

-- what a resume makes of it
abbrev IsSame : Resumed → Progress → Type 0
IsSame r progress = lasting progress.call ≡ lasting r.call

kept_beginning : (r : Resumed) (params : CopiedParams) (session : Session) (call_kind : CallKind) (found : Option Instance)
    → IsSame r (begins_in r params session call_kind found)
kept_beginning r params session kind.Open (Some instance) =
    map_or-both (IsSame r) _ (app_of_call r) _ (λ app. refl) refl
kept_beginning r params session kind.Open None =
    map_or-both (IsSame r) _ (app_of_call r) _ (λ app. if-both (IsSame r) _ _ _ refl refl) refl
kept_beginning r params session (kind.Invoke func) (Some instance) = refl
kept_beginning r params session (kind.Invoke func) None = refl
kept_beginning r params session kind.Close (Some instance) = refl
kept_beginning r params session kind.Close None = refl
kept_beginning r params session kind.Settled (Some instance) = refl
kept_beginning r params session kind.Settled None = refl

kept_again : (r : Resumed) (params : CopiedParams) (session : Session) (found : Option Instance)
    → IsSame r (tested_again r params session found)
kept_again r params session found =
    let dead = option_map_or (λ (instance : Instance). instance.dead) found false && not (is_close r.call.kind) in
    let held = option_map_or is_held found false in
    let begun = begins_in r params session r.call.kind found in
    if-both (IsSame r) dead (ends_with r target_dead) (if held then sleeps_on r params else begun) refl
    (if-both (IsSame r) held (sleeps_on r params) begun
    (if-both (IsSame r) (is_without_buffer r.given) (ends_with r out_of_memory) (goes_on r (Waits params)) refl refl)
    (kept_beginning r params session r.call.kind found))

kept_onward : (r : Resumed) (phase : CallPhase) → IsSame r (onward_in r phase)
kept_onward r (Runs job) = refl
kept_onward r (Asks job wanted payload) = refl
kept_onward r (Waits params) =
    map_or-both (IsSame r) _ (get r.tables.sessions r.call.session) _
    (λ (session : Session). kept_again r params session (get r.tables.instances r.call.instance)) refl
kept_onward r (Ends result params told wakes) = refl

kept_resumed : (boot : Booted) (tables : Tables) (slot : ℕ) (call : PendingCall) (given : Given)
    → lasting (onward_of (resumed_call boot tables slot call given)).call ≡ lasting call
kept_resumed boot tables slot call given =
    let r = resumed_call boot tables slot call given in
    kept_onward r r.call.phase ∙ kept_given given (sees call) ∙ kept_seen call

resumed_follows : (boot : Booted) (tables : Tables) (slot : ℕ) (call : PendingCall) (given : Given)
    → Follows call (onward_of (resumed_call boot tables slot call given)).call
resumed_follows boot tables slot call given = record {
  same = kept_resumed boot tables slot call given;
  brings = λ b. resumed_brings b boot tables slot call given;
}

-- what a grant of steps makes of it
kept_granted : (tables : Tables) (call : PendingCall) (granted : ℕ) (grant : Grant) → lasting (after_grant tables call granted grant).call ≡ lasting call
kept_granted tables call granted (Left job) = refl
kept_granted tables call granted (Stopped used (steps.Ends end)) = refl
kept_granted tables call granted (Stopped used (steps.Panics code)) = refl
kept_granted tables call granted (Stopped used (steps.Asks wanted payload job)) = refl

pub same_progress : (one other : Progress) → Some one ≡ Some other → one ≡ other
same_progress one other e = cc

kept_in : (tables : Tables) (call : PendingCall) (granted : ℕ) (phase : CallPhase) (progress : Progress)
    → progress_in tables call granted phase ≡ Some progress → lasting progress.call ≡ lasting call
kept_in tables call granted (Runs job) progress e =
    let came = option_map_some (after_grant tables call granted) (grant_of granted job) progress e in
    ap (λ (p : Progress). lasting p.call) (sym came.2) ∙ kept_granted tables call granted came.0
kept_in tables call granted (Asks job wanted payload) progress e = ap (λ (p : Progress). lasting p.call) (sym (same_progress _ progress e))
kept_in tables call granted (Waits params) progress e = ap (λ (p : Progress). lasting p.call) (sym (same_progress _ progress e))
kept_in tables call granted (Ends result params true wakes) progress e = ap (λ (p : Progress). lasting p.call) (sym (same_progress _ progress e))
kept_in tables call granted (Ends result params false wakes) progress e = ap (λ (p : Progress). lasting p.call) (sym (same_progress _ progress e))

-- and an exit
pub exit_follows : (tables : Tables) (call : PendingCall) (granted : ℕ) (progress : Progress) → progress_of tables call granted ≡ Some progress
    → Follows call progress.call
exit_follows tables call granted progress e = record {
  same = kept_in tables call granted call.phase progress e;
  brings = λ b. exit_brings b tables call granted call.phase progress e refl;
}

-- ---- a resume

-- whatever it is given
resumes_on : (lane : List ℕ) (Q : Decision → Type 0) (slot : ℕ) (onward : Given → Progress) (reader : Reader Given)
    → ((given : Given) → Q (Takes slot (works_on (onward given))))
    → OnLane lane Q ((reader >>= (λ given. done (onward given))) >>= (λ progress. done (Takes slot (works_on progress))))
resumes_on lane Q slot onward (done given) all = all given
resumes_on lane Q slot onward (want_bytes addr len next) all = resumes_on lane Q slot onward (next (bytes_at lane addr len)) all
resumes_on lane Q slot onward (want_words addr most test next) all = λ got. resumes_on lane Q slot onward (next got) all

-- the call that is suspended in slot 0 for client 0 is resumed there
pub resumes_call : (boot : Booted) (kernel : Kernel) (lane : List ℕ) (rpc_kind : RpcKind) (call : PendingCall) (others : List ThreadSlot)
    → kernel.slots ≡ Suspended 0 call ∷ others
    → OnLane lane (TakesSlot 0 (λ taken. Follows call taken.call))
    (decision_of boot kernel (return_of rpc_kind 0).a (call_of (reg (return_of rpc_kind 0).a 0)))
resumes_call boot kernel lane rpc_kind call others held = by_kind rpc_kind
  where
    -- with these registers
    resumed : (regs : List ℕ) → thread_in regs ≡ 0 → call_resumed_by kernel.slots regs ≡ Some call
        → OnLane lane (TakesSlot 0 (λ taken. Follows call taken.call)) (resume boot kernel regs)
    resumed regs thread found =
        subst (λ (o : Option PendingCall). OnLane lane (TakesSlot 0 (λ taken. Follows call taken.call))
        (option_map_or (takes_call boot kernel.tables regs) o (done (Answers eresume)))) (sym found)
        (resumes_on lane (TakesSlot 0 (λ taken. Follows call taken.call)) (thread_in regs)
        (λ given. onward_of (resumed_call boot kernel.tables (thread_in regs) call given)) (given_to regs (thread_in regs) call)
        (λ given. (thread, resumed_follows boot kernel.tables (thread_in regs) call given)))

    by_kind : (k : RpcKind) → OnLane lane (TakesSlot 0 (λ taken. Follows call taken.call))
        (decision_of boot kernel (return_of k 0).a (call_of (reg (return_of k 0).a 0)))
    by_kind rpc.Alloc = resumed (return_of rpc.Alloc 0).a refl (ap (λ (slots : List ThreadSlot). call_resumed_by slots (return_of rpc.Alloc 0).a) held)
    by_kind rpc.Free = resumed (return_of rpc.Free 0).a refl (ap (λ (slots : List ThreadSlot). call_resumed_by slots (return_of rpc.Free 0).a) held)
    by_kind rpc.Interrupt = resumed (return_of rpc.Interrupt 0).a refl (ap (λ (slots : List ThreadSlot). call_resumed_by slots (return_of rpc.Interrupt 0).a) held)
    by_kind (rpc.Cmd cookie) = resumed (return_of (rpc.Cmd cookie) 0).a refl (ap (λ (slots : List ThreadSlot). call_resumed_by slots (return_of (rpc.Cmd cookie) 0).a) held)

-- ---- an entry

-- what comes of what is decided
entry_on : (lane : List ℕ) (kernel : Kernel) (visit : Visit) (Q : Decision → Type 0) (reader : Reader Decision) → OnLane lane Q reader
    → OnLane lane (λ next. (decision : Decision) × Q decision × (after_decision kernel visit decision ≡ next))
    (reader >>= (λ decision. done (after_decision kernel visit decision)))
entry_on lane kernel visit Q (done decision) all = (decision, all, refl)
entry_on lane kernel visit Q (want_bytes addr len next) all = entry_on lane kernel visit Q (next (bytes_at lane addr len)) all
entry_on lane kernel visit Q (want_words addr most test next) all = λ got. entry_on lane kernel visit Q (next got) (all got)

same_kernel : (one other : Kernel) → Some one ≡ Some other → one ≡ other
same_kernel one other e = cc

-- an entry that came with these reads to this kernel: its event, and RAM as before
pub record CameWith (boot : Booted) (standing : Standing) (regs : Regs) (between : Play) (reads : List Read) (next : Kernel) : Type 0
  where
    pub kernel : next ≡ between.kernel
    pub lanes : between.lanes ≡ standing.ram ∷ []
    pub history : between.history ≡ standing.history ++ entry_event (visit_with regs) reads ∷ []
    pub event : after_event boot standing.kernel (entry_event (visit_with regs) reads) ≡ Some between.kernel

module _ (boot : Booted) (standing : Standing) (regs : Regs) (Q : Decision → Type 0) (between : Play)
    (going : between.refused ≡ None) where
  abbrev play : Play
  play = play_of standing

  abbrev visit : Visit
  visit = visit_with regs

  abbrev reader : Reader Kernel
  reader = entry boot standing.kernel visit

  by_room : (next : Kernel) (reads : List Read) → reading reader reads ≡ Some next → (full : Bool)
      → (if full then Some (record play { refused = Some (total_bytes reads) }) else with_event boot (entry_event visit reads) play) ≡ Some between
      → CameWith boot standing regs between reads next
  by_room next reads is_read true e =
      let same = some_is _ between e in
      let no : Some (total_bytes reads) ≡ None = ap (λ (p : Play). p.refused) same ∙ going in absurd cc
  by_room next reads is_read false e =
      let came = option_map_some
      (λ (k : Kernel). record play { kernel = k; history = standing.history ++ entry_event visit reads ∷ [] })
      (after_event boot standing.kernel (entry_event visit reads)) between e in
      let entered = fixed.entered boot standing.kernel came.0 0 steps_granted regs reads came.1 in
      let kernel = ap (λ (p : Play). p.kernel) came.2 in
      record {
        kernel = same_kernel next came.0 (sym is_read ∙ entered) ∙ kernel;
        lanes = ap (λ (p : Play). p.lanes) (sym came.2);
        history = ap (λ (p : Play). p.history) (sym came.2);
        event = came.1 ∙ ap (λ (k : Kernel). Some k) kernel;
      }

  -- the kernel behind an entry that came
  pub entry_decides : OnLane standing.ram Q (decision_of boot standing.kernel regs.a (call_of (reg regs.a 0)))
      → enters boot play visit ≡ Some between
      → (decision : Decision) × Q decision × (reads : List Read)
      × CameWith boot standing regs between reads (after_decision standing.kernel visit decision)
  entry_decides all e =
      option_and_then_some (enters_with boot play visit) (reads_of boot play visit) between e
      (λ (reads : List Read) there onward.
      let over = option_map_some (λ (end : Kernel × List Read). end.1) (over_lane reader standing.ram []) reads there in
      let decided = made_on standing.ram
      (λ (next : Kernel). (decision : Decision) × Q decision × (after_decision standing.kernel visit decision ≡ next)) reader [] over.0
      (entry_on standing.ram standing.kernel visit Q (decision_of boot standing.kernel regs.a (call_of (reg regs.a 0))) all) over.1 in
      let is_read : reading reader reads ≡ Some over.0.0 =
      subst (λ (rs : List Read). reading reader rs ≡ Some over.0.0) over.2
      ((over_lane-reading reader standing.ram over.0.1 over.0.0).0 over.1).0 in
      let same = by_room over.0.0 reads is_read (nat_lt (2 ^ 28) (copied_bytes standing.history + total_bytes reads)) onward in
      let came : CameWith boot standing regs between reads (after_decision standing.kernel visit decided.0) =
      record { kernel = decided.2 ∙ same.kernel; lanes = same.lanes; history = same.history; event = same.event } in
      (decided.0, decided.1, reads, came))

-- ---- an exit

-- what a processor goes out with from the call of a slot
pub record GoesOut (boot : Booted) (between after : Play) (slot : ℕ) (call : PendingCall) (regs : Regs) : Type 0 where
  pub progress : Progress
  pub comes : progress_of between.kernel.tables call steps_granted ≡ Some progress
  pub kernel : after.kernel ≡ (goes_out_from between.kernel (visit_with regs) slot progress).kernel
  pub history : after.history ≡ between.history
      ++ Exit 0 (record { a = registers_of (answer_of slot (leaving_of slot progress.call)) regs.a }) ∷ []
  pub going : after.refused ≡ between.refused
  -- it is a legal event
  pub event : after_event boot between.kernel (Exit 0 (record { a = registers_of (answer_of slot (leaving_of slot progress.call)) regs.a }))
      ≡ Some after.kernel
  -- and writes to RAM
  pub lanes : after.lanes ≡ slice_set between.lanes 0 (lane_after (lane_of between 0) (writes_of progress.call (leaving_of slot progress.call)))

pub goes_out_of : (boot : Booted) (between after : Play) (slot : ℕ) (call : PendingCall) (regs : Regs)
    → slice_get between.kernel.processors 0 ≡ Some (Inside regs.a steps_granted (InSlot slot))
    → slice_get between.kernel.slots slot ≡ Some (Active 0 call)
    → leaves boot 0 between ≡ Some after → GoesOut boot between after slot call regs
goes_out_of boot between after slot call regs inside there e =
    let out = left boot 0 between after e in
    let progress_is : progress_in_slot between.kernel steps_granted slot ≡ progress_of between.kernel.tables call steps_granted =
    ap (λ (o : Option ThreadSlot). option_and_then (progress_held between.kernel.tables steps_granted) o) there in
    let out_is : option_map (goes_out_from between.kernel (visit_with regs) slot) (progress_of between.kernel.tables call steps_granted)
    ≡ Some out.exited =
    ap (λ (o : Option Progress). option_map (goes_out_from between.kernel (visit_with regs) slot) o) (sym progress_is)
    ∙ ap (λ (o : Option Processor). option_and_then (exit_of between.kernel 0) o) (sym inside) ∙ out.there in
    let found = option_map_some (goes_out_from between.kernel (visit_with regs) slot)
    (progress_of between.kernel.tables call steps_granted) out.exited out_is in
    let event = option_map_some (λ (k : Kernel). record between
    { kernel = k; history = between.history ++ Exit 0 (record { a = out.exited.regs }) ∷ [] })
    (after_event boot between.kernel (Exit 0 (record { a = out.exited.regs }))) out.gone out.came in
    let same = some_is _ after (sym (exits_come boot between 0 out.exited out.there) ∙ e) in
    record {
      progress = found.0;
      comes = found.1;
      kernel = ap (λ (p : Play). p.kernel) (sym same) ∙ ap (λ (x : Exited). x.kernel) (sym found.2);
      history = ap (λ (p : Play). p.history) (sym same)
          ∙ ap (λ (x : Exited). between.history ++ Exit 0 (record { a = x.regs }) ∷ []) (sym found.2);
      going = ap (λ (p : Play). p.refused) (sym same);
      event = ap (λ (x : Exited). after_event boot between.kernel (Exit 0 (record { a = x.regs }))) found.2
          ∙ event.1 ∙ ap Some (ap (λ (p : Play). p.kernel) event.2 ∙ ap (λ (p : Play). p.kernel) out.is);
      lanes = ap (λ (p : Play). p.lanes) (sym same)
          ∙ ap (λ (x : Exited). slice_set between.lanes 0 (lane_after (lane_of between 0) x.writes)) (sym found.2);
    }

-- ---- what it leaves, and what it answers

-- the call has finished: slot 0 is free, and OK was answered; or it is suspended there for client 0, and an RPC return from there
-- was answered
pub data Turned (was : PendingCall) (leaving : Leaving) (held : ThreadSlot) (answer : Regs) : Type 0 where
  Over : (result : CallResult) (params : CopiedParams) → leaving ≡ Finishes result params → held ≡ Free → said answer ≡ Finished
      → Turned was leaving held answer
  Asked : (call : PendingCall) → held ≡ Suspended 0 call → Follows was call → (k : RpcKind)
      → said answer ≡ Returned (record { kind = k; thread = 0 }) → Turned was leaving held answer

for_client : (call : PendingCall) → call.client ≡ 0 → Suspended call.client call ≡ Suspended 0 call
for_client call client = ap (λ (n : ℕ). Suspended n call) client

pub turns : (was call : PendingCall) (caller : List ℕ) (leaving : Leaving) → Follows was call → call.client ≡ 0
    → Turned was leaving (slot_left call leaving) (record { a = registers_of (answer_of 0 leaving) caller })
turns was call caller Interrupted same client = Asked call (for_client call client) same rpc.Interrupt refl
turns was call caller WantsBuffer same client = Asked call (for_client call client) same rpc.Alloc refl
turns was call caller (Requests place request) same client = Asked call (for_client call client) same (rpc.Cmd _) refl
turns was call caller (FreesBuffer buffer) same client =
    Asked (record call { buffer = None }) (for_client (record call { buffer = None }) client)
    (record { same = same.same; brings = same.brings }) rpc.Free refl
turns was call caller (Finishes result params) same client = Over result params refl refl refl

-- ---- slots

-- this in the first, and all others free, one at least
abbrev pub slots_with : ThreadSlot → ℕ → List ThreadSlot
slots_with held n = held ∷ Free ∷ replicate n Free

pub first_lowest : (n : ℕ) → lowest_free (slots_with Free n) ≡ Some 0
first_lowest n = ap (λ (b : Bool). cond b (Some 0) None) ((Decides-ltb 0 (length (slots_with Free n))).1 (omega arith))

pub second_lowest : (client n : ℕ) (call : PendingCall) → lowest_free (slots_with (Suspended client call) n) ≡ Some 1
second_lowest client n call =
    ap (λ (b : Bool). cond b (Some 1) None) ((Decides-ltb 1 (length (slots_with (Suspended client call) n))).1 (omega arith))

all_free : (n : ℕ) (cancel : Cancel) → map (cancelled_slot cancel) (replicate n Free) ≡ replicate n Free
all_free zero cancel = refl
all_free (suc n) cancel = ap (λ (slots : List ThreadSlot). Free ∷ slots) (all_free n cancel)

-- where the first is taken, for whatever was there
pub first_taken : (n : ℕ) (held : ThreadSlot) (cancels : Option Cancel) (call : PendingCall)
    → slice_set (cancelled_slots (slots_with held n) cancels) 0 (Active 0 call) ≡ slots_with (Active 0 call) n
first_taken n held None call = refl
first_taken n held (Some cancel) call = ap (λ (slots : List ThreadSlot). Active 0 call ∷ Free ∷ slots) (all_free n cancel)

-- where the second is taken, the call in the first may be cancelled
pub second_taken : (n : ℕ) (cancels : Option Cancel) (call other : PendingCall)
    → (now : PendingCall) × Follows other now
    × (slice_set (cancelled_slots (slots_with (Suspended 0 other) n) cancels) 1 (Active 0 call)
    ≡ Suspended 0 now ∷ Active 0 call ∷ replicate n Free)
second_taken n None call other = (other, followed_by_itself other, refl)
second_taken n (Some cancel) call other = (
  cancelled_call cancel other,
  cancelled_follows cancel other,
  ap (λ (slots : List ThreadSlot). Suspended 0 (cancelled_call cancel other) ∷ Active 0 call ∷ slots) (all_free n cancel),
)
