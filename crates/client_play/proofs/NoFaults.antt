-- No call of a client fails on a core: each of its SMCs comes, and is answered OK or an RPC return from the call's slot. Between
-- two calls all slots are free; in a call the first slot holds it, suspended for client 0, and all others are free.
use Rattle.std.proofs.Common.{◌≡◌, ℕ, ◌≤◌, true, List, [], ◌∷◌, ◌++◌, length, replicate, Option, Some, None, refl, ap, subst, sym, ◌∙◌, arith}
use Rattle.std.specs.Prelude.{slice_get, slice_index_or, slice_set}
use Rattle.std.specs.Option.{option_and_then, option_map_or}
use Rattle.std.proofs.lemmas.List.Elements.{All-cons, All-head, All-nil}
use Rattle.event_journal.specs.declared.event.Event.{Event}
use Rattle.job_model.specs.Job.{of_tee}
use Rattle.job_model.specs.Point.{no_params}
use Rattle.job_model.specs.declared.call_kind.CallKind.{CallKind}
use Rattle.kernel_model.specs.Application.{Booted, IsBooted}
use Rattle.kernel_model.specs.Argument.{reg}
use Rattle.kernel_model.specs.Decision.{Answers, Decision, Taken, Takes}
use Rattle.kernel_model.specs.Entry.{after_decision, decision_of}
use Rattle.kernel_model.specs.Exit.{progress_in, progress_of, shows_result, slot_left, tables_unrun, woken_by, writes_of}
use Rattle.kernel_model.specs.Exit as exit
use Rattle.kernel_model.specs.History.{after_event, kernel_after}
use Rattle.kernel_model.specs.Kernel.{Active, CallPhase, Ends, Free, InSlot, Inside, Kernel, Outside, PendingCall, Progress, Suspended}
use Rattle.kernel_model.specs.Kernel.{Tables, ThreadSlot, cancelled_slots}
use Rattle.kernel_model.specs.Leaving.{Finishes, FreesBuffer, Leaving, leaving_in, leaving_of}
use Rattle.kernel_model.proofs.Parts.{set_found, some_of}
use Rattle.ns_ram.specs.Writes.{Write, lane_after}
use Rattle.ns_ram.specs.declared.read.Read.{Read}
use Rattle.play_model.specs.Coming.{AreLanes, IsWhole}
use Rattle.play_model.specs.Play.{Play, enters, entry_event, last_answer, leaves, unless_refused}
use Rattle.play_model.proofs.Coming.{comes_more, lanes_written}
use Rattle.play_model.proofs.Entries.{entered, left, left_going}
use Rattle.play_model.proofs.PlaysThere.{came_inside, entry_comes, exit_comes}
use Rattle.rpc_msgs.specs.declared.rpc_buffer.RpcBuffer.{RpcBuffer}
use Rattle.smc_abi.specs.Answer.{registers_of}
use Rattle.smc_abi.specs.Call.{call_of}
use Rattle.smc_abi.specs.declared.regs.Regs.{Regs}
use Rattle.supplicant.specs.Supplicant.{Storage}
use Rattle.teec.specs.Answers.{said}
use Rattle.teec.specs.declared.answer.Said.TheVariants.{Finished}
use Rattle.client_play.specs.Standing.{Standing, after_smc, answer_of, play_of, standing_after, steps_granted, visit_with}
use Rattle.client_play.proofs.Bringing.{Follows}
use Rattle.client_play.proofs.NewCalls.{IsSettled, Lasting, OnLane, TakesSlot}
use Rattle.client_play.proofs.Smcs.{told_exit}
use Rattle.client_play.proofs.Turns.{CameWith, GoesOut, Turned, entry_decides, exit_follows, first_taken, goes_out_of, same_progress, second_taken, slots_with, turns}

-- ---- what stands between two SMCs

-- processor 0 is outside, RAM is whole, this is in the first slot, and all others are free
pub record Stands (boot : Booted) (held : ThreadSlot) (n : ℕ) (standing : Standing) : Type 0 where
  pub comes : kernel_after boot standing.history ≡ Some standing.kernel
  pub outside : slice_get standing.kernel.processors 0 ≡ Some Outside
  pub whole : 0x400000 ≤ length standing.ram
  pub slots : standing.kernel.slots ≡ slots_with held n

-- ---- an SMC

-- one whose entry takes this slot for something of which this holds, and what its exit leaves
pub record Made (boot : Booted) (asked : Standing) (regs : Regs) (slot : ℕ) (P : Taken → Type 0) (after : Play) : Type 0 where
  pub taken : Taken
  pub holds : P taken
  pub between : Play
  pub decided : after_decision asked.kernel (visit_with regs) (Takes slot taken) ≡ between.kernel
  pub lanes : between.lanes ≡ asked.ram ∷ []
  pub reads : List Read
  pub history : between.history ≡ asked.history ++ entry_event (visit_with regs) reads ∷ []
  pub entered : after_event boot asked.kernel (entry_event (visit_with regs) reads) ≡ Some between.kernel
  pub comes : kernel_after boot between.history ≡ Some between.kernel
  pub went : leaves boot 0 between ≡ Some after

-- it comes, and its entry is refused or takes the slot
pub data Comes (boot : Booted) (asked : Standing) (regs : Regs) (slot : ℕ) (P : Taken → Type 0) (after : Play) : Type 0 where
  Full : (more : ℕ) → after.refused ≡ Some more → Comes boot asked regs slot P after
  Took : after.refused ≡ None → Made boot asked regs slot P after → Comes boot asked regs slot P after

pub smc_comes : (boot : Booted) (asked : Standing) (regs : Regs) (slot : ℕ) (P : Taken → Type 0) → IsBooted boot
    → kernel_after boot asked.history ≡ Some asked.kernel → slice_get asked.kernel.processors 0 ≡ Some Outside
    → 0x400000 ≤ length asked.ram
    → OnLane asked.ram (TakesSlot slot P) (decision_of boot asked.kernel regs.a (call_of (reg regs.a 0)))
    → (after : Play) × (after_smc boot regs asked ≡ Some after) × Comes boot asked regs slot P after
smc_comes boot asked regs slot P boots comes outside whole all =
    let first = some_of (enters boot (play_of asked) (visit_with regs))
    (entry_comes boot (play_of asked) (visit_with regs) boots comes outside refl whole) in
    by_refusal first.0 first.1 first.0.refused refl
  where
    taken_so : (between after : Play) → between.refused ≡ None → leaves boot 0 between ≡ Some after
        → (decision : Decision) → TakesSlot slot P decision → (reads : List Read)
        → CameWith boot asked regs between reads (after_decision asked.kernel (visit_with regs) decision)
        → kernel_after boot between.history ≡ Some between.kernel
        → Comes boot asked regs slot P after
    taken_so between after going went (Answers answer) holds reads came here = absurd holds
    taken_so between after going went (Takes at taken) holds reads came here =
        Took (left_going boot 0 between after (left boot 0 between after went) going) (record {
          taken = taken;
          holds = holds.1;
          between = between;
          decided = ap (λ (number : ℕ). after_decision asked.kernel (visit_with regs) (Takes number taken)) (sym holds.0) ∙ came.kernel;
          lanes = came.lanes;
          reads = reads;
          history = came.history;
          entered = came.event;
          comes = here;
          went = went;
        })

    by_refusal : (between : Play) → enters boot (play_of asked) (visit_with regs) ≡ Some between → (refused : Option ℕ)
        → between.refused ≡ refused
        → (after : Play) × (after_smc boot regs asked ≡ Some after) × Comes boot asked regs slot P after
    by_refusal between e (Some more) is = (
      between,
      ap (λ (o : Option Play). option_and_then (unless_refused (leaves boot 0)) o) e
          ∙ ap (λ (o : Option ℕ). option_map_or (λ bytes. Some between) o (leaves boot 0 between)) is,
      Full more is,
    )
    by_refusal between e None is =
        let inside = came_inside boot (visit_with regs) (play_of asked) between comes is
        (entered boot (visit_with regs) (play_of asked) between e) in
        let out = some_of (leaves boot 0 between) (exit_comes boot between 0 boots inside.comes inside.inside) in
        let decided = entry_decides boot asked regs (TakesSlot slot P) between is all e in (
          out.0,
          ap (λ (o : Option Play). option_and_then (unless_refused (leaves boot 0)) o) e
              ∙ ap (λ (o : Option ℕ). option_map_or (λ bytes. Some between) o (leaves boot 0 between)) is ∙ out.1,
          taken_so between out.0 is out.1 decided.0 decided.1 decided.2 decided.3 inside.comes,
        )

-- ---- what is left behind it

-- no write makes RAM shorter
pub whole_after : (ram : List ℕ) (writes : List Write) → 0x400000 ≤ length ram → 0x400000 ≤ length (lane_after ram writes)
whole_after ram writes whole =
    let are : AreLanes 1 (ram ∷ []) = record { count = refl; whole = All-cons IsWhole ram [] whole (All-nil IsWhole) } in
    All-head IsWhole (lane_after ram writes) [] (lanes_written 1 0 (ram ∷ []) writes (omega arith) are).whole

module _ (boot : Booted) (asked : Standing) (regs : Regs) (slot : ℕ) (P : Taken → Type 0) (after : Play)
    (outside : slice_get asked.kernel.processors 0 ≡ Some Outside) (whole : 0x400000 ≤ length asked.ram)
    (made : Made boot asked regs slot P after)
    (there : slice_get made.between.kernel.slots slot ≡ Some (Active 0 made.taken.call)) where
  pub inside : slice_get made.between.kernel.processors 0 ≡ Some (Inside regs.a steps_granted (InSlot slot))
  inside =
      ap (λ (k : Kernel). slice_get k.processors 0) (sym made.decided)
      ∙ set_found asked.kernel.processors 0 (Inside regs.a steps_granted (InSlot slot)) Outside outside

  pub out : GoesOut boot made.between after slot made.taken.call regs
  out = goes_out_of boot made.between after slot made.taken.call regs inside there made.went

  -- processor 0 is outside again, and RAM is whole, where the slots are these
  pub stands_again : (held : ThreadSlot) (n : ℕ) (storage : Storage) → after.kernel.slots ≡ slots_with held n
      → Stands boot held n (standing_after after storage)
  stands_again held n storage slots =
      let o = out in
      let writes = writes_of o.progress.call (leaving_of slot o.progress.call) in
      record {
        comes = ap (kernel_after boot) o.history
            ∙ comes_more boot made.between.history _ made.between.kernel after.kernel made.comes o.event;
        outside = ap (λ (k : Kernel). slice_get k.processors 0) o.kernel
            ∙ set_found made.between.kernel.processors 0 Outside (Inside regs.a steps_granted (InSlot slot)) inside;
        whole = subst (λ (lanes : List (List ℕ)). 0x400000 ≤ length (slice_index_or lanes 0 [])) (sym (o.lanes
            ∙ ap (λ (lanes : List (List ℕ)). slice_set lanes 0 (lane_after (slice_index_or lanes 0 []) writes)) made.lanes))
            (whole_after asked.ram writes whole);
        slots = slots;
      }

  -- it was answered so
  pub answer_is : answer_of after ≡ record { a = registers_of (exit.answer_of slot (leaving_of slot out.progress.call)) regs.a }
  answer_is =
      ap (λ (history : List Event). record { a = last_answer history 0 }) out.history
      ∙ ap (λ (a : List ℕ). record { a = a }) (told_exit made.between.history _)

-- the call of the first slot
module _ (boot : Booted) (asked : Standing) (regs : Regs) (was : ThreadSlot) (n : ℕ) (P : Taken → Type 0) (after : Play)
    (storage : Storage) (stands : Stands boot was n asked) (made : Made boot asked regs 0 P after) where
  slots_then : made.between.kernel.slots ≡ slots_with (Active 0 made.taken.call) n
  slots_then =
      ap (λ (k : Kernel). k.slots) (sym made.decided)
      ∙ ap (λ (all : List ThreadSlot). slice_set (cancelled_slots all made.taken.cancels) 0 (Active 0 made.taken.call)) stands.slots
      ∙ first_taken n was made.taken.cancels made.taken.call

  pub in_first : slice_get made.between.kernel.slots 0 ≡ Some (Active 0 made.taken.call)
  in_first = ap (λ (all : List ThreadSlot). slice_get all 0) slots_then

  abbrev pub first_out : GoesOut boot made.between after 0 made.taken.call regs
  first_out = out boot asked regs 0 P after stands.outside stands.whole made in_first

  pub call_turns : made.taken.call.client ≡ 0
      → (held : ThreadSlot) × Turned made.taken.call (leaving_of 0 first_out.progress.call) held (answer_of after)
      × Stands boot held n (standing_after after storage)
  call_turns client =
      let o = first_out in
      let follows = exit_follows made.between.kernel.tables made.taken.call steps_granted o.progress o.comes in
      let held = slot_left o.progress.call (leaving_of 0 o.progress.call) in
      let left_slots : after.kernel.slots ≡ slots_with held n =
      ap (λ (k : Kernel). k.slots) o.kernel ∙ ap (λ (all : List ThreadSlot). slice_set all 0 held) slots_then in (
        held,
        subst (Turned made.taken.call (leaving_of 0 o.progress.call) held)
            (sym (answer_is boot asked regs 0 P after stands.outside stands.whole made in_first))
            (turns made.taken.call o.progress.call regs.a (leaving_of 0 o.progress.call) follows
            (ap (λ (l : Lasting). l.client) follows.same ∙ client)),
        stands_again boot asked regs 0 P after stands.outside stands.whole made in_first held n storage left_slots,
      )

-- ---- a cancellation

-- a settled call goes out with OK
settled_leaves : (tables : Tables) (call : PendingCall) (progress : Progress) (settled : IsSettled call)
    → progress_of tables call steps_granted ≡ Some progress
    → leaving_of 1 progress.call ≡ Finishes (of_tee settled.code) no_params
settled_leaves tables call progress settled e =
    let result = of_tee settled.code in
    let shown = shows_result (tables_unrun tables call) call result no_params in
    let same : shown ≡ progress = same_progress shown progress
    (ap (λ (p : CallPhase). progress_in tables call steps_granted p) (sym settled.ends) ∙ e) in
    ap (λ (p : Progress). leaving_of 1 p.call) (sym same)
    ∙ ap (λ (k : CallKind). leaving_in 1 shown.call (Ends result no_params true (woken_by (tables_unrun tables call) call k))) settled.settled
    ∙ ap (λ (b : Option RpcBuffer). option_map_or FreesBuffer b (Finishes result no_params)) settled.no_buffer

-- the call in the first slot may be cancelled, and is there as before
pub cancel_turns : (boot : Booted) (asked : Standing) (regs : Regs) (call : PendingCall) (n : ℕ) (after : Play) (storage : Storage)
    → Stands boot (Suspended 0 call) n asked
    → Made boot asked regs 1 (λ taken. IsSettled taken.call) after
    → (now : PendingCall) × Follows call now × (said (answer_of after) ≡ Finished)
    × Stands boot (Suspended 0 now) n (standing_after after storage)
cancel_turns boot asked regs call n after storage stands made =
    let P = λ (taken : Taken). IsSettled taken.call in
    let second = second_taken n made.taken.cancels made.taken.call call in
    let slots : made.between.kernel.slots ≡ Suspended 0 second.0 ∷ Active 0 made.taken.call ∷ replicate n Free =
    ap (λ (k : Kernel). k.slots) (sym made.decided)
    ∙ ap (λ (all : List ThreadSlot). slice_set (cancelled_slots all made.taken.cancels) 1 (Active 0 made.taken.call)) stands.slots
    ∙ second.2 in
    let there = ap (λ (all : List ThreadSlot). slice_get all 1) slots in
    let o = out boot asked regs 1 P after stands.outside stands.whole made there in
    let leaves = settled_leaves made.between.kernel.tables made.taken.call o.progress made.holds o.comes in
    let left_slots : after.kernel.slots ≡ slots_with (Suspended 0 second.0) n =
    ap (λ (k : Kernel). k.slots) o.kernel
    ∙ ap (λ (all : List ThreadSlot). slice_set all 1 (slot_left o.progress.call (leaving_of 1 o.progress.call))) slots
    ∙ ap (λ (leaving : Leaving). Suspended 0 second.0 ∷ slot_left o.progress.call leaving ∷ replicate n Free) leaves in (
      second.0,
      second.1,
      ap said (answer_is boot asked regs 1 P after stands.outside stands.whole made there)
          ∙ ap (λ (leaving : Leaving). said (record { a = registers_of (exit.answer_of 1 leaving) regs.a })) leaves,
      stands_again boot asked regs 1 P after stands.outside stands.whole made there (Suspended 0 second.0) n storage left_slots,
    )
