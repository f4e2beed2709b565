-- An exit from a call of the realm that is an interrupt leaves kernel and machine tied: its job is further ahead.
use Rattle.std.proofs.Common.{◌≡◌, ℕ, Option, Some, None, refl, ap, subst, sym}
use Rattle.std.proofs.Common.{◌∙◌}
use Rattle.std.specs.Prelude.{slice_get}
use Rattle.std.specs.Option.{option_map, option_map_or, option_and_then}
use Rattle.std.proofs.lemmas.Option.{option_and_then_some}
use Rattle.base.specs.NumberMap.{NumberMap, get}
use Rattle.job_model.specs.Job.{Job}
use Rattle.job_model.specs.Steps.{Left, grant_of}
use Rattle.kernel_model.specs.Exit.{Exited, exit, exit_of, further, goes_out_from}
use Rattle.kernel_model.specs.Exit.{progress_held}
use Rattle.kernel_model.specs.Kernel.{Active, CallPhase, Free, Kernel, PendingCall}
use Rattle.kernel_model.specs.Kernel.{Processor, Progress, Runs, Suspended, ThreadSlot, Visit}
use Rattle.kernel_model.specs.Leaving.{Interrupted, Leaving}
use Rattle.kernel_model.specs.Leaving.{leaving_of}
use Rattle.own_model.proofs.FixedAnswers.{left}
use Rattle.own_model.proofs.OwnInterrupts.{is_left, phases_on}
use Rattle.own_model.specs.Own.{reply_of, slot_kept, wake_kept, wake_of, with_wake}
use Rattle.own_model.specs.Tied.{PhasesAlike, call_in}
use Rattle.group_model.specs.Group.{Group, GroupCall}
use Rattle.realm_model.specs.Reading.{Notes, exit_noted, opened_in, out_noted, with_reply}
use Rattle.realm_model.specs.Laws.{About, AreTied, GoesAlong, InterruptsKeepTied, names_of}
use Rattle.realm_model.specs.Realm.{Realm}
use Rattle.group_model.specs.Tied.{CallsAlike, Names}
use Rattle.realm_model.specs.Tied.{Tied}
use Rattle.group_model.proofs.CallChanges.{calls_stay, others_changed}
use Rattle.realm_model.proofs.OtherExits.{goes_silently}

-- ---- the exit

-- a call that runs on is still the machine's
runs_alike : (sessions instances : NumberMap ℕ) (kept : Option ℕ) (call : PendingCall) (own : GroupCall) (granted : ℕ)
    (job left_job : Job) → call.phase ≡ Runs job → grant_of granted job ≡ Some (Left left_job)
    → CallsAlike sessions instances kept call own
    → CallsAlike sessions instances kept (record (further call granted) { phase = Runs left_job }) own
runs_alike sessions instances kept call own granted job left_job runs grant alike = record {
  homes = alike.homes;
  kinds = alike.kinds;
  seen = alike.seen;
  areas = alike.areas;
  buffers = alike.buffers;
  phases = phases_on kept call.steps own.steps granted job left_job own.phase
      (subst (λ (p : CallPhase). PhasesAlike kept call.steps own.steps p own.phase) runs alike.phases) grant;
  flagged = alike.flagged;
}

same_call : (a b : PendingCall) → Some a ≡ Some b → a ≡ b
same_call a b e = cc

-- what the exit leaves of the call of a slot
record LeavesRunning (about : About) (kernel : Kernel) (visit : Visit) (notes : Notes) (g : Group) (slot : ℕ)
    (progress : Progress) : Type 0 where
  tied : AreTied about (goes_out_from kernel visit slot progress).kernel.slots
      (goes_out_from kernel visit slot progress).kernel.tables notes g
  wakes_none : wake_kept notes.numbering slot (wake_of progress.call.phase) ≡ None

left_running : (about : About) (kernel : Kernel) (visit : Visit) (notes : Notes) (g : Group) (slot number : ℕ)
    (held : ThreadSlot) (progress : Progress)
    → get notes.numbering.in_slots slot ≡ Some number → slice_get kernel.slots slot ≡ Some held
    → progress_held kernel.tables visit.steps held ≡ Some progress → leaving_of slot progress.call ≡ Interrupted
    → AreTied about kernel.slots kernel.tables notes g → LeavesRunning about kernel visit notes g slot progress
left_running about kernel visit notes g slot number Free progress has there e interrupted at = absurd cc
left_running about kernel visit notes g slot number (Suspended client call) progress has there e interrupted at =
    absurd cc
left_running about kernel visit notes g slot number (Active worker call) progress has there e interrupted at =
    let names : Names = names_of about notes at.instances in
    let tied : Tied about.members names kernel.slots kernel.tables g = at.tied in
    let is = is_left slot kernel.tables call visit.steps call.phase progress refl e interrupted in
    let its = tied.calls.own slot number has in
    let is_call : its.call ≡ call =
    same_call its.call call (sym its.in_slot ∙ ap (λ (o : Option ThreadSlot). option_and_then call_in o) there) in
    let now : PendingCall = record (further call visit.steps) { phase = Runs is.left_job } in
    let kept : Option ℕ = get notes.numbering.wakes slot in
    let alike : CallsAlike names.sessions names.instances kept call its.own =
    subst (λ (c : PendingCall). CallsAlike names.sessions names.instances kept c its.own) is_call its.alike in
    let on = runs_alike names.sessions names.instances kept call its.own visit.steps is.job is.left_job is.runs is.grant
    alike in
    let held : ThreadSlot = Suspended now.client now in
    let gone : Progress = record { call = now; tables = kernel.tables } in
    let left_so : LeavesRunning about kernel visit notes g slot gone = record {
      tied = record {
        instances = at.instances;
        tied = record {
          sessions = tied.sessions;
          named = tied.named;
          instances = tied.instances;
          calls = calls_stay GroupCall (CallsAlike names.sessions names.instances) names.numbering kernel.slots g.calls
              slot number held (Active worker call) now has there refl its on tied.calls;
          waiters = tied.waiters;
          kept = tied.kept;
          others = others_changed names.sessions names.instances names.numbering.in_slots kernel.slots slot number held
              has tied.others;
          entered = tied.entered;
          next_session = tied.next_session;
          session_names = tied.session_names;
          instance_names = tied.instance_names;
          key = tied.key;
        };
        as_realm = at.as_realm;
      };
      wakes_none = refl;
    } in
    subst (LeavesRunning about kernel visit notes g slot) (sym is.is) left_so

interrupt_noted : (realm : Realm) (notes : Notes) (slot number : ℕ) (call : PendingCall) → leaving_of slot call ≡ Interrupted
    → wake_kept notes.numbering slot (wake_of call.phase) ≡ None → exit_noted realm notes slot call number ≡ notes
interrupt_noted realm notes slot number call interrupted none =
    ap (λ (leaving : Leaving). told_after leaving (wake_kept notes.numbering slot (wake_of call.phase))) interrupted
    ∙ ap (λ (woken : Option ℕ). told_after Interrupted woken) none
  where
    told_after : Leaving → Option ℕ → Notes
    told_after leaving woken =
        let opened = opened_in realm notes call call.kind leaving in
        let told = option_map_or (with_reply number notes opened) (reply_of woken call.phase leaving) notes in
        record told { numbering = slot_kept (with_wake notes.numbering slot woken) slot leaving }

pub own_interrupt : InterruptsKeepTied
own_interrupt boot about kernel next cpu granted slot number came regs progress notes g inside has comes interrupted e
    tied =
    let visit : Visit = record { cpu = cpu; regs = came; steps = granted } in
    let out = left boot kernel next cpu regs e in
    let goes : exit kernel cpu ≡ Some (goes_out_from kernel visit slot progress) =
    ap (λ (p : Option Processor). option_and_then (exit_of kernel cpu) p) inside
    ∙ ap (λ (p : Option Progress). option_map (goes_out_from kernel visit slot) p) comes in
    let gone : (goes_out_from kernel visit slot progress).kernel ≡ next =
    ap (λ (x : Exited). x.kernel) (same_exit (goes_out_from kernel visit slot progress) out.0 (sym goes ∙ out.1))
    ∙ out.2 in
    let running = option_and_then_some (progress_held kernel.tables granted) (slice_get kernel.slots slot) progress comes
    (λ held there onward. left_running about kernel visit notes g slot number held progress has there onward interrupted
    tied) in
    let still : AreTied about next.slots next.tables notes g =
    subst (λ (k : Kernel). AreTied about k.slots k.tables notes g) gone running.tied in
    let same : out_noted about.members.realm kernel notes cpu (slice_get kernel.processors cpu) ≡ notes =
    ap (λ (p : Option Processor). out_noted about.members.realm kernel notes cpu p) inside
    ∙ ap (λ (p : Option Progress). option_map_or (λ (q : Progress). option_map_or (exit_noted about.members.realm notes slot q.call)
    (get notes.numbering.in_slots slot) notes) p notes) comes
    ∙ ap (λ (o : Option ℕ). option_map_or (exit_noted about.members.realm notes slot progress.call) o notes) has
    ∙ interrupt_noted about.members.realm notes slot number progress.call interrupted running.wakes_none in
    subst (GoesAlong about notes g next) (sym same) (goes_silently about notes g next still)
  where
    same_exit : (a b : Exited) → Some a ≡ Some b → a ≡ b
    same_exit a b is = cc
