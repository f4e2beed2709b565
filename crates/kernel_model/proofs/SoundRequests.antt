-- What calls ask for fits a message, after each event of a legal history.
use Rattle.std.proofs.Common.{◌≡◌, ℕ, true, List, Option, Some, None, ap, subst, sym, ◌∙◌}
use Rattle.std.specs.Prelude.{slice_set}
use Rattle.std.specs.Option.{option_and_then}
use Rattle.event_journal.specs.declared.event.Event.{Event}
use Rattle.job_model.specs.Fitting.{AsksFittingly}
use Rattle.job_model.specs.Job.{Job}
use Rattle.job_model.specs.Steps.{Advance, Goes, Stopped, Stops, advance_on_answer}
use Rattle.job_model.specs.Steps as steps
use Rattle.job_model.proofs.FittingRequests.{requests_fit}
use Rattle.job_model.proofs.JobSteps.{granted-IsGrant}
use Rattle.rpc_msgs.specs.Answer.{RpcAnswer}
use Rattle.rpc_msgs.specs.declared.rpc.Rpc.{Rpc}
use Rattle.kernel_model.specs.Application.{Booted}
use Rattle.kernel_model.specs.Argument.{client_in, thread_in}
use Rattle.kernel_model.specs.Decision.{Takes}
use Rattle.kernel_model.specs.Entry.{after_decision}
use Rattle.kernel_model.specs.Exit.{progress_of}
use Rattle.kernel_model.specs.Given.{Buffer, Given, NoBuffer, Nothing, Reply, call_given}
use Rattle.kernel_model.specs.History.{kernel_after}
use Rattle.kernel_model.specs.Kernel.{Active, Asks, CallPhase, Ends, Free, Kernel, PendingCall, Progress, Runs, Suspended, Tables, ThreadSlot, Waits}
use Rattle.kernel_model.specs.NewCall.{NewCall, new_call_of}
use Rattle.kernel_model.specs.Resume.{Resumed, onward_of, phase_after, phase_seen, resumed_call, sees}
use Rattle.kernel_model.specs.Sound.{Always, Calls, unmarked_at, unmarked_in, unmarked}
use Rattle.kernel_model.specs.SoundRequests.{HaveFittingRequests}
use Rattle.kernel_model.proofs.Parts.{if-both}
use Rattle.kernel_model.proofs.SoundEvents.{EventCases, holds_after, resumed_taken}
use Rattle.kernel_model.proofs.SoundExits.{exits_all, left_all, unbuffered}
use Rattle.kernel_model.proofs.SoundNewCalls.{NewCases, cases_onward}
use Rattle.kernel_model.proofs.SoundResumes.{resumes_all}
use Rattle.kernel_model.proofs.SoundSlots.{Changes, by_number, free_there, leaves_slot, none_at_first, takes_slot}

-- what a call in this phase asks for, if it does, fits
abbrev FitsIn : CallPhase → Type 0
FitsIn (Runs job) = Unit {0}
FitsIn (Asks job wanted payload) = AsksFittingly wanted payload job
FitsIn (Waits params) = Unit {0}
FitsIn (Ends result params told wakes) = Unit {0}

abbrev FitsAt : Option PendingCall → Type 0
FitsAt None = Unit {0}
FitsAt (Some call) = FitsIn call.phase

abbrev AllFit : Calls → Type 0
AllFit calls = (slot : ℕ) → FitsAt (calls slot)

fit_change : (before after : Calls) (slot : ℕ) (held : Option PendingCall) → Changes before after slot held → AllFit before → FitsAt held → AllFit after
fit_change before after slot held changes all fits at =
    by_number slot at
    (λ same. subst FitsAt (sym changes.here ∙ ap after same) fits)
    (λ apart. subst FitsAt (sym (changes.others at apart)) (all at))

-- ---- new calls, resumes and exits

new_fit : (c : NewCall) → NewCases c (λ taken. FitsIn taken.call.phase)
new_fit c = record {
  settles = λ code. tt;
  settles_open = λ app login code. tt;
  settles_invoke = λ named code is. tt;
  cancels = λ named is. tt;
  registers = λ param pages new room good. tt;
  unregisters = λ param unpinned. tt;
  opens_kept = λ wanted app copies copied kept shown shared free. tt;
  opens_awaited = λ wanted app copies copied number shown shared awaited. tt;
  opens_next = λ wanted app copies copied shown shared awaited. tt;
  open_waits = λ wanted app copies copied kept shown shared held. tt;
  invokes = λ named copies copied is alive free. tt;
  invoke_waits = λ named copies copied is alive held. tt;
  closes = λ named is free. tt;
  close_waits = λ named is held. tt;
}

answer_fits : (job : Job) (wanted : Rpc) (payload : List ℕ) (answer : RpcAnswer) (advance : Advance) → AsksFittingly wanted payload job
    → advance_on_answer answer job ≡ Some advance → FitsIn (phase_after (Asks job wanted payload) advance)
answer_fits job wanted payload answer (Goes next) fits e = tt
answer_fits job wanted payload answer (Stops (steps.Asks other bytes left)) fits e = requests_fit.answers job left answer other bytes fits.range e
answer_fits job wanted payload answer (Stops (steps.Ends end)) fits e = fits
answer_fits job wanted payload answer (Stops (steps.Panics code)) fits e = fits

resumed_fits : (r : Resumed) → FitsIn r.call.phase → FitsIn (onward_of r).call.phase
resumed_fits r fits = resumes_all r (λ progress. FitsIn progress.call.phase) (record {
  runs = λ job is. tt;
  asks_still = λ job wanted payload is. subst FitsIn is fits;
  answered = λ job wanted payload answer advance is e. answer_fits job wanted payload answer advance (subst FitsIn is fits) e;
  ends = λ result params told wakes left is. tt;
  fails = λ params code is. tt;
  sleeps = λ params is. tt;
  opens = λ params session app instance ready alive opening is. tt;
  opens_new = λ params session app awake none opening is pages. tt;
  invokes = λ params session instance func ready alive is. tt;
  closes = λ params session instance ready is. tt;
})

seen_fits : (phase : CallPhase) → FitsIn phase → FitsIn (phase_seen phase)
seen_fits (Runs job) fits = tt
seen_fits (Asks job wanted payload) fits = record { request = fits.request; with_payload = fits.with_payload; range = fits.range }
seen_fits (Waits params) fits = tt
seen_fits (Ends result params told wakes) fits = tt

sees_fits : (call : PendingCall) → FitsIn call.phase → FitsIn (sees call).phase
sees_fits call fits =
    if-both (λ (c : PendingCall). FitsIn c.phase) call.marked (record call { seen = true; phase = phase_seen call.phase }) call
    (seen_fits call.phase fits) fits

given_fits : (given : Given) (call : PendingCall) → FitsIn call.phase → FitsIn (call_given given call).phase
given_fits Nothing call fits = fits
given_fits (Buffer buffer) call fits = fits
given_fits NoBuffer call fits = fits
given_fits (Reply reply) call fits = fits

exit_fits : (tables : Tables) (call : PendingCall) (granted : ℕ) (progress : Progress) → FitsIn call.phase
    → progress_of tables call granted ≡ Some progress → FitsIn progress.call.phase
exit_fits tables call granted progress fits e = exits_all tables call granted (λ (p : Progress). FitsIn p.call.phase) progress (record {
  left = λ job later is grant. tt;
  ends = λ job used end is grant. tt;
  panics = λ job used code is grant. tt;
  asks = λ job later used wanted payload is grant.
      let stop = (granted-IsGrant job granted (Stopped used (steps.Asks wanted payload later)) grant).1 in
      requests_fit.stops job later used wanted payload stop;
  asked = λ job wanted payload is. fits;
  waits = λ params is. fits;
  told = λ result params wakes is. fits;
  tells = λ result params wakes is. tt;
}) e

-- ---- events

fit_cases : (boot : Booted) (kernel : Kernel) (cpu : ℕ) → AllFit (unmarked_at kernel.slots) → EventCases boot kernel cpu (λ next. AllFit (unmarked_at next.slots))
fit_cases boot kernel cpu all = record {
  answered = λ visit answer inside. all;
  comes = λ visit slot found bytes inside free lies fits.
      let c = new_call_of boot kernel.tables visit.regs slot found bytes in
      cases_onward c (λ taken. FitsIn taken.call.phase) (λ taken. AllFit (unmarked_at (after_decision kernel visit (Takes slot taken)).slots))
      (λ taken new. fit_change (unmarked_at kernel.slots) _ slot (Some (unmarked taken.call))
      (takes_slot kernel.slots taken.cancels slot visit.cpu Free taken.call (free_there kernel.slots slot free)) all new) (new_fit c);
  resumes = λ visit call given inside there offered.
      let slot = thread_in visit.regs in
      let taken = resumed_taken boot kernel visit call given in
      let before : FitsIn call.phase = subst FitsAt (ap (λ (o : Option ThreadSlot). option_and_then unmarked_in o) there) (all slot) in
      fit_change (unmarked_at kernel.slots) _ slot (Some (unmarked taken.call))
      (takes_slot kernel.slots taken.cancels slot visit.cpu (Suspended (client_in visit.regs) call) taken.call there) all
      (resumed_fits (resumed_call boot kernel.tables slot call given) (given_fits given (sees call) (sees_fits call before)));
  told = λ visit answer its fixed. all;
  goes = λ visit slot worker call progress its inside there e.
      let before : FitsIn call.phase = subst FitsAt (ap (λ (o : Option ThreadSlot). option_and_then unmarked_in o) there) (all slot) in
      let after = exit_fits kernel.tables call visit.steps progress before e in
      left_all slot progress.call (λ held. AllFit (unmarked_at (slice_set kernel.slots slot held)))
      (fit_change (unmarked_at kernel.slots) _ slot _
      (leaves_slot kernel.slots slot (Active worker call) (Suspended progress.call.client progress.call) there) all after)
      (fit_change (unmarked_at kernel.slots) _ slot _
      (leaves_slot kernel.slots slot (Active worker call) (Suspended progress.call.client (unbuffered progress.call)) there) all after)
      (λ result params told is. fit_change (unmarked_at kernel.slots) _ slot _ (leaves_slot kernel.slots slot (Active worker call) Free there) all tt);
}

all_fit : (boot : Booted) (history : List Event) (kernel : Kernel) → kernel_after boot history ≡ Some kernel → AllFit (unmarked_at kernel.slots)
all_fit boot history kernel e =
    holds_after boot (λ events k. AllFit (unmarked_at k.slots)) (record {
      first = λ slot. subst FitsAt (sym (none_at_first boot.threads slot)) tt;
      onward = λ events k cpu all. fit_cases boot k cpu all;
    }) history kernel e

pub calls_fit : Always (λ boot kernel. HaveFittingRequests (unmarked_at kernel.slots))
calls_fit boot history kernel booted e slot call is =
    let fits : FitsIn call.phase = subst FitsAt is (all_fit boot history kernel e slot) in
    record {
      request = λ job wanted payload at. (asked job wanted payload at fits).request;
      payload = λ job wanted payload at. (asked job wanted payload at fits).with_payload;
    }
  where
    asked : (job : Job) (wanted : Rpc) (payload : List ℕ) → call.phase ≡ Asks job wanted payload → FitsIn call.phase → AsksFittingly wanted payload job
    asked job wanted payload at fits = subst FitsIn at fits
