-- What holds of the bodies of all jobs, after each event of a legal history: where it holds of those that begin, and stays with an image and its memory.
use Rattle.std.proofs.Common.{◌≡◌, ℕ, ◌+◌, Bool, false, List, [], Option, Some, None, ap, subst, sym, ◌∙◌}
use Rattle.std.specs.Prelude.{if◌then◌else◌, slice_set}
use Rattle.std.specs.Option.{option_and_then, option_map, option_map_or}
use Rattle.base.specs.NumberMap.{get}
use Rattle.event_journal.specs.declared.event.Event.{Event}
use Rattle.job_model.specs.Beginning.{Program}
use Rattle.job_model.specs.Job.{Body, Job}
use Rattle.job_model.specs.Steps.{Advance, Goes, Left, Stopped, Stops}
use Rattle.job_model.specs.Steps as steps
use Rattle.job_model.specs.declared.entry_point.EntryPoint.TheVariants.{Close, Invoke}
use Rattle.rpc_msgs.specs.declared.rpc.Rpc.{Rpc}
use Rattle.kernel_model.specs.Application.{Application, Booted, pages_in, program_of, uuid_of}
use Rattle.kernel_model.specs.Argument.{client_in, thread_in}
use Rattle.kernel_model.specs.Decision.{Takes}
use Rattle.kernel_model.specs.Entry.{after_decision}
use Rattle.kernel_model.specs.Exit.{progress_of}
use Rattle.kernel_model.specs.Given.{Buffer, Given, NoBuffer, Nothing as NothingGiven, Reply, call_given}
use Rattle.kernel_model.specs.History.{kernel_after}
use Rattle.kernel_model.specs.Instances.{app_of, fresh_memory, is_held, program_on}
use Rattle.kernel_model.specs.Kernel.{Active, Asks, CallPhase, Ends, Free, Instance, Kernel, PendingCall, Progress, Runs, Suspended, Tables, ThreadSlot, Waits}
use Rattle.kernel_model.specs.Located.{cookie_of}
use Rattle.kernel_model.specs.NewCall.{NewCall, beginner, new_call_of, no_copies, opener, shared_by, shares_one}
use Rattle.kernel_model.specs.Resume.{Resumed, app_of_call, onward_of, phase_after, phase_seen, resumed_call, sees, who_resumes}
use Rattle.kernel_model.specs.Sound.{Calls, unmarked_at, unmarked_in, unmarked}
use Rattle.kernel_model.specs.SoundCalls.{AreJoined, job_in}
use Rattle.kernel_model.specs.SoundNumbers.{is_on_instance}
use Rattle.kernel_model.proofs.Parts.{if-both}
use Rattle.kernel_model.proofs.SoundCallsJoined.{all_joined}
use Rattle.kernel_model.proofs.SoundEvents.{EventCases, holds_along, resumed_taken}
use Rattle.kernel_model.proofs.SoundExits.{exits_all, left_all, unbuffered}
use Rattle.kernel_model.proofs.SoundJobs.{IsAdvanceOf, IsSameBody, answered_onward, granted_onward, seen_onward}
use Rattle.kernel_model.proofs.SoundJoined.{GoesOn, some_same}
use Rattle.kernel_model.proofs.SoundMaps.{named_is}
use Rattle.kernel_model.proofs.SoundMemory.{own_uuid}
use Rattle.kernel_model.proofs.SoundPinned.{before_pinned}
use Rattle.kernel_model.proofs.SoundNewCalls.{NewCases, cases_onward}
use Rattle.kernel_model.proofs.SoundNewJoined.{Before, no_job, shared_there}
use Rattle.kernel_model.proofs.SoundNumbers.{numbered}
use Rattle.kernel_model.proofs.SoundOrder.{in_order}
use Rattle.kernel_model.proofs.SoundResumedJoined.{fits_instance, named_app, resumed_on}
use Rattle.kernel_model.proofs.SoundResumes.{opener_of, resumes_all}
use Rattle.kernel_model.proofs.SoundSlots.{Changes, by_number, free_there, leaves_slot, none_at_first, takes_slot}
use Rattle.kernel_model.proofs.SoundStarts.{OfBody, Starts, kept_starts, made_starts, session_starts}
use Rattle.kernel_model.proofs.SoundWaiters.{waiting}

-- the job of a call in this phase, if it has one, has such a body
abbrev pub HoldsIn : OfBody → CallPhase → Type 0
HoldsIn So (Runs job) = So job.body
HoldsIn So (Asks job wanted payload) = So job.body
HoldsIn So (Waits params) = Unit {0}
HoldsIn So (Ends result params told wakes) = Unit {0}

abbrev pub HoldsAt : OfBody → Option PendingCall → Type 0
HoldsAt So None = Unit {0}
HoldsAt So (Some call) = HoldsIn So call.phase

abbrev pub AllHold : OfBody → Calls → Type 0
AllHold So calls = (slot : ℕ) → HoldsAt So (calls slot)

-- it holds of each body that begins
pub record BeginsSo (So : OfBody) (boot : Booted) (tables : Tables) : Type 0 where
  -- on a new instance
  pub made : (uuid : List ℕ) (app : Application) → app_of boot uuid ≡ Some app → Starts So (Some (program_of app)) (fresh_memory (pages_in app))
  -- on one that nobody holds
  pub kept : (number : ℕ) (instance : Instance) → get tables.instances number ≡ Some instance → is_held instance ≡ false →
      Starts So (program_on boot instance) instance.memory

-- and it stays with an image and as much memory
abbrev pub StaysSo : OfBody → Type 0
StaysSo So = (body later : Body) → IsSameBody body later → So body → So later

-- an open on an instance that is alive begins on its application
open_starts : (So : OfBody) (boot : Booted) (instance : Instance) (app : Application) → instance.dead ≡ false → app_of boot instance.uuid ≡ Some app
    → Starts So (program_on boot instance) instance.memory → Starts So (Some (program_of app)) instance.memory
open_starts So boot instance app alive is starts = subst (λ (found : Option Program). Starts So found instance.memory) program_is starts
  where
    program_is : program_on boot instance ≡ Some (program_of app)
    program_is =
        ap (λ (dead : Bool). if dead then None else option_map program_of (app_of boot instance.uuid)) alive
        ∙ ap (λ (o : Option Application). option_map program_of o) is

-- ---- new calls

module _ (So : OfBody) (before : Calls) (c : NewCall) (sound : Before before c.tables) (free : before c.slot ≡ None) (begins : BeginsSo So c.boot c.tables) where
  shared_starts : (uuid : List ℕ) (app : Application) (kept : ℕ × Instance) → app_of c.boot uuid ≡ Some app → shares_one c app (λ k. k.1.dead) ≡ false
      → shared_by c app ≡ Some kept → is_held kept.1 ≡ false → Starts So (Some (program_of app)) kept.1.memory
  shared_starts uuid app kept of_boot alive shared unheld =
      let there = shared_there before c sound free app kept shared in
      let living : kept.1.dead ≡ false = sym (ap (λ (o : Option (ℕ × Instance)). option_map_or (λ (k : ℕ × Instance). k.1.dead) o false) shared) ∙ alive in
      open_starts So c.boot kept.1 app living (ap (app_of c.boot) there.1 ∙ own_uuid c.boot uuid app of_boot) (begins.kept kept.0 kept.1 there.0 unheld)

  new_bodies : NewCases c (λ taken. HoldsIn So taken.call.phase)
  new_bodies = record {
    settles = λ code. tt;
    settles_open = λ app login code. tt;
    settles_invoke = λ named code is. tt;
    cancels = λ named is. tt;
    registers = λ param pages new room good. tt;
    unregisters = λ param unpinned. tt;
    opens_kept = λ wanted app copies copied kept shown shared unheld.
        kept_starts So (beginner c) (opener wanted app copies) kept (shared_starts wanted.uuid app kept shown.of_boot shown.alive shared unheld);
    opens_awaited = λ wanted app copies copied number shown shared awaited.
        made_starts So (beginner c) (opener wanted app copies) number c.tables.next_instance (begins.made wanted.uuid app shown.of_boot);
    opens_next = λ wanted app copies copied shown shared awaited.
        made_starts So (beginner c) (opener wanted app copies) c.tables.next_instance (c.tables.next_instance + 1) (begins.made wanted.uuid app shown.of_boot);
    open_waits = λ wanted app copies copied kept shown shared held. tt;
    invokes = λ named copies copied is alive unheld.
        session_starts So (beginner c) named.0 named.1 copies.params (Invoke c.head.func) [] (begins.kept named.0.instance named.1 (named_is c named is).instance unheld);
    invoke_waits = λ named copies copied is alive held. tt;
    closes = λ named is unheld.
        session_starts So (beginner c) named.0 named.1 no_copies.params Close _ (begins.kept named.0.instance named.1 (named_is c named is).instance unheld);
    close_waits = λ named is held. tt;
  }

-- ---- resumes

module _ (So : OfBody) (stays : StaysSo So) where
  after_holds : (job : Job) (wanted : Rpc) (payload : List ℕ) (advance : Advance) → IsAdvanceOf job.body job.points advance → So job.body
      → HoldsIn So (phase_after (Asks job wanted payload) advance)
  after_holds job wanted payload (Goes next) on so = stays job.body next.body on.same so
  after_holds job wanted payload (Stops (steps.Asks other bytes left)) on so = stays job.body left.body on.same so
  after_holds job wanted payload (Stops (steps.Ends end)) on so = so
  after_holds job wanted payload (Stops (steps.Panics code)) on so = so

  seen_holds : (phase : CallPhase) → HoldsIn So phase → HoldsIn So (phase_seen phase)
  seen_holds (Runs job) so = stays job.body _ (seen_onward job).same so
  seen_holds (Asks job wanted payload) so = stays job.body _ (seen_onward job).same so
  seen_holds (Waits params) so = tt
  seen_holds (Ends result params told wakes) so = tt

  given_holds : (given : Given) (call : PendingCall) → HoldsIn So call.phase → HoldsIn So (call_given given call).phase
  given_holds NothingGiven call so = so
  given_holds (Buffer buffer) call so = so
  given_holds NoBuffer call so = so
  given_holds (Reply reply) call so = so

  sees_holds : (call : PendingCall) → HoldsIn So call.phase → HoldsIn So (sees call).phase
  sees_holds call so = if-both (λ (c : PendingCall). HoldsIn So c.phase) call.marked _ call (seen_holds call.phase so) so

  module _ (before : Calls) (r : Resumed) (joined : AreJoined before r.tables) (begins : BeginsSo So r.boot r.tables) (was : PendingCall)
      (there : before r.slot ≡ Some was) (on : GoesOn was r.call) where
    app_is : (app : Application) (uuid : List ℕ) → app_of_call r ≡ Some app → r.call.uuid ≡ Some uuid → app_of r.boot uuid ≡ Some app
    app_is app uuid is same = sym (ap (λ (o : Option (List ℕ)). option_and_then (app_of r.boot) o) same) ∙ is

    resumed_bodies : HoldsIn So r.call.phase → HoldsIn So (onward_of r).call.phase
    resumed_bodies so = resumes_all r (λ progress. HoldsIn So progress.call.phase) (record {
      runs = λ job is. subst (HoldsIn So) is so;
      asks_still = λ job wanted payload is. subst (HoldsIn So) is so;
      answered = λ job wanted payload answer advance is e.
          after_holds job wanted payload advance (answered_onward job answer advance e) (subst (HoldsIn So) is so);
      ends = λ result params told wakes left is. tt;
      fails = λ params code is. tt;
      sleeps = λ params is. tt;
      opens = λ params session app instance ready alive opening is.
          let uuid = (fits_instance before r joined was there on).application instance (ap is_on_instance opening) ready.there in
          kept_starts So (who_resumes r) (opener_of app session params) (r.call.instance, instance)
          (open_starts So r.boot instance app alive (app_is app instance.uuid is uuid) (begins.kept r.call.instance instance ready.there ready.free));
      opens_new = λ params session app awake none opening is pages.
          made_starts So (who_resumes r) (opener_of app session params) r.call.instance r.tables.next_instance
          (begins.made (uuid_of app) app (app_is app (uuid_of app) is (named_app before r joined was there on app is)));
      invokes = λ params session instance func ready alive is.
          session_starts So (who_resumes r) session instance params (Invoke func) [] (begins.kept r.call.instance instance ready.there ready.free);
      closes = λ params session instance ready is.
          session_starts So (who_resumes r) session instance params Close _ (begins.kept r.call.instance instance ready.there ready.free);
    })

  -- ---- exits

  exit_bodies : (tables : Tables) (call : PendingCall) (granted : ℕ) (progress : Progress) → HoldsIn So call.phase → progress_of tables call granted ≡ Some progress
      → HoldsIn So progress.call.phase
  exit_bodies tables call granted progress so e = exits_all tables call granted (λ (p : Progress). HoldsIn So p.call.phase) progress (record {
    left = λ job later is grant. stays job.body later.body (granted_onward granted job (Left later) grant).same (subst (HoldsIn So) is so);
    ends = λ job used end is grant. tt;
    panics = λ job used code is grant. tt;
    asks = λ job later used wanted payload is grant.
        stays job.body later.body (granted_onward granted job (Stopped used (steps.Asks wanted payload later)) grant).same (subst (HoldsIn So) is so);
    asked = λ job wanted payload is. so;
    waits = λ params is. so;
    told = λ result params wakes is. so;
    tells = λ result params wakes is. tt;
  }) e

  -- ---- events

  bodies_change : (before after : Calls) (slot : ℕ) (held : Option PendingCall) → Changes before after slot held → AllHold So before → HoldsAt So held
      → AllHold So after
  bodies_change before after slot held changes all so at =
      by_number slot at
      (λ same. subst (HoldsAt So) (sym changes.here ∙ ap after same) so)
      (λ apart. subst (HoldsAt So) (sym (changes.others at apart)) (all at))

  body_cases : (boot : Booted) (kernel : Kernel) (cpu : ℕ) → Before (unmarked_at kernel.slots) kernel.tables → BeginsSo So boot kernel.tables
      → AllHold So (unmarked_at kernel.slots) → EventCases boot kernel cpu (λ next. AllHold So (unmarked_at next.slots))
  body_cases boot kernel cpu sound begins all = record {
    answered = λ visit answer inside. all;
    comes = λ visit slot found bytes inside free lies fits.
        let c = new_call_of boot kernel.tables visit.regs slot found bytes in
        let there = free_there kernel.slots slot free in
        cases_onward c (λ taken. HoldsIn So taken.call.phase) (λ taken. AllHold So (unmarked_at (after_decision kernel visit (Takes slot taken)).slots))
        (λ taken so. bodies_change (unmarked_at kernel.slots) _ slot (Some (unmarked taken.call))
        (takes_slot kernel.slots taken.cancels slot visit.cpu Free taken.call there) all so)
        (new_bodies So (unmarked_at kernel.slots) c (before_pinned (cookie_of found) kernel.tables slot (unmarked_at kernel.slots) sound) (ap (λ (o : Option ThreadSlot). option_and_then unmarked_in o) there) (record { made = begins.made; kept = begins.kept }));
    resumes = λ visit call given inside there offered.
        let slot = thread_in visit.regs in
        let r = resumed_call boot kernel.tables slot call given in
        let taken = resumed_taken boot kernel visit call given in
        let at = ap (λ (o : Option ThreadSlot). option_and_then unmarked_in o) there in
        let so : HoldsIn So call.phase = subst (HoldsAt So) at (all slot) in
        bodies_change (unmarked_at kernel.slots) _ slot (Some (unmarked taken.call))
        (takes_slot kernel.slots taken.cancels slot visit.cpu (Suspended (client_in visit.regs) call) taken.call there) all
        (resumed_bodies (unmarked_at kernel.slots) r sound.joined begins (unmarked call) at (resumed_on given call) (given_holds given (sees call) (sees_holds call so)));
    told = λ visit answer its fixed. all;
    goes = λ visit slot worker call progress its inside there e.
        let so : HoldsIn So call.phase = subst (HoldsAt So) (ap (λ (o : Option ThreadSlot). option_and_then unmarked_in o) there) (all slot) in
        let after = exit_bodies kernel.tables call visit.steps progress so e in
        left_all slot progress.call (λ held. AllHold So (unmarked_at (slice_set kernel.slots slot held)))
        (bodies_change (unmarked_at kernel.slots) _ slot _ (leaves_slot kernel.slots slot (Active worker call) (Suspended progress.call.client progress.call) there) all after)
        (bodies_change (unmarked_at kernel.slots) _ slot _
        (leaves_slot kernel.slots slot (Active worker call) (Suspended progress.call.client (unbuffered progress.call)) there) all after)
        (λ result params told is. bodies_change (unmarked_at kernel.slots) _ slot _ (leaves_slot kernel.slots slot (Active worker call) Free there) all tt);
  }

  -- it holds of all jobs where it holds of those that begin
  pub all_bodies : (boot : Booted)
      → ((before : List Event) (kernel : Kernel) → kernel_after boot before ≡ Some kernel → BeginsSo So boot kernel.tables)
      → (history : List Event) (kernel : Kernel) → kernel_after boot history ≡ Some kernel → AllHold So (unmarked_at kernel.slots)
  all_bodies boot begins = holds_along boot (λ k. AllHold So (unmarked_at k.slots)) (λ slot. subst (HoldsAt So) (sym (none_at_first boot.threads slot)) tt)
      (λ before k cpu there all. body_cases boot k cpu (record {
        joined = all_joined boot before k there;
        numbers = numbered boot before k there;
        waiters = waiting boot before k there;
        rising = (in_order boot before k there).instances;
      }) (begins before k there) all)

-- the job of a call that works has such a body
pub works_so : (So : OfBody) (phase : CallPhase) (job : Job) → HoldsIn So phase → job_in phase ≡ Some job → So job.body
works_so So (Runs own) job so e = subst (λ (j : Job). So j.body) (some_same own job e) so
works_so So (Asks own wanted payload) job so e = subst (λ (j : Job). So j.body) (some_same own job e) so
works_so So (Waits params) job so e = no_job job e
works_so So (Ends result params told wakes) job so e = no_job job e
