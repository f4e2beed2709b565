-- Each instance that nobody holds keeps its reason, after each event of a legal history.
use Rattle.std.proofs.Common.{◌≡◌, ℕ, ◌+◌, ◌<◌, Bool, true, false, List, Option, Some, None, ◌⊎◌, inl, inr, refl, ap, subst, sym, ◌∙◌, arith}
use Rattle.std.specs.Prelude.{if◌then◌else◌, ◌==◌, ◌&&◌, ◌||◌, not, slice_get, slice_set}
use Rattle.std.specs.Option.{option_and_then, option_map_or}
use Rattle.base.specs.NumberMap.{NumberMap, IsRising, IsRising-remove, get, insert, remove}
use Rattle.base.proofs.MapLemmas.{All-get}
use Rattle.event_journal.specs.declared.event.Event.{Event}
use Rattle.job_model.specs.Job.{Job}
use Rattle.job_model.specs.Steps.{Advance, End, Goes, Left, Stopped, Stops, advance_on_answer, grant_of}
use Rattle.job_model.specs.Steps as steps
use Rattle.job_model.specs.declared.call_kind.CallKind.{CallKind}
use Rattle.job_model.specs.declared.call_kind.CallKind.TheVariants as kind
use Rattle.rpc_msgs.specs.Answer.{RpcAnswer}
use Rattle.rpc_msgs.specs.declared.rpc.Rpc.{Rpc}
use Rattle.session_table.specs.declared.session.Session.{Session}
use Rattle.session_table.specs.Session.{opened_with}
use Rattle.ta_params.specs.declared.copied_params.CopiedParams.{CopiedParams}
use Rattle.kernel_model.specs.Application.{Application, Booted, uuid_of}
use Rattle.kernel_model.specs.Argument.{client_in, thread_in}
use Rattle.kernel_model.specs.Begin.{begins_on, closing_points}
use Rattle.kernel_model.specs.Codes.{success}
use Rattle.kernel_model.specs.Decision.{Taken, Takes}
use Rattle.kernel_model.specs.Entry.{after_decision}
use Rattle.kernel_model.specs.Exit.{progress_of, slot_left, tables_left}
use Rattle.kernel_model.specs.Given.{Given, call_given}
use Rattle.kernel_model.specs.History.{kernel_after}
use Rattle.kernel_model.specs.Instances.{app_of, given_back, held_by, instances_after, is_held, keeps_alive, killed, made_for}
use Rattle.kernel_model.specs.Kernel.{Active, Asks, CallPhase, Free, Instance, Kernel, PendingCall, Progress, Runs, Suspended, Tables, ThreadSlot, Waits, first_kernel}
use Rattle.kernel_model.specs.Leaving.{leaving_of}
use Rattle.kernel_model.specs.Located.{cookie_of}
use Rattle.kernel_model.specs.NewCall.{NewCall, beginner, new_call_of, no_copies, opener}
use Rattle.kernel_model.specs.Resume.{Resumed, app_of_call, onward_of, phase_after, resumed_call, sees, who_resumes}
use Rattle.kernel_model.specs.Sessions.{has_opened, sessions_after, sessions_after_panic, sessions_unrun}
use Rattle.kernel_model.specs.Sound.{Calls, unmarked_at, unmarked_in, unmarked}
use Rattle.kernel_model.specs.SoundCalls.{AreJoined, Holds, is_in_session, is_over, is_told, job_in}
use Rattle.kernel_model.specs.SoundMemory.{AreInMemory, IsInMemory}
use Rattle.kernel_model.specs.SoundNumbers.{IsNumberedSession, is_on_instance}
use Rattle.kernel_model.specs.SoundOrder.{AreInOrder}
use Rattle.kernel_model.proofs.Parts.{some_of}
use Rattle.kernel_model.proofs.SoundCallsJoined.{all_joined}
use Rattle.kernel_model.proofs.SoundCourses.{answered_course, asked_course, course_both, course_same, left_course, resumed_course}
use Rattle.kernel_model.proofs.SoundDestined.{Destined, HasEnded, IsDestined, destined_on, granted_so}
use Rattle.kernel_model.proofs.SoundEndedJoined.{instances_end, sessions_end, sessions_panic}
use Rattle.kernel_model.proofs.SoundEvents.{EventCases, holds_along, resumed_taken}
use Rattle.kernel_model.proofs.SoundExits.{exits_all, left_all, unbuffered}
use Rattle.kernel_model.proofs.SoundJoined.{GoesOn, never_both, never_none, some_same}
use Rattle.kernel_model.proofs.SoundMaps.{get-insert-other, get-insert-same, get-remove-other, get-remove-same, named_is}
use Rattle.kernel_model.proofs.SoundMemory.{all_in_memory, own_uuid}
use Rattle.kernel_model.proofs.SoundPinned.{before_pinned, memory_pinned, order_pinned, reasoned_pinned}
use Rattle.kernel_model.proofs.SoundNewCalls.{NewCases, cases_onward}
use Rattle.kernel_model.proofs.SoundNewJoined.{Before, held_none, no_job, shared_there, gone, awaited_uuids, new_instance}
use Rattle.kernel_model.proofs.SoundNumbers.{numbered}
use Rattle.kernel_model.proofs.SoundOrder.{exit_order, in_order}
use Rattle.kernel_model.proofs.SoundReasons.{AllOpenedStay, AreReasoned, EndsOrStays, HasOpened, HasOther, HasReason, IsKeptAlive, KeepsDestiny, close_so, is_open, kept_so, leaves, made_so, opened_still, opened_there, other_opened, reasons_begin, reasons_change, reasons_go, reasons_rest, reasons_still}
use Rattle.kernel_model.proofs.SoundResumedJoined.{fits_instance, fits_session, named_app, resumed_on, session_instance}
use Rattle.kernel_model.proofs.SoundResumes.{opener_of, resumes_all}
use Rattle.kernel_model.proofs.SoundSlots.{Changes, by_number, free_there, leaves_slot, takes_slot}
use Rattle.kernel_model.proofs.SoundWaiters.{waiting}

below_apart : (n next : ℕ) → n < next → next ≡ n → ⊥
below_apart n next less same = omega (arith, less, same)

kept_alive : (boot : Booted) (uuid : List ℕ) (app : Application) → app_of boot uuid ≡ Some app → keeps_alive app ≡ true → IsKeptAlive boot uuid
kept_alive boot uuid app is alive = ap (λ (o : Option Application). option_map_or keeps_alive o false) is ∙ alive

-- ---- new calls

abbrev NewReasons : Calls → NewCall → Taken → Type 0
NewReasons before c taken = (after : Calls) → Changes before after c.slot (Some (unmarked taken.call)) → AreReasoned c.boot after taken.tables

module _ (before : Calls) (c : NewCall) (sound : Before before c.tables) (order : AreInOrder c.tables) (free : before c.slot ≡ None)
    (memory : AreInMemory c.boot before c.tables) (reasons : AreReasoned c.boot before c.tables) where
  rests : (after : Calls) (now : Tables) (call : PendingCall) → Changes before after c.slot (Some call) → job_in call.phase ≡ None
      → now.instances ≡ c.tables.instances → AllOpenedStay c.tables.sessions now.sessions → AreReasoned c.boot after now
  rests after now call changes idle same stay = reasons_rest c.boot before after c.tables now c.slot (Some call) changes reasons call refl idle same stay

  all_stay : AllOpenedStay c.tables.sessions c.tables.sessions
  all_stay at session kept opened = kept

  older : (at : ℕ) (session : Session) → get c.tables.sessions at ≡ Some session → c.tables.next_session ≡ at → ⊥
  older at session kept same =
      let given = All-get (IsNumberedSession c.tables) c.tables.sessions at session sound.numbers.sessions kept in
      below_apart at c.tables.next_session given.0.1 same

  reserved_stay : (reserved : Session) → AllOpenedStay c.tables.sessions (insert c.tables.sessions c.tables.next_session reserved)
  reserved_stay reserved at session kept opened = get-insert-other c.tables.sessions c.tables.next_session reserved at (older at session kept) ∙ kept

  -- an open begins
  opens_so : (after : Calls) (now : Tables) (call : PendingCall) (its : Instance) (job : Job) (app : Application) (reserved : Session)
      → Changes before after c.slot (Some call) → now.sessions ≡ insert c.tables.sessions c.tables.next_session reserved
      → now.instances ≡ insert c.tables.instances call.instance its → its.holder ≡ Some c.slot → job_in call.phase ≡ Some job
      → ((instance : Instance) → get c.tables.instances call.instance ≡ Some instance → instance.holder ≡ None)
      → call.kind ≡ kind.Open → call.session ≡ c.tables.next_session → app_of c.boot its.uuid ≡ Some app
      → IsDestined true job.body job.points job.result ⊎ ((has_opened c.tables.sessions call.instance ≡ true) ⊎ (keeps_alive app ≡ true))
      → AreReasoned c.boot after now
  opens_so after now call its job app reserved changes sessions instances holder works unheld opening session is so =
      reasons_begin c.boot before after c.tables now c.slot (Some call) changes reasons call its job refl sound.joined instances holder works unheld stay
      (λ leaving. ends so)
    where
      stay : AllOpenedStay c.tables.sessions now.sessions
      stay at found kept opened = ap (λ (m : NumberMap Session). get m at) sessions ∙ reserved_stay reserved at found kept opened

      ends : IsDestined true job.body job.points job.result ⊎ ((has_opened c.tables.sessions call.instance ≡ true) ⊎ (keeps_alive app ≡ true))
          → EndsOrStays c.boot now.sessions its call job
      ends (inl destined) = inl (subst (λ (k : CallKind). IsDestined (is_open k) job.body job.points job.result) (sym opening) destined)
      ends (inr (inl opened)) =
          let one = opened_there c.tables.sessions call.instance order.sessions.rising opened in
          inr (inl (record { one = opened_still c.tables.sessions now.sessions call.instance stay one; apart = λ same. older one.at one.session one.kept (sym session ∙ same) }))
      ends (inr (inr alive)) = inr (inr (inl (kept_alive c.boot its.uuid app is alive)))

  new_reasons : NewCases c (NewReasons before c)
  new_reasons = record {
    settles = λ code after changes. rests after _ _ changes refl refl all_stay;
    settles_open = λ app login code after changes. rests after _ _ changes refl refl all_stay;
    settles_invoke = λ named code is after changes. rests after _ _ changes refl refl all_stay;
    cancels = λ named is after changes. rests after _ _ changes refl refl all_stay;
    registers = λ param pages new room good after changes. rests after _ _ changes refl refl all_stay;
    unregisters = λ param unpinned after changes. rests after _ _ changes refl refl all_stay;
    opens_kept = λ wanted app copies copied kept shown shared unheld after changes.
        let there = shared_there before c sound free app kept shared in
        opens_so after _ _ (held_by c.slot kept.1) _ app _ changes refl refl refl refl
        (λ instance its. ap (λ (i : Instance). i.holder) (some_same instance kept.1 (sym its ∙ there.0)) ∙ held_none kept.1 unheld)
        refl refl (ap (app_of c.boot) there.1 ∙ own_uuid c.boot wanted.uuid app shown.of_boot)
        (kept_so (beginner c) (opener wanted app copies) kept);
    opens_awaited = λ wanted app copies copied number shown shared waits after changes.
        let waiter = awaited_uuids before c sound free app number waits in
        opens_so after _ _ (made_for (uuid_of app) c.slot) _ app _ changes refl refl refl refl
        (λ instance its. absurd (gone before c sound free app number waiter.0 waiter.1 waiter.2 waiter.3 waiter.4 waiter.5
        ((sound.joined.each waiter.1 waiter.0 waiter.2).instance.settled waiter.6) shared instance its))
        refl refl (own_uuid c.boot wanted.uuid app shown.of_boot)
        (made_so (beginner c) (opener wanted app copies) number c.tables.next_instance);
    opens_next = λ wanted app copies copied shown shared waits after changes.
        opens_so after _ _ (made_for (uuid_of app) c.slot) _ app _ changes refl refl refl refl
        (λ instance its. never_none _ instance (new_instance before c sound free c.tables.next_instance refl) its)
        refl refl (own_uuid c.boot wanted.uuid app shown.of_boot)
        (made_so (beginner c) (opener wanted app copies) c.tables.next_instance (c.tables.next_instance + 1));
    open_waits = λ wanted app copies copied kept shown shared held after changes. rests after _ _ changes refl refl (reserved_stay _);
    invokes = λ named copies copied is alive unheld after changes.
        reasons_begin c.boot before after c.tables _ c.slot (Some _) changes reasons _ (held_by c.slot named.1) _ refl sound.joined refl refl refl
        (λ instance its. ap (λ (i : Instance). i.holder) (some_same instance named.1 (sym its ∙ (named_is c named is).instance)) ∙ held_none named.1 unheld)
        all_stay (λ leaving. never_both (sym leaving));
    invoke_waits = λ named copies copied is alive held after changes. rests after _ _ changes refl refl all_stay;
    closes = λ named is unheld after changes.
        let within = All-get (λ (k : ℕ × Instance). IsInMemory c.boot k.1) c.tables.instances named.0.instance named.1 memory.instances (named_is c named is).instance in
        let app = some_of (app_of c.boot named.1.uuid) within.application in
        reasons_begin c.boot before after c.tables _ c.slot (Some _) changes reasons _ (held_by c.slot named.1) _ refl sound.joined refl refl refl
        (λ instance its. ap (λ (i : Instance). i.holder) (some_same instance named.1 (sym its ∙ (named_is c named is).instance)) ∙ held_none named.1 unheld)
        all_stay (λ leaving. close_ends named app.0 app.1 (close_so (beginner c) c.head.session named.0 named.1 no_copies.params app.0 app.1));
    close_waits = λ named is held after changes. rests after _ _ changes refl refl all_stay;
  }
    where
      close_ends : (named : Session × Instance) (app : Application) → app_of c.boot named.1.uuid ≡ Some app
          → (let job = (begins_on (beginner c) named.0 named.1 no_copies.params (closing_points (beginner c) c.head.session named.0 named.1)).job in
          IsDestined false job.body job.points job.result
          ⊎ ((has_opened (remove c.tables.sessions c.head.session) named.0.instance ≡ true) ⊎ ((keeps_alive app ≡ true) ⊎ (named.1.dead ≡ true))))
          → (let job = (begins_on (beginner c) named.0 named.1 no_copies.params (closing_points (beginner c) c.head.session named.0 named.1)).job in
          IsDestined false job.body job.points job.result
          ⊎ (HasOther c.tables.sessions named.0.instance c.head.session ⊎ (IsKeptAlive c.boot named.1.uuid ⊎ (named.1.dead ≡ true))))
      close_ends named app is (inl so) = inl so
      close_ends named app is (inr (inl opened)) =
          inr (inl (other_opened c.tables.sessions named.0.instance c.head.session (IsRising-remove c.tables.sessions c.head.session order.sessions.rising) opened))
      close_ends named app is (inr (inr (inl alive))) = inr (inr (inl (kept_alive c.boot named.1.uuid app is alive)))
      close_ends named app is (inr (inr (inr dead))) = inr (inr (inr dead))

-- ---- phases

destiny_same : (phase next : CallPhase) → phase ≡ next → KeepsDestiny phase next
destiny_same phase next e opening = course_same (Destined opening) phase next e

destiny_both : (first second third : CallPhase) → KeepsDestiny first second → KeepsDestiny second third → KeepsDestiny first third
destiny_both first second third one two opening = course_both (Destined opening) first second third (one opening) (two opening)

left_destiny : (granted : ℕ) (job later : Job) → grant_of granted job ≡ Some (Left later) → KeepsDestiny (Runs job) (Runs later)
left_destiny granted job later grant opening = left_course (Destined opening) (HasEnded opening) (destined_on opening) granted job later grant

asked_destiny : (granted used : ℕ) (job later : Job) (wanted : Rpc) (payload : List ℕ)
    → grant_of granted job ≡ Some (Stopped used (steps.Asks wanted payload later)) → KeepsDestiny (Runs job) (Asks later wanted payload)
asked_destiny granted used job later wanted payload grant opening =
    asked_course (Destined opening) (HasEnded opening) (destined_on opening) granted used job later wanted payload grant

answered_destiny : (job : Job) (wanted : Rpc) (payload : List ℕ) (answer : RpcAnswer) (advance : Advance) → advance_on_answer answer job ≡ Some advance
    → KeepsDestiny (Asks job wanted payload) (phase_after (Asks job wanted payload) advance)
answered_destiny job wanted payload answer advance e opening =
    answered_course (Destined opening) (HasEnded opening) (destined_on opening) job wanted payload answer advance e

resumed_destiny : (given : Given) (call : PendingCall) → KeepsDestiny call.phase (call_given given (sees call)).phase
resumed_destiny given call opening = resumed_course (Destined opening) given call

-- ---- resumes

abbrev OnwardReasons : Booted → Calls → ℕ → Progress → Type 0
OnwardReasons boot before slot progress = (after : Calls) → Changes before after slot (Some (unmarked progress.call)) → AreReasoned boot after progress.tables

module _ (before : Calls) (r : Resumed) (joined : AreJoined before r.tables) (order : AreInOrder r.tables) (memory : AreInMemory r.boot before r.tables)
    (reasons : AreReasoned r.boot before r.tables) (was : PendingCall) (there : before r.slot ≡ Some was) (on : GoesOn was r.call)
    (keeps : KeepsDestiny was.phase r.call.phase) where
  stay_all : AllOpenedStay r.tables.sessions r.tables.sessions
  stay_all at session kept opened = kept

  goes_so : (after : Calls) (now : Tables) (call : PendingCall) (phase : CallPhase) → Changes before after r.slot (Some call) → r.call.phase ≡ phase
      → call.instance ≡ r.call.instance → call.session ≡ r.call.session → call.kind ≡ r.call.kind → KeepsDestiny phase call.phase
      → now.instances ≡ r.tables.instances → now.sessions ≡ r.tables.sessions → AreReasoned r.boot after now
  goes_so after now call phase changes is instance session of_kind same instances sessions =
      reasons_go r.boot before after r.tables now r.slot (Some call) changes reasons was call there refl (instance ∙ on.instance) (session ∙ on.session)
      (of_kind ∙ on.of_kind)
      (destiny_both was.phase r.call.phase call.phase keeps (subst (λ (p : CallPhase). KeepsDestiny p call.phase) (sym is) same)) instances
      (λ at found kept opened. ap (λ (m : NumberMap Session). get m at) sessions ∙ kept)

  idles_so : (after : Calls) (now : Tables) (call : PendingCall) → Changes before after r.slot (Some call) → job_in call.phase ≡ None
      → now.instances ≡ r.tables.instances → now.sessions ≡ r.tables.sessions → AreReasoned r.boot after now
  idles_so after now call changes idle same sessions =
      reasons_rest r.boot before after r.tables now r.slot (Some call) changes reasons call refl idle same
      (λ at found kept opened. ap (λ (m : NumberMap Session). get m at) sessions ∙ kept)

  -- its own session isn't opened
  own_reserved : (params : CopiedParams) → r.call.phase ≡ Waits params → r.call.kind ≡ kind.Open → (one : HasOpened r.tables.sessions r.call.instance)
      → r.call.session ≡ one.at → ⊥
  own_reserved params waits opening one same =
      let has = (fits_session before r joined was there on).opening opening (ap is_told waits) in
      let its = some_same has.session one.session (sym has.kept ∙ ap (λ (n : ℕ). get r.tables.sessions n) same ∙ one.kept) in
      never_both (sym one.opened ∙ ap (λ (s : Session). s.opened) (sym its) ∙ has.is_opened)

  -- an open begins
  resumes_open : (after : Calls) (now : Tables) (call : PendingCall) (params : CopiedParams) (its : Instance) (job : Job) (app : Application)
      → Changes before after r.slot (Some call) → now.sessions ≡ r.tables.sessions → now.instances ≡ insert r.tables.instances r.call.instance its
      → its.holder ≡ Some r.slot → job_in call.phase ≡ Some job
      → ((instance : Instance) → get r.tables.instances r.call.instance ≡ Some instance → instance.holder ≡ None)
      → r.call.phase ≡ Waits params → r.call.kind ≡ kind.Open → call.kind ≡ r.call.kind → call.session ≡ r.call.session → call.instance ≡ r.call.instance
      → app_of r.boot its.uuid ≡ Some app
      → IsDestined true job.body job.points job.result ⊎ ((has_opened r.tables.sessions r.call.instance ≡ true) ⊎ (keeps_alive app ≡ true))
      → AreReasoned r.boot after now
  resumes_open after now call params its job app changes sessions instances holder works unheld waits opening of_kind session instance is so =
      reasons_begin r.boot before after r.tables now r.slot (Some call) changes reasons call its job refl joined
      (instances ∙ ap (λ (n : ℕ). insert r.tables.instances n its) (sym instance)) holder works
      (λ found kept. unheld found (ap (λ (n : ℕ). get r.tables.instances n) (sym instance) ∙ kept)) stay (λ leaving. ends so)
    where
      stay : AllOpenedStay r.tables.sessions now.sessions
      stay at found kept opened = ap (λ (m : NumberMap Session). get m at) sessions ∙ kept

      ends : IsDestined true job.body job.points job.result ⊎ ((has_opened r.tables.sessions r.call.instance ≡ true) ⊎ (keeps_alive app ≡ true))
          → EndsOrStays r.boot now.sessions its call job
      ends (inl destined) = inl (subst (λ (k : CallKind). IsDestined (is_open k) job.body job.points job.result) (sym (of_kind ∙ opening)) destined)
      ends (inr (inl opened)) =
          let one = opened_there r.tables.sessions r.call.instance order.sessions.rising opened in
          let other : HasOther now.sessions r.call.instance r.call.session =
          record { one = opened_still r.tables.sessions now.sessions r.call.instance stay one; apart = own_reserved params waits opening one } in
          inr (inl (subst (λ (n : ℕ). HasOther now.sessions n call.session) (sym instance)
          (subst (λ (n : ℕ). HasOther now.sessions r.call.instance n) (sym session) other)))
      ends (inr (inr alive)) = inr (inr (inl (kept_alive r.boot its.uuid app is alive)))

  found_app : (app : Application) (uuid : List ℕ) → app_of_call r ≡ Some app → r.call.uuid ≡ Some uuid → app_of r.boot uuid ≡ Some app
  found_app app uuid is same = sym (ap (λ (o : Option (List ℕ)). option_and_then (app_of r.boot) o) same) ∙ is

  close_ends : (session : Session) (instance : Instance) (params : CopiedParams) (app : Application) → app_of r.boot instance.uuid ≡ Some app
      → session.instance ≡ r.call.instance
      → (let job = (begins_on (who_resumes r) session instance params (closing_points (who_resumes r) r.call.session session instance)).job in
      IsDestined false job.body job.points job.result
      ⊎ ((has_opened (remove r.tables.sessions r.call.session) session.instance ≡ true) ⊎ ((keeps_alive app ≡ true) ⊎ (instance.dead ≡ true))))
      → (let job = (begins_on (who_resumes r) session instance params (closing_points (who_resumes r) r.call.session session instance)).job in
      IsDestined false job.body job.points job.result
      ⊎ (HasOther r.tables.sessions r.call.instance r.call.session ⊎ (IsKeptAlive r.boot instance.uuid ⊎ (instance.dead ≡ true))))
  close_ends session instance params app is same (inl so) = inl so
  close_ends session instance params app is same (inr (inl opened)) =
      inr (inl (subst (λ (n : ℕ). HasOther r.tables.sessions n r.call.session) same
      (other_opened r.tables.sessions session.instance r.call.session (IsRising-remove r.tables.sessions r.call.session order.sessions.rising) opened)))
  close_ends session instance params app is same (inr (inr (inl alive))) = inr (inr (inl (kept_alive r.boot instance.uuid app is alive)))
  close_ends session instance params app is same (inr (inr (inr dead))) = inr (inr (inr dead))

  ready_free : (instance : Instance) → get r.tables.instances r.call.instance ≡ Some instance → is_held instance ≡ false → (found : Instance)
      → get r.tables.instances r.call.instance ≡ Some found → found.holder ≡ None
  ready_free instance kept unheld found its = ap (λ (i : Instance). i.holder) (some_same found instance (sym its ∙ kept)) ∙ held_none instance unheld

  resumed_reasons : OnwardReasons r.boot before r.slot (onward_of r)
  resumed_reasons = resumes_all r (OnwardReasons r.boot before r.slot) (record {
    runs = λ job is after changes. goes_so after _ _ (Runs job) changes is refl refl refl (destiny_same (Runs job) (Runs job) refl) refl refl;
    asks_still = λ job wanted payload is after changes.
        goes_so after _ _ (Asks job wanted payload) changes is refl refl refl (destiny_same (Asks job wanted payload) (Asks job wanted payload) refl) refl refl;
    answered = λ job wanted payload answer advance is e after changes.
        goes_so after _ _ (Asks job wanted payload) changes is refl refl refl (answered_destiny job wanted payload answer advance e) refl refl;
    ends = λ result params told wakes left is after changes. idles_so after _ _ changes refl refl refl;
    fails = λ params code is after changes. idles_so after _ _ changes refl refl refl;
    sleeps = λ params is after changes. idles_so after _ _ changes refl refl refl;
    opens = λ params session app instance ready alive opening is after changes.
        let uuid = (fits_instance before r joined was there on).application instance (ap is_on_instance opening) ready.there in
        resumes_open after _ _ params (held_by r.slot instance) _ app changes refl refl refl refl (ready_free instance ready.there ready.free)
        ready.awake.waited opening refl refl refl (found_app app instance.uuid is uuid)
        (kept_so (who_resumes r) (opener_of app session params) (r.call.instance, instance));
    opens_new = λ params session app awake none opening is pages after changes.
        resumes_open after _ _ params (made_for (uuid_of app) r.slot) _ app changes refl refl refl refl
        (λ instance its. never_none _ instance none its)
        awake.waited opening refl refl refl (found_app app (uuid_of app) is (named_app before r joined was there on app is))
        (made_so (who_resumes r) (opener_of app session params) r.call.instance r.tables.next_instance);
    invokes = λ params session instance func ready alive is after changes.
        reasons_begin r.boot before after r.tables _ r.slot (Some _) changes reasons _ (held_by r.slot instance) _ refl joined
        (ap (λ (n : ℕ). insert r.tables.instances n (held_by r.slot instance)) (session_instance before r joined was there on session ready.awake.kept (ap is_in_session is)))
        refl refl (ready_free instance ready.there ready.free) stay_all (λ leaving. never_both (sym leaving ∙ ap leaves is));
    closes = λ params session instance ready is after changes.
        let within = All-get (λ (k : ℕ × Instance). IsInMemory r.boot k.1) r.tables.instances r.call.instance instance memory.instances ready.there in
        let app = some_of (app_of r.boot instance.uuid) within.application in
        let same = session_instance before r joined was there on session ready.awake.kept (ap is_in_session is) in
        let ends = close_ends session instance params app.0 app.1 same (close_so (who_resumes r) r.call.session session instance params app.0 app.1) in
        reasons_begin r.boot before after r.tables _ r.slot (Some _) changes reasons _ (held_by r.slot instance) _ refl joined
        (ap (λ (n : ℕ). insert r.tables.instances n (held_by r.slot instance)) same)
        refl refl (ready_free instance ready.there ready.free) stay_all
        (λ leaving. as_close (begins_on (who_resumes r) session instance params (closing_points (who_resumes r) r.call.session session instance)).job
        (HasOther r.tables.sessions r.call.instance r.call.session ⊎ (IsKeptAlive r.boot instance.uuid ⊎ (instance.dead ≡ true))) is ends);
  })
    where
      as_close : (job : Job) (Else : Type 0) → r.call.kind ≡ kind.Close → IsDestined false job.body job.points job.result ⊎ Else
          → IsDestined (is_open r.call.kind) job.body job.points job.result ⊎ Else
      as_close job Else is (inl so) = inl (subst (λ (b : Bool). IsDestined b job.body job.points job.result) (sym (ap is_open is)) so)
      as_close job Else is (inr otherwise) = inr otherwise

-- ---- exits

-- what an instance is that a call has given back
back_left : (sessions : NumberMap Session) (instances : NumberMap Instance) (number : ℕ) (is_last : Bool) (change : Instance → Instance) (held left : Instance)
    (found : Option Instance) → found ≡ Some held
    → get (option_map_or (λ (instance : Instance). instances_after sessions instances number is_last (change instance)) found instances) number ≡ Some left
    → (left ≡ change held) × (is_last ≡ false) × (((change held).dead && not (has_opened sessions number)) ≡ false)
back_left sessions instances number is_last change held left None is kept = never_none None held refl is
back_left sessions instances number is_last change held left (Some instance) is kept =
    by_test is_last ((change held).dead && not (has_opened sessions number)) refl refl
    (subst (λ (i : Instance). get (instances_after sessions instances number is_last (change i)) number ≡ Some left) (some_same instance held is) kept)
  where
    by_test : (one other : Bool) → is_last ≡ one → ((change held).dead && not (has_opened sessions number)) ≡ other
        → get (if one || other then remove instances number else insert instances number (change held)) number ≡ Some left
        → (left ≡ change held) × (is_last ≡ false) × (((change held).dead && not (has_opened sessions number)) ≡ false)
    by_test true other is_one is_other at = never_none (get (remove instances number) number) left (get-remove-same instances number) at
    by_test false true is_one is_other at = never_none (get (remove instances number) number) left (get-remove-same instances number) at
    by_test false false is_one is_other at =
        (some_same left (change held) (sym at ∙ get-insert-same instances number (change held)), is_one, is_other)

-- a dead instance that stays has an opened session
dead_opened : (dead opened : Bool) → dead ≡ true → (dead && not opened) ≡ false → opened ≡ true
dead_opened true true e f = refl
dead_opened true false e f = absurd cc
dead_opened false opened e f = absurd cc

module _ (before : Calls) (tables : Tables) (slot : ℕ) (call : PendingCall) (joined : AreJoined before tables) (there : before slot ≡ Some (unmarked call)) where
  -- the session of a call that works is on its instance
  pub own_session : (k : CallKind) (job : Job) → call.kind ≡ k → call.phase ≡ Runs job → (session : Session) → get tables.sessions call.session ≡ Some session
      → session.instance ≡ call.instance
  own_session kind.Open job is runs session kept =
      let has = (joined.each slot (unmarked call) there).session.opening is (ap is_told runs) in
      ap (λ (s : Session). s.instance) (some_same session has.session (sym kept ∙ has.kept)) ∙ has.instance
  own_session (kind.Invoke func) job is runs session kept =
      let has = (joined.each slot (unmarked call) there).session.still session (ap is_in_session is) kept in
      ap (λ (s : Session). s.instance) (some_same session has.session (sym kept ∙ has.kept)) ∙ has.instance
  own_session kind.Close job is runs session kept =
      let has = (joined.each slot (unmarked call) there).session.still session (ap is_in_session is) kept in
      ap (λ (s : Session). s.instance) (some_same session has.session (sym kept ∙ has.kept)) ∙ has.instance
  own_session kind.Settled job is runs session kept =
      never_both (sym ((joined.each slot (unmarked call) there).instance.settled (ap is_over runs)) ∙ ap is_on_instance is)

  -- and it holds that
  pub its_hold : (job : Job) → call.phase ≡ Runs job → Holds (get tables.instances call.instance) slot (unmarked call)
  its_hold job is = (joined.each slot (unmarked call) there).instance.working job (ap job_in is)

module _ (boot : Booted) (before : Calls) (tables : Tables) (slot : ℕ) (call : PendingCall) (joined : AreJoined before tables) (order : AreInOrder tables)
    (reasons : AreReasoned boot before tables) (there : before slot ≡ Some (unmarked call)) where
  exit_goes : (after : Calls) (now : Tables) (left : PendingCall) (phase : CallPhase) → Changes before after slot (Some left) → call.phase ≡ phase
      → left.instance ≡ call.instance → left.session ≡ call.session → left.kind ≡ call.kind → KeepsDestiny phase left.phase
      → now.instances ≡ tables.instances → now.sessions ≡ tables.sessions → AreReasoned boot after now
  exit_goes after now left phase changes is instance session of_kind same instances sessions =
      reasons_go boot before after tables now slot (Some left) changes reasons (unmarked call) left there refl instance session of_kind
      (subst (λ (p : CallPhase). KeepsDestiny p left.phase) (sym is) same) instances
      (λ at found kept opened. ap (λ (m : NumberMap Session). get m at) sessions ∙ kept)

  exit_ends : (after : Calls) (now : Tables) (left : PendingCall) (job : Job) (held : Instance) → Changes before after slot (Some left)
      → call.phase ≡ Runs job → get tables.instances call.instance ≡ Some held → held.holder ≡ Some slot → job_in left.phase ≡ None
      → ((other : ℕ) → (call.instance ≡ other → ⊥) → get now.instances other ≡ get tables.instances other)
      → ((other : ℕ) → (call.session ≡ other → ⊥) → get now.sessions other ≡ get tables.sessions other)
      → ((instance : Instance) → get now.instances call.instance ≡ Some instance → HasReason boot now.sessions call.instance instance)
      → AreReasoned boot after now
  exit_ends after now left job held changes runs kept holder idle instances sessions reason =
      reasons_change boot before after tables now slot (Some left) changes reasons call.instance joined
      (λ instance other its its_holder. some_same slot other (sym holder ∙ ap (λ (i : Instance). i.holder) (some_same held instance (sym kept ∙ its)) ∙ its_holder))
      instances
      (λ at session its opened apart. by_number call.session at
      (λ same. absurd (apart (own_session before tables slot call joined there call.kind job refl runs session (ap (λ (n : ℕ). get tables.sessions n) same ∙ its))))
      (λ differ. sessions at differ ∙ its))
      (λ instance its none. reason instance its)
      (λ other next instance is works its leaving. no_job next (sym idle ∙ ap (λ (c : PendingCall). job_in c.phase) (some_same left other is) ∙ works))

  -- another opened session is still there after the end of a call
  other_stays : (now : NumberMap Session) → ((at : ℕ) → (call.session ≡ at → ⊥) → get now at ≡ get tables.sessions at)
      → HasOther tables.sessions call.instance call.session → HasOpened now call.instance
  other_stays now others other = record {
    at = other.one.at;
    session = other.one.session;
    kept = others other.one.at other.apart ∙ other.one.kept;
    opened = other.one.opened;
    instance = other.one.instance;
  }

  -- the reason of an instance after the end of a call on it
  end_reason : (granted used : ℕ) (job : Job) (end : End) (k : CallKind) (held left : Instance) → call.kind ≡ k → call.phase ≡ Runs job
      → grant_of granted job ≡ Some (Stopped used (steps.Ends end)) → get tables.instances call.instance ≡ Some held
      → IsRising (sessions_after k tables.sessions call.session end.result.result end.context)
      → left ≡ given_back end.memory end.objects held → end.is_last ≡ false
      → (held.dead && not (has_opened (sessions_after k tables.sessions call.session end.result.result end.context) call.instance)) ≡ false
      → HasReason boot (sessions_after k tables.sessions call.session end.result.result end.context) call.instance left
  end_reason granted used job end (kind.Invoke func) held left is runs grant kept rising same lasts stays =
      let has = (joined.each slot (unmarked call) there).session.working job (ap job_in runs) (ap is_in_session is) in
      inl (record { at = call.session; session = has.session; kept = has.kept; opened = has.is_opened; instance = has.instance })
  end_reason granted used job end kind.Settled held left is runs grant kept rising same lasts stays =
      never_both (sym ((joined.each slot (unmarked call) there).instance.settled (ap is_over runs)) ∙ ap is_on_instance is)
  end_reason granted used job end kind.Close held left is runs grant kept rising same lasts stays =
      by (reasons.jobs slot (unmarked call) job held there (ap job_in runs) kept (ap leaves is))
    where
      by : EndsOrStays boot tables.sessions held (unmarked call) job
          → HasReason boot (sessions_after kind.Close tables.sessions call.session end.result.result end.context) call.instance left
      by (inl so) = ended (granted_so (is_open call.kind) granted job (Stopped used (steps.Ends end)) so grant)
        where
          ended : HasEnded (is_open call.kind) end → HasReason boot (sessions_after kind.Close tables.sessions call.session end.result.result end.context) call.instance left
          ended (inl last) = never_both (sym last ∙ lasts)
          ended (inr opened) = never_both (sym opened.0 ∙ ap is_open is)
      by (inr (inl other)) = inl (other_stays _ (sessions_end kind.Close tables.sessions call.session end.result.result end.context).others other)
      by (inr (inr (inl alive))) = inr (ap (λ (i : Instance). option_map_or keeps_alive (app_of boot i.uuid) false) same ∙ alive)
      by (inr (inr (inr dead))) = inl (opened_there _ call.instance rising (dead_opened held.dead _ dead stays))
  end_reason granted used job end kind.Open held left is runs grant kept rising same lasts stays =
      by (reasons.jobs slot (unmarked call) job held there (ap job_in runs) kept (ap leaves is))
    where
      opens : (context : ℕ) (test : Bool) (found : Option Session) → test ≡ true → found ≡ get tables.sessions call.session
          → HasOpened (if test then option_map_or (λ session. insert tables.sessions call.session (opened_with session context)) found tables.sessions
          else remove tables.sessions call.session) call.instance
      opens context false found e its = absurd (never_both (sym e))
      opens context true None e its =
          let has = (joined.each slot (unmarked call) there).session.opening is (ap is_told runs) in
          never_none _ has.session (sym its) has.kept
      opens context true (Some session) e its =
          let has = (joined.each slot (unmarked call) there).session.opening is (ap is_told runs) in
          record {
            at = call.session;
            session = opened_with session context;
            kept = get-insert-same tables.sessions call.session (opened_with session context);
            opened = refl;
            instance = ap (λ (s : Session). s.instance) (some_same session has.session (its ∙ has.kept)) ∙ has.instance;
          }

      by : EndsOrStays boot tables.sessions held (unmarked call) job
          → HasReason boot (sessions_after kind.Open tables.sessions call.session end.result.result end.context) call.instance left
      by (inl so) = ended (granted_so (is_open call.kind) granted job (Stopped used (steps.Ends end)) so grant)
        where
          ended : HasEnded (is_open call.kind) end → HasReason boot (sessions_after kind.Open tables.sessions call.session end.result.result end.context) call.instance left
          ended (inl last) = never_both (sym last ∙ lasts)
          ended (inr opened) =
              inl (opens end.context (end.result.result == success) (get tables.sessions call.session) (ap (λ (n : ℕ). n == success) opened.1) refl)
      by (inr (inl other)) = inl (other_stays _ (sessions_end kind.Open tables.sessions call.session end.result.result end.context).others other)
      by (inr (inr (inl alive))) = inr (ap (λ (i : Instance). option_map_or keeps_alive (app_of boot i.uuid) false) same ∙ alive)
      by (inr (inr (inr dead))) = inl (opened_there _ call.instance rising (dead_opened held.dead _ dead stays))

  unrun_stay : (k : CallKind) → call.kind ≡ k → is_told call.phase ≡ false → AllOpenedStay tables.sessions (sessions_unrun k tables.sessions call.session)
  unrun_stay kind.Open is untold at session kept opened = by_number call.session at
      (λ same.
      let has = (joined.each slot (unmarked call) there).session.opening is untold in
      let its = some_same session has.session (sym kept ∙ ap (λ (n : ℕ). get tables.sessions n) (sym same) ∙ has.kept) in
      never_both (sym opened ∙ ap (λ (s : Session). s.opened) its ∙ has.is_opened))
      (λ differ. get-remove-other tables.sessions call.session at differ ∙ kept)
  unrun_stay (kind.Invoke func) is untold at session kept opened = kept
  unrun_stay kind.Close is untold at session kept opened = kept
  unrun_stay kind.Settled is untold at session kept opened = kept

  exit_reasons : (granted : ℕ) (progress : Progress) → progress_of tables call granted ≡ Some progress → OnwardReasons boot before slot progress
  exit_reasons granted progress e after changes = exits_all tables call granted (λ (p : Progress). progress_of tables call granted ≡ Some p → OnwardReasons boot before slot p) progress (record {
    left = λ job later is grant its after changes. exit_goes after _ _ (Runs job) changes is refl refl refl (left_destiny granted job later grant) refl refl;
    ends = λ job count end is grant its after changes.
        let holds = its_hold before tables slot call joined there job is in
        let sessions = sessions_after call.kind tables.sessions call.session end.result.result end.context in
        exit_ends after _ _ job holds.instance changes is holds.kept holds.holder refl
        (instances_end sessions tables.instances call.instance end.is_last (given_back end.memory end.objects) holds.instance
        (get tables.instances call.instance) holds.kept (λ instance. refl) (λ instance. refl)).others
        (sessions_end call.kind tables.sessions call.session end.result.result end.context).others
        (λ left kept.
        let back = back_left sessions tables.instances call.instance end.is_last (given_back end.memory end.objects) holds.instance left
        (get tables.instances call.instance) holds.kept kept in
        end_reason granted count job end call.kind holds.instance left refl is grant holds.kept (exit_order tables call granted _ order its).sessions.rising
        back.0 back.1 back.2);
    panics = λ job count code is grant its after changes.
        let holds = its_hold before tables slot call joined there job is in
        let sessions = sessions_after_panic call.kind tables.sessions call.session in
        exit_ends after _ _ job holds.instance changes is holds.kept holds.holder refl
        (instances_end sessions tables.instances call.instance false killed holds.instance
        (get tables.instances call.instance) holds.kept (λ instance. refl) (λ instance. refl)).others
        (sessions_panic call.kind tables.sessions call.session).others
        (λ left kept.
        let back = back_left sessions tables.instances call.instance false killed holds.instance left (get tables.instances call.instance) holds.kept kept in
        inl (opened_there sessions call.instance (exit_order tables call granted _ order its).sessions.rising (dead_opened true _ refl back.2)));
    asks = λ job later count wanted payload is grant its after changes.
        exit_goes after _ _ (Runs job) changes is refl refl refl (asked_destiny granted count job later wanted payload grant) refl refl;
    asked = λ job wanted payload is its after changes. exit_goes after _ _ call.phase changes refl refl refl refl (destiny_same call.phase call.phase refl) refl refl;
    waits = λ params is its after changes. exit_goes after _ _ call.phase changes refl refl refl refl (destiny_same call.phase call.phase refl) refl refl;
    told = λ result params wakes is its after changes. exit_goes after _ _ call.phase changes refl refl refl refl (destiny_same call.phase call.phase refl) refl refl;
    tells = λ result params wakes is its after changes.
        reasons_rest boot before after tables _ slot (Some _) changes reasons _ refl refl refl (unrun_stay call.kind refl (ap is_told is));
  }) e e after changes

-- ---- events

abbrev AfterReasons : Booted → Kernel → Type 0
AfterReasons boot next = AreReasoned boot (unmarked_at next.slots) next.tables

reason_cases : (boot : Booted) (kernel : Kernel) (cpu : ℕ) → Before (unmarked_at kernel.slots) kernel.tables → AreInOrder kernel.tables
    → AreInMemory boot (unmarked_at kernel.slots) kernel.tables → AfterReasons boot kernel → EventCases boot kernel cpu (AfterReasons boot)
reason_cases boot kernel cpu sound order memory reasons = record {
  answered = λ visit answer inside. reasons;
  comes = λ visit slot found bytes inside free lies fits.
      let c = new_call_of boot kernel.tables visit.regs slot found bytes in
      let there = free_there kernel.slots slot free in
      cases_onward c (NewReasons (unmarked_at kernel.slots) c) (λ taken. AfterReasons boot (after_decision kernel visit (Takes slot taken)))
      (λ taken new. new _ (takes_slot kernel.slots taken.cancels slot visit.cpu Free taken.call there))
      (new_reasons (unmarked_at kernel.slots) c (before_pinned (cookie_of found) kernel.tables slot (unmarked_at kernel.slots) sound) (order_pinned (cookie_of found) kernel.tables slot order)
      (ap (λ (o : Option ThreadSlot). option_and_then unmarked_in o) there) (memory_pinned (cookie_of found) kernel.tables slot boot (unmarked_at kernel.slots) memory)
      (reasoned_pinned (cookie_of found) kernel.tables slot boot (unmarked_at kernel.slots) reasons));
  resumes = λ visit call given inside there offered.
      let slot = thread_in visit.regs in
      let taken = resumed_taken boot kernel visit call given in
      resumed_reasons (unmarked_at kernel.slots) (resumed_call boot kernel.tables slot call given) sound.joined order memory reasons (unmarked call)
      (ap (λ (o : Option ThreadSlot). option_and_then unmarked_in o) there) (resumed_on given call) (resumed_destiny given call) _
      (takes_slot kernel.slots taken.cancels slot visit.cpu (Suspended (client_in visit.regs) call) taken.call there);
  told = λ visit answer its fixed. reasons;
  goes = λ visit slot worker call progress its inside there e.
      left slot worker call progress there
      (exit_reasons boot (unmarked_at kernel.slots) kernel.tables slot call sound.joined order reasons (ap (λ (o : Option ThreadSlot). option_and_then unmarked_in o) there)
      visit.steps progress e);
}
  where
    left : (slot worker : ℕ) (call : PendingCall) (progress : Progress) → slice_get kernel.slots slot ≡ Some (Active worker call)
        → OnwardReasons boot (unmarked_at kernel.slots) slot progress
        → AreReasoned boot (unmarked_at (slice_set kernel.slots slot (slot_left progress.call (leaving_of slot progress.call))))
        (tables_left progress.tables slot (slot_left progress.call (leaving_of slot progress.call)))
    left slot worker call progress there onward =
        left_all slot progress.call (λ held. AreReasoned boot (unmarked_at (slice_set kernel.slots slot held)) (tables_left progress.tables slot held))
        within
        (reasons_go boot mid _ progress.tables progress.tables slot _ (from_mid (Suspended progress.call.client (unbuffered progress.call))) within
        (unmarked progress.call) (unmarked (unbuffered progress.call)) changes.here refl refl refl refl
        (destiny_same progress.call.phase progress.call.phase refl) refl (λ at found kept opened. kept))
        (λ result params told is. reasons_still boot mid _ progress.tables (tables_left progress.tables slot Free) slot None (from_mid Free) within refl
        (λ at found kept opened. kept) (λ other job instance none works kept leaving. never_none None other refl none))
      where
        mid : Calls
        mid = unmarked_at (slice_set kernel.slots slot (Suspended progress.call.client progress.call))

        changes : Changes (unmarked_at kernel.slots) mid slot (Some (unmarked progress.call))
        changes = leaves_slot kernel.slots slot (Active worker call) (Suspended progress.call.client progress.call) there

        within : AreReasoned boot mid progress.tables
        within = onward mid changes

        from_mid : (held : ThreadSlot) → Changes mid (unmarked_at (slice_set kernel.slots slot held)) slot (unmarked_in held)
        from_mid held =
            let now = leaves_slot kernel.slots slot (Active worker call) held there in
            record { here = now.here; others = λ other apart. now.others other apart ∙ sym (changes.others other apart) }

first_reasons : (boot : Booted) → AfterReasons boot (first_kernel boot)
first_reasons boot = record {
  free = λ number instance kept none. absurd cc;
  jobs = λ slot call job instance is works kept leaving. absurd cc;
}

pub all_reasoned : (boot : Booted) (history : List Event) (kernel : Kernel) → kernel_after boot history ≡ Some kernel → AfterReasons boot kernel
all_reasoned boot history kernel e =
    holds_along boot (AfterReasons boot) (first_reasons boot) (λ before k cpu there reasons.
    reason_cases boot k cpu (record {
      joined = all_joined boot before k there;
      numbers = numbered boot before k there;
      waiters = waiting boot before k there;
      rising = (in_order boot before k there).instances;
    }) (in_order boot before k there) (all_in_memory boot before k there) reasons) history kernel e
