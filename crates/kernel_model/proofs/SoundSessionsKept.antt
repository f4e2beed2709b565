-- A session that was opened keeps its instance, after each event of a legal history: no other call ends that.
use Rattle.std.proofs.Common.{◌≡◌, ℕ, ◌+◌, Bool, true, false, List, [], ◌∷◌, Option, Some, None, refl, ap, subst, sym, ◌∙◌}
use Rattle.std.specs.Prelude.{All, IsSome, if◌then◌else◌, ◌==◌, ◌&&◌, ◌||◌, not, slice_get, slice_set}
use Rattle.std.specs.List.{list_any}
use Rattle.std.specs.Option.{option_and_then, option_map_or}
use Rattle.std.proofs.lemmas.Bool.Decides.{Decides-eqb}
use Rattle.std.proofs.lemmas.List.Elements.{All-cons, All-nil}
use Rattle.base.specs.NumberMap.{NumberMap, get, insert, remove}
use Rattle.base.proofs.MapLemmas.{All-get}
use Rattle.event_journal.specs.declared.event.Event.{Event}
use Rattle.job_model.specs.Job.{Job}
use Rattle.job_model.specs.Steps.{End, Stopped, grant_of}
use Rattle.job_model.specs.Steps as steps
use Rattle.job_model.specs.declared.call_kind.CallKind.{CallKind}
use Rattle.job_model.specs.declared.call_kind.CallKind.TheVariants as kind
use Rattle.session_table.specs.declared.session.Session.{Session}
use Rattle.session_table.specs.Session.{opened_with}
use Rattle.kernel_model.specs.Application.{Booted, uuid_of}
use Rattle.kernel_model.specs.Argument.{client_in, thread_in}
use Rattle.kernel_model.specs.Codes.{success}
use Rattle.kernel_model.specs.Decision.{Taken, Takes}
use Rattle.kernel_model.specs.Entry.{after_decision}
use Rattle.kernel_model.specs.Exit.{progress_of, slot_left, tables_left}
use Rattle.kernel_model.specs.History.{kernel_after}
use Rattle.kernel_model.specs.Instances.{given_back, held_by, instances_after, killed, made_for}
use Rattle.kernel_model.specs.Kernel.{Active, Asks, CallPhase, Free, Instance, Kernel, PendingCall, Progress, Runs, Suspended, Tables, ThreadSlot, first_kernel}
use Rattle.kernel_model.specs.Leaving.{leaving_of}
use Rattle.kernel_model.specs.Located.{cookie_of}
use Rattle.kernel_model.specs.NewCall.{NewCall, beginner, new_call_of, no_copies, opener}
use Rattle.kernel_model.specs.Resume.{Resumed, onward_of, resumed_call, who_resumes}
use Rattle.kernel_model.specs.Sessions.{has_opened, sessions_after, sessions_after_panic, sessions_unrun}
use Rattle.kernel_model.specs.Sound.{Always, Calls, unmarked_at, unmarked_in, unmarked}
use Rattle.kernel_model.specs.SoundCalls.{AreJoined, is_in_session, job_in}
use Rattle.kernel_model.specs.SoundSessions.{HaveTheirInstances}
use Rattle.kernel_model.proofs.SoundCallsJoined.{all_joined}
use Rattle.kernel_model.proofs.SoundCourses.{KeepsCourse, HoldsOf, OfPlace, answered_course, asked_course, course_both, course_same, granted_on, left_course, resumed_course}
use Rattle.kernel_model.proofs.SoundEndedJoined.{instances_end, sessions_end, sessions_panic}
use Rattle.kernel_model.proofs.SoundEvents.{EventCases, holds_along, resumed_taken}
use Rattle.kernel_model.proofs.SoundExits.{exits_all, left_all, unbuffered}
use Rattle.kernel_model.proofs.SoundJoined.{GoesOn, never_both, never_none, some_same}
use Rattle.kernel_model.proofs.SoundMaps.{get-insert-other, get-insert-same, get-inserted, get-remove-other, get-remove-same, get-removed}
use Rattle.kernel_model.proofs.SoundPinned.{before_pinned}
use Rattle.kernel_model.proofs.SoundNewCalls.{NewCases, cases_onward}
use Rattle.kernel_model.proofs.SoundNewJoined.{Before, gone, awaited_uuids, new_instance, no_job}
use Rattle.kernel_model.proofs.SoundNumbers.{numbered}
use Rattle.kernel_model.proofs.SoundOrder.{in_order}
use Rattle.kernel_model.proofs.SoundReasons.{is_open, leaves}
use Rattle.kernel_model.proofs.SoundReasonsKept.{its_hold, own_session}
use Rattle.kernel_model.proofs.SoundResumedJoined.{resumed_on, session_instance}
use Rattle.kernel_model.proofs.SoundResumes.{opener_of, resumes_all}
use Rattle.kernel_model.proofs.SoundSlots.{Changes, by_number, free_there, leaves_slot, none_at_first, takes_slot}
use Rattle.kernel_model.proofs.SoundSpared.{HasSpared, Spared, closes_spared, invokes_spared, opens_kept_spared, opens_new_spared, spared_on, spared_onward}
use Rattle.kernel_model.proofs.SoundWaiters.{waiting}

-- ---- what is kept up

-- no session of the instance is opened but this one
abbrev IsAlone : NumberMap Session → ℕ → ℕ → Type 0
IsAlone sessions number own =
    (at : ℕ) (session : Session) → get sessions at ≡ Some session → session.opened ≡ true → session.instance ≡ number → own ≡ at

-- the call may end its instance
abbrev MayEnd : NumberMap Session → PendingCall → Type 0
MayEnd sessions call = (leaves call.kind ≡ true) × IsAlone sessions call.instance call.session

-- its job ends it only then
abbrev Sparing : NumberMap Session → PendingCall → OfPlace
Sparing sessions call = Spared (MayEnd sessions call) (is_open call.kind)

abbrev Spares : NumberMap Session → PendingCall → Job → Type 0
Spares sessions call job = HoldsOf (Sparing sessions call) job

record AreSpared (calls : Calls) (tables : Tables) : Type 0 where
  pub kept : HaveTheirInstances tables
  pub jobs : (slot : ℕ) (call : PendingCall) (job : Job) → calls slot ≡ Some call → job_in call.phase ≡ Some job → Spares tables.sessions call job

-- the opened sessions were there
abbrev OpenedWere : NumberMap Session → NumberMap Session → Type 0
OpenedWere before after = (at : ℕ) (session : Session) → get after at ≡ Some session → session.opened ≡ true → get before at ≡ Some session

abbrev InstancesStay : NumberMap Instance → NumberMap Instance → Type 0
InstancesStay before after = (number : ℕ) → IsSome (get before number) → IsSome (get after number)

-- ---- opened sessions

fails_all : {X : Type 0} (test : X → Bool) (xs : List X) → list_any test xs ≡ false → All (λ x. test x ≡ false) xs
fails_all test [] e = All-nil (λ x. test x ≡ false)
fails_all {X} test (first ∷ xs) e = by_test (test first) refl (fails_all test xs) e
  where
    by_test : (b : Bool) → test first ≡ b → (list_any test xs ≡ false → All (λ x. test x ≡ false) xs) → (b || list_any test xs) ≡ false
        → All (λ x. test x ≡ false) (first ∷ xs)
    by_test true is rest none = absurd cc
    by_test false is rest none = All-cons (λ x. test x ≡ false) first xs is (rest none)

-- where no session of the instance is opened, none is
none_opened : {P : Type 0} (sessions : NumberMap Session) (number at : ℕ) (session : Session) → has_opened sessions number ≡ false
    → get sessions at ≡ Some session → session.opened ≡ true → session.instance ≡ number → P
none_opened sessions number at session none kept opened on =
    let fails = All-get (λ (k : ℕ × Session). ((k.1.instance == number) && k.1.opened) ≡ false) sessions at session
    (fails_all (λ (k : ℕ × Session). (k.1.instance == number) && k.1.opened) sessions none) kept in
    never_both (sym (both (session.instance == number) session.opened ((Decides-eqb session.instance number).1 on) opened) ∙ fails)
  where
    both : (one other : Bool) → one ≡ true → other ≡ true → (one && other) ≡ true
    both true other is so = so
    both false other is so = absurd cc

any_opened : (sessions : NumberMap Session) (number at : ℕ) (session : Session) → get sessions at ≡ Some session → session.opened ≡ true
    → session.instance ≡ number → has_opened sessions number ≡ true
any_opened sessions number at session kept opened on = by_test (has_opened sessions number) refl
  where
    by_test : (test : Bool) → has_opened sessions number ≡ test → test ≡ true
    by_test true is = refl
    by_test false is = none_opened sessions number at session is kept opened on

none_alone : (sessions : NumberMap Session) (number own : ℕ) → has_opened sessions number ≡ false → IsAlone sessions number own
none_alone sessions number own none at session kept opened on = none_opened sessions number at session none kept opened on

-- without one's own none is opened
other_alone : (sessions : NumberMap Session) (number own : ℕ) → has_opened (remove sessions own) number ≡ false → IsAlone sessions number own
other_alone sessions number own none at session kept opened on = by_number own at (λ same. same)
    (λ apart. none_opened (remove sessions own) number at session none (get-remove-other sessions own at apart ∙ kept) opened on)

-- one whose instance is gone has no opened session
gone_alone : (tables : Tables) (number own : ℕ) → HaveTheirInstances tables → get tables.instances number ≡ None → IsAlone tables.sessions number own
gone_alone tables number own kept none at session there opened on =
    never_some (get tables.instances number) none (subst (λ (n : ℕ). IsSome (get tables.instances n)) on (kept at session there opened))
  where
    never_some : {P : Type 0} (o : Option Instance) → o ≡ None → IsSome o → P
    never_some None e some = absurd cc
    never_some (Some instance) e some = absurd cc

may_still : (before after : NumberMap Session) (call : PendingCall) → OpenedWere before after → MayEnd before call → MayEnd after call
may_still before after call were may = (may.0, λ at session kept opened on. may.1 at session (were at session kept opened) opened on)

spares_more : (before after : NumberMap Session) (call : PendingCall) (job : Job) → (MayEnd before call → MayEnd after call) → Spares before call job
    → Spares after call job
spares_more before after call job onward so = spared_onward (MayEnd before call) (MayEnd after call) (is_open call.kind) onward _ job.points job.result so

instances_insert : (instances : NumberMap Instance) (number : ℕ) (its : Instance) → InstancesStay instances (insert instances number its)
instances_insert instances number its at there = by_number number at
    (λ same. subst (λ (n : ℕ). IsSome (get (insert instances number its) n)) same
    (subst (λ (o : Option Instance). IsSome o) (sym (get-insert-same instances number its)) refl))
    (λ apart. subst (λ (o : Option Instance). IsSome o) (sym (get-insert-other instances number its at apart)) there)

instances_same : (before after : NumberMap Instance) → after ≡ before → InstancesStay before after
instances_same before after same number there = subst (λ (m : NumberMap Instance). IsSome (get m number)) (sym same) there

-- ---- one call changes

module _ (before after : Calls) (tables now : Tables) (slot : ℕ) (held : Option PendingCall) (changes : Changes before after slot held)
    (spared : AreSpared before tables) where
  mine : (at : ℕ) (call : PendingCall) → slot ≡ at → after at ≡ Some call → held ≡ Some call
  mine at call same is = sym changes.here ∙ ap after same ∙ is

  theirs : (at : ℕ) (call : PendingCall) → (slot ≡ at → ⊥) → after at ≡ Some call → before at ≡ Some call
  theirs at call differ is = sym (changes.others at differ) ∙ is

  -- no session is opened, and all instances stay
  spared_still : OpenedWere tables.sessions now.sessions → InstancesStay tables.instances now.instances
      → ((call : PendingCall) (job : Job) → held ≡ Some call → job_in call.phase ≡ Some job → Spares now.sessions call job) → AreSpared after now
  spared_still were stay its = record {
    kept = λ at session kept opened. stay session.instance (spared.kept at session (were at session kept opened) opened);
    jobs = λ at call job is works. by_number slot at
        (λ here. its call job (mine at call here is) works)
        (λ differ. spares_more tables.sessions now.sessions call job (may_still tables.sessions now.sessions call were)
        (spared.jobs at call job (theirs at call differ is) works));
  }

  -- a call without a job
  spared_rest : (call : PendingCall) → held ≡ Some call → job_in call.phase ≡ None → OpenedWere tables.sessions now.sessions
      → now.instances ≡ tables.instances → AreSpared after now
  spared_rest call is rests were same = spared_still were (instances_same tables.instances now.instances same)
      (λ other job its works. no_job job (sym rests ∙ ap (λ (c : PendingCall). job_in c.phase) (some_same call other (sym is ∙ its)) ∙ works))

  -- a call begins
  spared_begin : (call : PendingCall) (its : Instance) (job : Job) → held ≡ Some call → now.instances ≡ insert tables.instances call.instance its
      → job_in call.phase ≡ Some job → OpenedWere tables.sessions now.sessions → Spares now.sessions call job → AreSpared after now
  spared_begin call its job is instances works were so = spared_still were
      (subst (λ (m : NumberMap Instance). InstancesStay tables.instances m) (sym instances) (instances_insert tables.instances call.instance its))
      (λ other next same does.
      let one = some_same call other (sym is ∙ same) in
      let jobs = some_same job next (sym works ∙ ap (λ (c : PendingCall). job_in c.phase) one ∙ does) in
      subst (λ (c : PendingCall). Spares now.sessions c next) one (subst (λ (j : Job). Spares now.sessions call j) jobs so))

  -- a call that goes on
  spared_go : (was call : PendingCall) → before slot ≡ Some was → held ≡ Some call → call.instance ≡ was.instance → call.session ≡ was.session
      → call.kind ≡ was.kind
      → KeepsCourse (Sparing tables.sessions was) was.phase call.phase → now.instances ≡ tables.instances
      → OpenedWere tables.sessions now.sessions → AreSpared after now
  spared_go was call there is instance session of_kind keeps same were = spared_still were (instances_same tables.instances now.instances same)
      (λ other job its works.
      let one = some_same call other (sym is ∙ its) in
      let old = keeps job (ap (λ (c : PendingCall). job_in c.phase) one ∙ works) in
      let so = old.2 (spared.jobs slot was old.0 there old.1) in
      subst (λ (c : PendingCall). Spares now.sessions c job) one
      (subst (λ (k : CallKind). HoldsOf (Spared (MayEnd now.sessions call) (is_open k)) job) (sym of_kind)
      (spared_onward (MayEnd tables.sessions was) (MayEnd now.sessions call) (is_open was.kind) onward _ job.points job.result so)))
    where
      onward : MayEnd tables.sessions was → MayEnd now.sessions call
      onward may = (
        ap leaves of_kind ∙ may.0,
        λ at found kept opened on. session ∙ may.1 at found (were at found kept opened) opened (on ∙ instance),
      )

  -- the end of a call
  spared_end : (was : PendingCall) (job : Job) (own : Instance) → before slot ≡ Some was → ((call : PendingCall) → held ≡ Some call → job_in call.phase ≡ None)
      → AreJoined before tables → get tables.instances was.instance ≡ Some own → own.holder ≡ Some slot
      → ((other : ℕ) → (was.session ≡ other → ⊥) → get now.sessions other ≡ get tables.sessions other)
      → ((other : ℕ) → (was.instance ≡ other → ⊥) → get now.instances other ≡ get tables.instances other)
      → ((session : Session) → get now.sessions was.session ≡ Some session → session.instance ≡ was.instance)
      → ((at : ℕ) (session : Session) → get now.sessions at ≡ Some session → session.opened ≡ true → session.instance ≡ was.instance
      → IsSome (get now.instances was.instance))
      → AreSpared after now
  spared_end was job own there idle joined kept holder sessions instances its stays = record {
    kept = λ at session is opened. by_number was.instance session.instance
        (λ same. subst (λ (n : ℕ). IsSome (get now.instances n)) same (stays at session is opened (sym same)))
        (λ apart. by_number was.session at
        (λ own_one. absurd (apart (sym (its session (ap (λ (n : ℕ). get now.sessions n) own_one ∙ is)))))
        (λ differ. subst (λ (o : Option Instance). IsSome o) (sym (instances session.instance apart))
        (spared.kept at session (sym (sessions at differ) ∙ is) opened)));
    jobs = λ at call other is works. by_number slot at
        (λ here. no_job other (sym (idle call (mine at call here is)) ∙ works))
        (λ differ.
        let old = theirs at call differ is in
        let holds = (joined.each at call old).instance.working other works in
        let apart : was.instance ≡ call.instance → ⊥ = λ same.
        differ (some_same slot at (sym holder ∙ ap (λ (i : Instance). i.holder) (some_same own holds.instance
        (sym kept ∙ ap (λ (n : ℕ). get tables.instances n) same ∙ holds.kept)) ∙ holds.holder)) in
        spares_more tables.sessions now.sessions call other (onward call apart) (spared.jobs at call other old works));
  }
    where
      onward : (call : PendingCall) → (was.instance ≡ call.instance → ⊥) → MayEnd tables.sessions call → MayEnd now.sessions call
      onward call apart may = (
        may.0,
        λ at session is opened on. by_number was.session at
            (λ own_one. absurd (apart (sym (its session (ap (λ (n : ℕ). get now.sessions n) own_one ∙ is)) ∙ on)))
            (λ differ. may.1 at session (sym (sessions at differ) ∙ is) opened on),
      )

-- ---- new calls

abbrev NewSpared : Calls → NewCall → Taken → Type 0
NewSpared before c taken = (after : Calls) → Changes before after c.slot (Some (unmarked taken.call)) → AreSpared after taken.tables

module _ (before : Calls) (c : NewCall) (sound : Before before c.tables) (free : before c.slot ≡ None) (spared : AreSpared before c.tables) where
  all_were : OpenedWere c.tables.sessions c.tables.sessions
  all_were at session kept opened = kept

  rests : (after : Calls) (now : Tables) (call : PendingCall) → Changes before after c.slot (Some call) → job_in call.phase ≡ None
      → now.instances ≡ c.tables.instances → OpenedWere c.tables.sessions now.sessions → AreSpared after now
  rests after now call changes idle same were = spared_rest before after c.tables now c.slot (Some call) changes spared call refl idle were same

  -- the session that an open gets isn't opened yet
  reserved_were : (now : NumberMap Session) (reserved : Session) → reserved.opened ≡ false → now ≡ insert c.tables.sessions c.tables.next_session reserved
      → OpenedWere c.tables.sessions now
  reserved_were now reserved closed same at session kept opened =
      get-inserted c.tables.sessions c.tables.next_session reserved at session (ap (λ (m : NumberMap Session). get m at) (sym same) ∙ kept)
      (λ here is. never_both (sym opened ∙ ap (λ (s : Session). s.opened) (sym is) ∙ closed)) (λ apart there. there)

  opens_so : (after : Calls) (now : Tables) (call : PendingCall) (its : Instance) (job : Job) (reserved : Session)
      → Changes before after c.slot (Some call) → now.sessions ≡ insert c.tables.sessions c.tables.next_session reserved → reserved.opened ≡ false
      → now.instances ≡ insert c.tables.instances call.instance its → job_in call.phase ≡ Some job → call.kind ≡ kind.Open
      → HoldsOf (Spared (IsAlone c.tables.sessions call.instance call.session) true) job → AreSpared after now
  opens_so after now call its job reserved changes sessions closed instances works opening so =
      spared_begin before after c.tables now c.slot (Some call) changes spared call its job refl instances works were
      (subst (λ (k : CallKind). HoldsOf (Spared (MayEnd now.sessions call) (is_open k)) job) (sym opening)
      (spared_onward (IsAlone c.tables.sessions call.instance call.session) (MayEnd now.sessions call) true
      (λ alone. (ap leaves opening, λ at session kept opened on. alone at session (were at session kept opened) opened on)) _ job.points job.result so))
    where
      were : OpenedWere c.tables.sessions now.sessions
      were = reserved_were now.sessions reserved closed sessions

  new_spared : NewCases c (NewSpared before c)
  new_spared = record {
    settles = λ code after changes. rests after _ _ changes refl refl all_were;
    settles_open = λ app login code after changes. rests after _ _ changes refl refl all_were;
    settles_invoke = λ named code is after changes. rests after _ _ changes refl refl all_were;
    cancels = λ named is after changes. rests after _ _ changes refl refl all_were;
    registers = λ param pages new room good after changes. rests after _ _ changes refl refl all_were;
    unregisters = λ param unpinned after changes. rests after _ _ changes refl refl all_were;
    opens_kept = λ wanted app copies copied kept shown shared unheld after changes.
        opens_so after _ _ (held_by c.slot kept.1) _ _ changes refl refl refl refl refl
        (opens_kept_spared (IsAlone c.tables.sessions kept.0 c.tables.next_session) (beginner c) (opener wanted app copies) kept
        (none_alone c.tables.sessions kept.0 c.tables.next_session));
    opens_awaited = λ wanted app copies copied number shown shared waits after changes.
        let waiter = awaited_uuids before c sound free app number waits in
        let none = nothing (get c.tables.instances number) (λ instance its. gone before c sound free app number waiter.0 waiter.1 waiter.2 waiter.3 waiter.4 waiter.5
        ((sound.joined.each waiter.1 waiter.0 waiter.2).instance.settled waiter.6) shared instance its) in
        opens_so after _ _ (made_for (uuid_of app) c.slot) _ _ changes refl refl refl refl refl
        (opens_new_spared (IsAlone c.tables.sessions number c.tables.next_session) (beginner c) (opener wanted app copies) number c.tables.next_instance
        (gone_alone c.tables number c.tables.next_session spared.kept none));
    opens_next = λ wanted app copies copied shown shared waits after changes.
        opens_so after _ _ (made_for (uuid_of app) c.slot) _ _ changes refl refl refl refl refl
        (opens_new_spared (IsAlone c.tables.sessions c.tables.next_instance c.tables.next_session) (beginner c) (opener wanted app copies) c.tables.next_instance
        (c.tables.next_instance + 1)
        (gone_alone c.tables c.tables.next_instance c.tables.next_session spared.kept (new_instance before c sound free c.tables.next_instance refl)));
    open_waits = λ wanted app copies copied kept shown shared held after changes. rests after _ _ changes refl refl (reserved_were _ _ refl refl);
    invokes = λ named copies copied is alive unheld after changes.
        spared_begin before after c.tables _ c.slot (Some _) changes spared _ (held_by c.slot named.1) _ refl refl refl all_were
        (invokes_spared _ (beginner c) false named.0 named.1 copies.params c.head.func);
    invoke_waits = λ named copies copied is alive held after changes. rests after _ _ changes refl refl all_were;
    closes = λ named is unheld after changes.
        spared_begin before after c.tables _ c.slot (Some _) changes spared _ (held_by c.slot named.1) _ refl refl refl all_were
        (closes_spared _ (beginner c) c.head.session named.0 named.1 no_copies.params
        (λ none. (refl, other_alone c.tables.sessions named.0.instance c.head.session none)));
    close_waits = λ named is held after changes. rests after _ _ changes refl refl all_were;
  }
    where
      nothing : (o : Option Instance) → ((instance : Instance) → o ≡ Some instance → ⊥) → o ≡ None
      nothing None never = refl
      nothing (Some instance) never = absurd (never instance refl)

-- ---- resumes

abbrev OnwardSpared : Calls → ℕ → Progress → Type 0
OnwardSpared before slot progress = (after : Calls) → Changes before after slot (Some (unmarked progress.call)) → AreSpared after progress.tables

module _ (before : Calls) (r : Resumed) (joined : AreJoined before r.tables) (spared : AreSpared before r.tables) (was : PendingCall)
    (there : before r.slot ≡ Some was) (on : GoesOn was r.call)
    (keeps : KeepsCourse (Sparing r.tables.sessions was) was.phase r.call.phase) where
  -- what has to hold where its instance is to end
  abbrev Course : CallPhase → CallPhase → Type 0
  Course phase next = KeepsCourse (Sparing r.tables.sessions was) phase next

  still_were : (now : NumberMap Session) → now ≡ r.tables.sessions → OpenedWere r.tables.sessions now
  still_were now same at session kept opened = ap (λ (m : NumberMap Session). get m at) (sym same) ∙ kept

  goes_so : (after : Calls) (now : Tables) (call : PendingCall) (phase : CallPhase) → Changes before after r.slot (Some call) → r.call.phase ≡ phase
      → call.instance ≡ r.call.instance → call.session ≡ r.call.session → call.kind ≡ r.call.kind → Course phase call.phase
      → now.instances ≡ r.tables.instances → now.sessions ≡ r.tables.sessions → AreSpared after now
  goes_so after now call phase changes is instance session of_kind same instances sessions =
      spared_go before after r.tables now r.slot (Some call) changes spared was call there refl (instance ∙ on.instance) (session ∙ on.session)
      (of_kind ∙ on.of_kind)
      (course_both (Sparing r.tables.sessions was) was.phase r.call.phase call.phase keeps
      (subst (λ (p : CallPhase). Course p call.phase) (sym is) same)) instances (still_were now.sessions sessions)

  idles_so : (after : Calls) (now : Tables) (call : PendingCall) → Changes before after r.slot (Some call) → job_in call.phase ≡ None
      → now.instances ≡ r.tables.instances → now.sessions ≡ r.tables.sessions → AreSpared after now
  idles_so after now call changes idle same sessions =
      spared_rest before after r.tables now r.slot (Some call) changes spared call refl idle (still_were now.sessions sessions) same

  begins_so : (after : Calls) (now : Tables) (call : PendingCall) (its : Instance) (job : Job) (opening : Bool) → Changes before after r.slot (Some call)
      → now.sessions ≡ r.tables.sessions → now.instances ≡ insert r.tables.instances call.instance its → job_in call.phase ≡ Some job
      → is_open call.kind ≡ opening → HoldsOf (Spared (MayEnd r.tables.sessions call) opening) job → AreSpared after now
  begins_so after now call its job opening changes sessions instances works opens so =
      spared_begin before after r.tables now r.slot (Some call) changes spared call its job refl instances works (still_were now.sessions sessions)
      (spares_more r.tables.sessions now.sessions call job
      (may_still r.tables.sessions now.sessions call (still_were now.sessions sessions))
      (subst (λ (b : Bool). HoldsOf (Spared (MayEnd r.tables.sessions call) b) job) (sym opens) so))

  resumed_spared : OnwardSpared before r.slot (onward_of r)
  resumed_spared = resumes_all r (OnwardSpared before r.slot) (record {
    runs = λ job is after changes. goes_so after _ _ (Runs job) changes is refl refl refl (course_same (Sparing r.tables.sessions was) (Runs job) (Runs job) refl) refl refl;
    asks_still = λ job wanted payload is after changes.
        goes_so after _ _ (Asks job wanted payload) changes is refl refl refl (course_same (Sparing r.tables.sessions was) (Asks job wanted payload) (Asks job wanted payload) refl) refl refl;
    answered = λ job wanted payload answer advance is e after changes.
        goes_so after _ _ (Asks job wanted payload) changes is refl refl refl
        (answered_course (Sparing r.tables.sessions was) _ (spared_on (MayEnd r.tables.sessions was) (is_open was.kind)) job wanted payload answer advance e) refl refl;
    ends = λ result params told wakes left is after changes. idles_so after _ _ changes refl refl refl;
    fails = λ params code is after changes. idles_so after _ _ changes refl refl refl;
    sleeps = λ params is after changes. idles_so after _ _ changes refl refl refl;
    opens = λ params session app instance ready alive opening is after changes.
        begins_so after _ _ (held_by r.slot instance) _ true changes refl refl refl (ap is_open opening)
        (opens_kept_spared _ (who_resumes r) (opener_of app session params) (r.call.instance, instance)
        (λ none. (ap leaves opening, none_alone r.tables.sessions r.call.instance r.call.session none)));
    opens_new = λ params session app awake none opening is pages after changes.
        begins_so after _ _ (made_for (uuid_of app) r.slot) _ true changes refl refl refl (ap is_open opening)
        (opens_new_spared _ (who_resumes r) (opener_of app session params) r.call.instance r.tables.next_instance
        (ap leaves opening, gone_alone r.tables r.call.instance r.call.session spared.kept none));
    invokes = λ params session instance func ready alive is after changes.
        begins_so after _ _ (held_by r.slot instance) _ false changes refl
        (ap (λ (n : ℕ). insert r.tables.instances n (held_by r.slot instance)) (session_instance before r joined was there on session ready.awake.kept (ap is_in_session is)))
        refl (ap is_open is) (invokes_spared _ (who_resumes r) false session instance params func);
    closes = λ params session instance ready is after changes.
        let same = session_instance before r joined was there on session ready.awake.kept (ap is_in_session is) in
        begins_so after _ _ (held_by r.slot instance) _ false changes refl
        (ap (λ (n : ℕ). insert r.tables.instances n (held_by r.slot instance)) same)
        refl (ap is_open is) (closes_spared _ (who_resumes r) r.call.session session instance params
        (λ none. (
          ap leaves is,
          subst (λ (n : ℕ). IsAlone r.tables.sessions n r.call.session) same
              (other_alone r.tables.sessions session.instance r.call.session none),
        )));
  })

-- ---- exits

-- an instance that was given back stays where one of its sessions is opened
back_stays : (sessions : NumberMap Session) (instances : NumberMap Instance) (number : ℕ) (is_last : Bool) (change : Instance → Instance) (held : Instance)
    (found : Option Instance) → found ≡ Some held → is_last ≡ false → has_opened sessions number ≡ true
    → IsSome (get (option_map_or (λ (instance : Instance). instances_after sessions instances number is_last (change instance)) found instances) number)
back_stays sessions instances number is_last change held None is stays opened = never_none None held refl is
back_stays sessions instances number is_last change held (Some instance) is stays opened =
    by_test is_last (has_opened sessions number) (change instance).dead stays opened
  where
    by_test : (one other dead : Bool) → one ≡ false → other ≡ true
        → IsSome (get (if one || (dead && not other) then remove instances number else insert instances number (change instance)) number)
    by_test true other dead e f = absurd cc
    by_test false false dead e f = absurd cc
    by_test false true true e f = subst (λ (o : Option Instance). IsSome o) (sym (get-insert-same instances number (change instance))) refl
    by_test false true false e f = subst (λ (o : Option Instance). IsSome o) (sym (get-insert-same instances number (change instance))) refl

module _ (before : Calls) (tables : Tables) (slot : ℕ) (call : PendingCall) (joined : AreJoined before tables) (spared : AreSpared before tables)
    (there : before slot ≡ Some (unmarked call)) where
  abbrev CourseOf : CallPhase → CallPhase → Type 0
  CourseOf phase next = KeepsCourse (Sparing tables.sessions call) phase next

  exit_goes : (after : Calls) (now : Tables) (left : PendingCall) (phase : CallPhase) → Changes before after slot (Some left) → call.phase ≡ phase
      → left.instance ≡ call.instance → left.session ≡ call.session → left.kind ≡ call.kind → CourseOf phase left.phase
      → now.instances ≡ tables.instances → now.sessions ≡ tables.sessions → AreSpared after now
  exit_goes after now left phase changes is instance session of_kind same instances sessions =
      spared_go before after tables now slot (Some left) changes spared (unmarked call) left there refl instance session of_kind
      (subst (λ (p : CallPhase). CourseOf p left.phase) (sym is) same) instances
      (λ at found kept opened. ap (λ (m : NumberMap Session). get m at) (sym sessions) ∙ kept)

  -- the session of a call that ends is on its instance still
  own_after : (k : CallKind) (job : Job) (result context : ℕ) → call.kind ≡ k → call.phase ≡ Runs job → (session : Session)
      → get (sessions_after k tables.sessions call.session result context) call.session ≡ Some session → session.instance ≡ call.instance
  own_after kind.Open job result context is runs session kept = by_result (result == success) (get tables.sessions call.session) refl kept
    where
      by_result : (test : Bool) (found : Option Session) → get tables.sessions call.session ≡ found
          → get (if test then option_map_or (λ s. insert tables.sessions call.session (opened_with s context)) found tables.sessions
          else remove tables.sessions call.session) call.session ≡ Some session → session.instance ≡ call.instance
      by_result false found its here = never_none _ session (get-remove-same tables.sessions call.session) here
      by_result true None its here = never_none _ session its here
      by_result true (Some was) its here =
          ap (λ (s : Session). s.instance) (some_same session (opened_with was context)
          (sym here ∙ get-insert-same tables.sessions call.session (opened_with was context)))
          ∙ own_session before tables slot call joined there kind.Open job is runs was its
  own_after (kind.Invoke func) job result context is runs session kept = own_session before tables slot call joined there (kind.Invoke func) job is runs session kept
  own_after kind.Close job result context is runs session kept = never_none _ session (get-remove-same tables.sessions call.session) kept
  own_after kind.Settled job result context is runs session kept = own_session before tables slot call joined there kind.Settled job is runs session kept

  own_panic : (k : CallKind) (job : Job) → call.kind ≡ k → call.phase ≡ Runs job → (session : Session)
      → get (sessions_after_panic k tables.sessions call.session) call.session ≡ Some session → session.instance ≡ call.instance
  own_panic kind.Open job is runs session kept = never_none _ session (get-remove-same tables.sessions call.session) kept
  own_panic (kind.Invoke func) job is runs session kept = own_session before tables slot call joined there (kind.Invoke func) job is runs session kept
  own_panic kind.Close job is runs session kept = never_none _ session (get-remove-same tables.sessions call.session) kept
  own_panic kind.Settled job is runs session kept = own_session before tables slot call joined there kind.Settled job is runs session kept

  -- where it ends the instance, no session of it stays opened
  last_alone : (k : CallKind) (end : End) (at : ℕ) (session : Session) → call.kind ≡ k → HasSpared (MayEnd tables.sessions call) (is_open call.kind) end
      → end.is_last ≡ true → get (sessions_after k tables.sessions call.session end.result.result end.context) at ≡ Some session
      → session.opened ≡ true → session.instance ≡ call.instance → ⊥
  last_alone (kind.Invoke func) end at session is so last kept opened on = never_both (sym (so last).0.0 ∙ ap leaves is)
  last_alone kind.Settled end at session is so last kept opened on = never_both (sym (so last).0.0 ∙ ap leaves is)
  last_alone kind.Close end at session is so last kept opened on =
      let was = get-removed tables.sessions call.session at session kept in
      was.0 ((so last).0.1 at session was.1 opened on)
  last_alone kind.Open end at session is so last kept opened on = by_result (end.result.result == success) refl kept
    where
      by_result : (test : Bool) → (end.result.result == success) ≡ test
          → get (if test then option_map_or (λ s. insert tables.sessions call.session (opened_with s end.context)) (get tables.sessions call.session) tables.sessions
          else remove tables.sessions call.session) at ≡ Some session → ⊥
      by_result true good here = (so last).1 (ap is_open is) ((Decides-eqb end.result.result success).0 good)
      by_result false other here =
          let was = get-removed tables.sessions call.session at session here in
          was.0 ((so last).0.1 at session was.1 opened on)

  lasts_not : (end : End) (at : ℕ) (session : Session) → HasSpared (MayEnd tables.sessions call) (is_open call.kind) end
      → get (sessions_after call.kind tables.sessions call.session end.result.result end.context) at ≡ Some session
      → session.opened ≡ true → session.instance ≡ call.instance → end.is_last ≡ false
  lasts_not end at session so kept opened on = by_test end.is_last refl
    where
      by_test : (test : Bool) → end.is_last ≡ test → test ≡ false
      by_test true last = absurd (last_alone call.kind end at session refl so last kept opened on)
      by_test false last = refl

  unrun_were : (k : CallKind) → OpenedWere tables.sessions (sessions_unrun k tables.sessions call.session)
  unrun_were kind.Open at session kept opened = (get-removed tables.sessions call.session at session kept).1
  unrun_were (kind.Invoke func) at session kept opened = kept
  unrun_were kind.Close at session kept opened = kept
  unrun_were kind.Settled at session kept opened = kept

  ended_spared : (granted used : ℕ) (job : Job) (end : End) → call.phase ≡ Runs job → grant_of granted job ≡ Some (Stopped used (steps.Ends end))
      → HasSpared (MayEnd tables.sessions call) (is_open call.kind) end
  ended_spared granted used job end is grant =
      granted_on (Sparing tables.sessions call) (HasSpared (MayEnd tables.sessions call) (is_open call.kind))
      (spared_on (MayEnd tables.sessions call) (is_open call.kind)) granted job (Stopped used (steps.Ends end))
      (spared.jobs slot (unmarked call) job there (ap job_in is)) grant

  exit_spared : (granted : ℕ) (progress : Progress) → progress_of tables call granted ≡ Some progress → OnwardSpared before slot progress
  exit_spared granted progress e = exits_all tables call granted (OnwardSpared before slot) progress (record {
    left = λ job later is grant after changes. exit_goes after _ _ (Runs job) changes is refl refl refl
        (left_course _ _ (spared_on (MayEnd tables.sessions call) (is_open call.kind)) granted job later grant) refl refl;
    ends = λ job count end is grant after changes.
        let holds = its_hold before tables slot call joined there job is in
        let sessions = sessions_after call.kind tables.sessions call.session end.result.result end.context in
        spared_end before after tables _ slot (Some _) changes spared (unmarked call) job holds.instance there (idle _ refl) joined holds.kept holds.holder
        (sessions_end call.kind tables.sessions call.session end.result.result end.context).others
        (instances_end sessions tables.instances call.instance end.is_last (given_back end.memory end.objects) holds.instance
        (get tables.instances call.instance) holds.kept (λ instance. refl) (λ instance. refl)).others
        (own_after call.kind job end.result.result end.context refl is)
        (λ at session kept opened on. back_stays sessions tables.instances call.instance end.is_last (given_back end.memory end.objects) holds.instance
        (get tables.instances call.instance) holds.kept (lasts_not end at session (ended_spared granted count job end is grant) kept opened on)
        (any_opened sessions call.instance at session kept opened on));
    panics = λ job count code is grant after changes.
        let holds = its_hold before tables slot call joined there job is in
        let sessions = sessions_after_panic call.kind tables.sessions call.session in
        spared_end before after tables _ slot (Some _) changes spared (unmarked call) job holds.instance there (idle _ refl) joined holds.kept holds.holder
        (sessions_panic call.kind tables.sessions call.session).others
        (instances_end sessions tables.instances call.instance false killed holds.instance
        (get tables.instances call.instance) holds.kept (λ instance. refl) (λ instance. refl)).others
        (own_panic call.kind job refl is)
        (λ at session kept opened on. back_stays sessions tables.instances call.instance false killed holds.instance
        (get tables.instances call.instance) holds.kept refl (any_opened sessions call.instance at session kept opened on));
    asks = λ job later count wanted payload is grant after changes. exit_goes after _ _ (Runs job) changes is refl refl refl
        (asked_course _ _ (spared_on (MayEnd tables.sessions call) (is_open call.kind)) granted count job later wanted payload grant) refl refl;
    asked = λ job wanted payload is after changes. exit_goes after _ _ call.phase changes refl refl refl refl (course_same (Sparing tables.sessions call) call.phase call.phase refl) refl refl;
    waits = λ params is after changes. exit_goes after _ _ call.phase changes refl refl refl refl (course_same (Sparing tables.sessions call) call.phase call.phase refl) refl refl;
    told = λ result params wakes is after changes. exit_goes after _ _ call.phase changes refl refl refl refl (course_same (Sparing tables.sessions call) call.phase call.phase refl) refl refl;
    tells = λ result params wakes is after changes. spared_rest before after tables _ slot (Some _) changes spared _ refl refl (unrun_were call.kind) refl;
  }) e
    where
      idle : (left : PendingCall) → job_in left.phase ≡ None → (other : PendingCall) → Some left ≡ Some other → job_in other.phase ≡ None
      idle left rests other same = ap (λ (c : PendingCall). job_in c.phase) (sym (some_same left other same)) ∙ rests

-- ---- events

abbrev AfterSpared : Kernel → Type 0
AfterSpared next = AreSpared (unmarked_at next.slots) next.tables

spared_cases : (boot : Booted) (kernel : Kernel) (cpu : ℕ) → Before (unmarked_at kernel.slots) kernel.tables → AfterSpared kernel
    → EventCases boot kernel cpu AfterSpared
spared_cases boot kernel cpu sound spared = record {
  answered = λ visit answer inside. spared;
  comes = λ visit slot found bytes inside free lies fits.
      let c = new_call_of boot kernel.tables visit.regs slot found bytes in
      let there = free_there kernel.slots slot free in
      cases_onward c (NewSpared (unmarked_at kernel.slots) c) (λ taken. AfterSpared (after_decision kernel visit (Takes slot taken)))
      (λ taken new. new _ (takes_slot kernel.slots taken.cancels slot visit.cpu Free taken.call there))
      (new_spared (unmarked_at kernel.slots) c (before_pinned (cookie_of found) kernel.tables slot (unmarked_at kernel.slots) sound)
      (ap (λ (o : Option ThreadSlot). option_and_then unmarked_in o) there) (record { kept = spared.kept; jobs = spared.jobs }));
  resumes = λ visit call given inside there offered.
      let slot = thread_in visit.regs in
      let taken = resumed_taken boot kernel visit call given in
      resumed_spared (unmarked_at kernel.slots) (resumed_call boot kernel.tables slot call given) sound.joined spared (unmarked call)
      (ap (λ (o : Option ThreadSlot). option_and_then unmarked_in o) there) (resumed_on given call) (resumed_course (Sparing kernel.tables.sessions call) given call) _
      (takes_slot kernel.slots taken.cancels slot visit.cpu (Suspended (client_in visit.regs) call) taken.call there);
  told = λ visit answer its fixed. spared;
  goes = λ visit slot worker call progress its inside there e.
      left slot worker call progress there
      (exit_spared (unmarked_at kernel.slots) kernel.tables slot call sound.joined spared (ap (λ (o : Option ThreadSlot). option_and_then unmarked_in o) there)
      visit.steps progress e);
}
  where
    left : (slot worker : ℕ) (call : PendingCall) (progress : Progress) → slice_get kernel.slots slot ≡ Some (Active worker call)
        → OnwardSpared (unmarked_at kernel.slots) slot progress
        → AreSpared (unmarked_at (slice_set kernel.slots slot (slot_left progress.call (leaving_of slot progress.call))))
        (tables_left progress.tables slot (slot_left progress.call (leaving_of slot progress.call)))
    left slot worker call progress there onward =
        left_all slot progress.call (λ held. AreSpared (unmarked_at (slice_set kernel.slots slot held)) (tables_left progress.tables slot held))
        within
        (spared_go mid _ progress.tables progress.tables slot _ (from_mid (Suspended progress.call.client (unbuffered progress.call))) within
        (unmarked progress.call) (unmarked (unbuffered progress.call)) changes.here refl refl refl refl
        (course_same (Sparing progress.tables.sessions progress.call) progress.call.phase progress.call.phase refl) refl (λ at found kept opened. kept))
        (λ result params told is. spared_still mid _ progress.tables (tables_left progress.tables slot Free) slot None (from_mid Free) within
        (λ at found kept opened. kept) (λ number kept. kept) (λ other job none works. never_none None other refl none))
      where
        mid : Calls
        mid = unmarked_at (slice_set kernel.slots slot (Suspended progress.call.client progress.call))

        changes : Changes (unmarked_at kernel.slots) mid slot (Some (unmarked progress.call))
        changes = leaves_slot kernel.slots slot (Active worker call) (Suspended progress.call.client progress.call) there

        within : AreSpared mid progress.tables
        within = onward mid changes

        from_mid : (held : ThreadSlot) → Changes mid (unmarked_at (slice_set kernel.slots slot held)) slot (unmarked_in held)
        from_mid held =
            let now = leaves_slot kernel.slots slot (Active worker call) held there in
            record { here = now.here; others = λ other apart. now.others other apart ∙ sym (changes.others other apart) }

first_spared : (boot : Booted) → AfterSpared (first_kernel boot)
first_spared boot = record {
  kept = λ at session kept opened. absurd cc;
  jobs = λ slot call job is works. never_none _ call (none_at_first boot.threads slot) is;
}

pub sessions_kept : Always (λ boot kernel. HaveTheirInstances kernel.tables)
sessions_kept boot history kernel booted e = (all_spared history kernel e).kept
  where
    all_spared : (events : List Event) (k : Kernel) → kernel_after boot events ≡ Some k → AfterSpared k
    all_spared = holds_along boot AfterSpared (first_spared boot) (λ before k cpu there spared.
        spared_cases boot k cpu (record {
          joined = all_joined boot before k there;
          numbers = numbered boot before k there;
          waiters = waiting boot before k there;
          rising = (in_order boot before k there).instances;
        }) spared)
