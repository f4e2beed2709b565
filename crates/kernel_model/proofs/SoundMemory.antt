-- Instances, and the calls that work on them, have their memory, and the frames suffice, after each event of a legal history.
use Rattle.std.proofs.Common.{◌≡◌, ℕ, ◌+◌, ◌-◌, ◌*◌, ◌≤◌, Bool, true, false, ◌||◌, cond, List, [], ◌∷◌, length, Option, Some, None, refl, ap, subst, sym, ◌∙◌, arith}
use Rattle.std.specs.Prelude.{All, IsSome, bytes_eq, find, if◌then◌else◌, is_some, nat_le, slice_get, slice_set}
use Rattle.std.specs.Option.{option_and_then, option_map, option_map_or}
use Rattle.std.proofs.lemmas.Bool.Decides.{nat_tests}
use Rattle.std.proofs.lemmas.List.Elements.{All-nil}
use Rattle.std.proofs.lemmas.Slice.Eq.{bytes_eq-Decides}
use Rattle.base.specs.NumberMap.{NumberMap, IsRising, get, insert, remove}
use Rattle.base.proofs.MapLemmas.{All-get, All-insert, All-remove}
use Rattle.base.proofs.ZeroLemmas.{length-zeros}
use Rattle.event_journal.specs.declared.event.Event.{Event}
use Rattle.job_model.specs.Job.{Body, Job, Machine, Native, Nothing, body_with_cancel_seen, with_cancel_seen}
use Rattle.job_model.specs.Steps.{Advance, Goes, Left, Stopped, Stops}
use Rattle.job_model.specs.Steps as steps
use Rattle.job_model.specs.declared.entry_point.EntryPoint.{EntryPoint}
use Rattle.job_model.specs.declared.entry_point.EntryPoint.TheVariants.{Invoke, Close}
use Rattle.rpc_msgs.specs.declared.rpc.Rpc.{Rpc}
use Rattle.session_table.specs.declared.session.Session.{Session}
use Rattle.ta_params.specs.declared.copied_params.CopiedParams.{CopiedParams}
use Rattle.kernel_model.specs.Application.{Application, Booted, BuiltIn, OfImage, pages_in, program_of, uuid_of}
use Rattle.kernel_model.specs.Argument.{client_in, thread_in}
use Rattle.kernel_model.specs.Begin.{Beginner, Opener, begins_on, has_pages_for, opens_kept, opens_new}
use Rattle.kernel_model.specs.Decision.{Taken, Takes}
use Rattle.kernel_model.specs.Entry.{after_decision}
use Rattle.kernel_model.specs.Exit.{progress_of, slot_left, tables_left}
use Rattle.kernel_model.specs.Given.{Buffer, Given, NoBuffer, Nothing as NothingGiven, Reply, call_given}
use Rattle.kernel_model.specs.History.{kernel_after}
use Rattle.kernel_model.specs.Instances.{app_of, fresh_memory, free_pages, given_back, held_by, instances_after, is_held, killed, made_for, pages_of, program_on}
use Rattle.kernel_model.specs.Kernel.{Active, Asks, CallPhase, Ends, Free, Instance, Kernel, PendingCall, Progress, Runs, Suspended, Tables, ThreadSlot, Waits, first_kernel}
use Rattle.kernel_model.specs.Leaving.{leaving_of}
use Rattle.kernel_model.specs.Located.{cookie_of}
use Rattle.kernel_model.specs.NewCall.{NewCall, beginner, has_pages, new_call_of, no_copies, opener, shared_by, shares_one}
use Rattle.kernel_model.specs.Resume.{Resumed, app_of_call, onward_of, phase_after, phase_seen, resumed_call, sees, who_resumes}
use Rattle.kernel_model.specs.Sessions.{sessions_after, sessions_after_panic}
use Rattle.kernel_model.specs.Sound.{Always, Calls, unmarked_at, unmarked_in, unmarked}
use Rattle.kernel_model.specs.SoundCalls.{AreJoined, Holds, is_in_session, job_in}
use Rattle.kernel_model.specs.SoundMemory.{AreInMemory, IsInMemory, KeepsMemory, memory_in, memory_of, pages_used}
use Rattle.kernel_model.specs.SoundNumbers.{is_on_instance}
use Rattle.kernel_model.proofs.Parts.{if-both}
use Rattle.kernel_model.proofs.SoundCallsJoined.{all_joined}
use Rattle.kernel_model.proofs.SoundEvents.{EventCases, holds_along, resumed_taken}
use Rattle.kernel_model.proofs.SoundExits.{exits_all, left_all, unbuffered}
use Rattle.kernel_model.proofs.SoundJobs.{IsAdvanceOf, IsSameBody, answered_onward, granted_onward, same_memory}
use Rattle.kernel_model.proofs.SoundJoined.{GoesOn, never_none, some_same}
use Rattle.kernel_model.proofs.SoundMaps.{get-insert-other, get-insert-same, get-remove-other, named_is}
use Rattle.kernel_model.proofs.SoundPinned.{before_pinned, memory_pinned}
use Rattle.kernel_model.proofs.SoundNewCalls.{NewCases, cases_onward}
use Rattle.kernel_model.proofs.SoundNewJoined.{Before, awaited_uuids, gone, held_none, new_instance, no_job, shared_there}
use Rattle.kernel_model.proofs.SoundNumbers.{numbered}
use Rattle.kernel_model.proofs.SoundOrder.{in_order}
use Rattle.kernel_model.proofs.SoundResumedJoined.{fits_instance, named_app, resumed_on, session_instance}
use Rattle.kernel_model.proofs.SoundResumes.{opener_of, resumes_all}
use Rattle.kernel_model.proofs.SoundSlots.{Changes, by_number, free_there, leaves_slot, takes_slot}
use Rattle.kernel_model.proofs.SoundSums.{sum_insert, sum_remove, sum_with}
use Rattle.kernel_model.proofs.SoundStarts.{Starts, kept_starts, made_starts, session_starts}
use Rattle.kernel_model.proofs.SoundWaiters.{waiting}

abbrev AllIn : Booted → NumberMap Instance → Type 0
AllIn boot instances = All (λ (kept : ℕ × Instance). IsInMemory boot kept.1) instances

-- ---- pages

abbrev used : Booted → ℕ × Instance → ℕ
used boot kept = if kept.1.dead then 0 else pages_of boot kept.1.uuid

itself : (n : ℕ) → n ≤ n
itself n = omega arith

both_less : (a b c : ℕ) → a ≤ b → b ≤ c → a ≤ c
both_less a b c one two = omega arith

pages_less : (boot : Booted) (m : NumberMap Instance) (k : ℕ) (old new : Instance) → IsRising m → get m k ≡ Some old → used boot (k, new) ≤ used boot (k, old)
    → pages_used boot (insert m k new) ≤ pages_used boot m
pages_less boot m k old new rising there less =
    by_sum (pages_used boot (insert m k new)) (pages_used boot m) (used boot (k, old)) (used boot (k, new)) (sum_insert (used boot) m k old new rising there) less
  where
    by_sum : (a b c d : ℕ) → a + c ≡ b + d → d ≤ c → a ≤ b
    by_sum a b c d sum less = omega arith

pages_removed : (boot : Booted) (m : NumberMap Instance) (k : ℕ) (old : Instance) → IsRising m → get m k ≡ Some old → pages_used boot (remove m k) ≤ pages_used boot m
pages_removed boot m k old rising there =
    by_sum (pages_used boot (remove m k)) (pages_used boot m) (used boot (k, old)) (sum_remove (used boot) m k old rising there)
  where
    by_sum : (a b c : ℕ) → a + c ≡ b → a ≤ b
    by_sum a b c sum = omega arith

is_below : (a b : ℕ) → nat_le a b ≡ true → a ≤ b
is_below a b e = grind (arith, nat_tests)

pages_with : (boot : Booted) (m : NumberMap Instance) (k : ℕ) (new : Instance) (pages : ℕ) → get m k ≡ None → used boot (k, new) ≡ pages
    → nat_le pages (free_pages boot m) ≡ true → pages_used boot m ≤ boot.frames → pages_used boot (insert m k new) ≤ boot.frames
pages_with boot m k new pages none is fits few =
    by_sum (pages_used boot (insert m k new)) (pages_used boot m) (used boot (k, new)) pages boot.frames (sum_with (used boot) m k new none) is
    (is_below pages (free_pages boot m) fits) few
  where
    by_sum : (a b w p frames : ℕ) → a ≡ b + w → w ≡ p → p ≤ frames - b → b ≤ frames → a ≤ frames
    by_sum a b w p frames sum is fits few = omega arith

-- ---- applications

passes_there : {X : Type 0} (test : X → Bool) (xs : List X) (x : X) → find test xs ≡ Some x → test x ≡ true
passes_there test [] x e = absurd cc
passes_there {X} test (first ∷ xs) x e = by_test (test first) refl (passes_there test xs x) e
  where
    by_test : (b : Bool) → test first ≡ b → (find test xs ≡ Some x → test x ≡ true) → cond b (Some first) (find test xs) ≡ Some x → test x ≡ true
    by_test true is rest here = let same : first ≡ x = cc in ap test (sym same) ∙ is
    by_test false is rest here = rest here

-- an application is found by its own UUID
pub own_uuid : (boot : Booted) (uuid : List ℕ) (app : Application) → app_of boot uuid ≡ Some app → app_of boot (uuid_of app) ≡ Some app
own_uuid boot uuid app e =
    let same = (bytes_eq-Decides (uuid_of app) uuid).0 (passes_there (λ (a : Application). bytes_eq (uuid_of a) uuid) boot.apps app e) in
    ap (app_of boot) same ∙ e

is_found : (boot : Booted) (uuid : List ℕ) (app : Application) → app_of boot uuid ≡ Some app → IsSome (app_of boot uuid)
is_found boot uuid app e = subst (λ (o : Option Application). IsSome o) (sym e) refl

pages_are : (boot : Booted) (uuid : List ℕ) (app : Application) → app_of boot uuid ≡ Some app → pages_of boot uuid ≡ pages_in app
pages_are boot uuid app e = ap (λ (o : Option Application). option_map_or pages_in o 0) e

memory_alive : (boot : Booted) (instance : Instance) (app : Application) → instance.dead ≡ false → app_of boot instance.uuid ≡ Some app
    → memory_of boot instance ≡ 4096 * pages_in app
memory_alive boot instance app alive e =
    ap (λ (b : Bool). if b then 0 else 4096 * pages_of boot instance.uuid) alive ∙ ap (λ (n : ℕ). 4096 * n) (pages_are boot instance.uuid app e)

-- ---- what a call begins on

app_comes : (app : Application) (memory : List ℕ) → length memory ≡ 4096 * pages_in app
    → Starts (λ body. memory_in body ≡ 4096 * pages_in app) (Some (program_of app)) memory
app_comes (OfImage app) memory e = λ point machine is. ap length is ∙ e
app_comes (BuiltIn uuid relation) memory e = (refl, λ func. refl)

on_comes : (boot : Booted) (instance : Instance) → length instance.memory ≡ memory_of boot instance
    → Starts (λ body. memory_in body ≡ memory_of boot instance) (program_on boot instance) instance.memory
on_comes boot instance e = by (app_of boot instance.uuid) instance.dead e
  where
    by : (o : Option Application) (dead : Bool) → length instance.memory ≡ (if dead then 0 else 4096 * option_map_or pages_in o 0)
        → Starts (λ body. memory_in body ≡ (if dead then 0 else 4096 * option_map_or pages_in o 0)) (if dead then None else option_map program_of o) instance.memory
    by o true is = refl
    by None false is = refl
    by (Some app) false is = app_comes app instance.memory is

kept_memory : (who : Beginner) (brought : Opener) (kept : ℕ × Instance) → length kept.1.memory ≡ 4096 * pages_in brought.app
    → memory_in (opens_kept who brought kept).job.body ≡ 4096 * pages_in brought.app
kept_memory who brought kept e =
    kept_starts (λ body. memory_in body ≡ 4096 * pages_in brought.app) who brought kept (app_comes brought.app kept.1.memory e)

made_memory : (who : Beginner) (brought : Opener) (number next : ℕ) → memory_in (opens_new who brought number next).job.body ≡ 4096 * pages_in brought.app
made_memory who brought number next =
    made_starts (λ body. memory_in body ≡ 4096 * pages_in brought.app) who brought number next
    (app_comes brought.app (fresh_memory (pages_in brought.app)) (length-zeros (4096 * pages_in brought.app)))

session_memory : (who : Beginner) (session : Session) (instance : Instance) (params : CopiedParams) (first : EntryPoint) (behind : List EntryPoint)
    → length instance.memory ≡ memory_of who.boot instance
    → memory_in (begins_on who session instance params (first ∷ behind)).job.body ≡ memory_of who.boot instance
session_memory who session instance params first behind e =
    session_starts (λ body. memory_in body ≡ memory_of who.boot instance) who session instance params first behind (on_comes who.boot instance e)

-- an instance that nobody holds has its memory
pub has_own : (boot : Booted) (instance : Instance) → IsInMemory boot instance → is_held instance ≡ false → length instance.memory ≡ memory_of boot instance
has_own boot instance within free = subst (KeepsMemory boot instance) (held_none instance free) within.memory

held_within : (boot : Booted) (slot : ℕ) (instance : Instance) → IsInMemory boot instance → IsInMemory boot (held_by slot instance)
held_within boot slot instance within = record { application = within.application; memory = refl }

made_within : (boot : Booted) (app : Application) (slot : ℕ) → app_of boot (uuid_of app) ≡ Some app → IsInMemory boot (made_for (uuid_of app) slot)
made_within boot app slot e = record { application = is_found boot (uuid_of app) app e; memory = refl }

-- ---- one call changes

-- where a later phase has a job, the earlier one had one with as much memory
abbrev SameJobs : CallPhase → CallPhase → Type 0
SameJobs phase next = (job : Job) → job_in next ≡ Some job → (was : Job) × (job_in phase ≡ Some was) × (memory_in job.body ≡ memory_in was.body)

module _ (boot : Booted) (before after : Calls) (tables now : Tables) (slot : ℕ) (held : Option PendingCall) (changes : Changes before after slot held)
    (memory : AreInMemory boot before tables) where
  theirs : (at : ℕ) (call : PendingCall) → (slot ≡ at → ⊥) → after at ≡ Some call → before at ≡ Some call
  theirs at call differ is = sym (changes.others at differ) ∙ is

  mine : (at : ℕ) (call : PendingCall) → slot ≡ at → after at ≡ Some call → held ≡ Some call
  mine at call same is = sym changes.here ∙ ap after same ∙ is

  -- where the instances stay
  memory_still : now.instances ≡ tables.instances
      → ((call : PendingCall) (job : Job) (instance : Instance) → held ≡ Some call → job_in call.phase ≡ Some job → get tables.instances call.instance ≡ Some instance
      → memory_in job.body ≡ memory_of boot instance)
      → AreInMemory boot after now
  memory_still same its = record {
    instances = subst (AllIn boot) (sym same) memory.instances;
    jobs = λ at call job instance is works kept.
        let was = ap (λ (m : NumberMap Instance). get m call.instance) (sym same) ∙ kept in
        by_number slot at
        (λ here. its call job instance (mine at call here is) works was)
        (λ differ. memory.jobs at call job instance (theirs at call differ is) works was);
    frames = subst (λ (m : NumberMap Instance). pages_used boot m ≤ boot.frames) (sym same) memory.frames;
  }

  -- a call without a job
  memory_rests : (call : PendingCall) → held ≡ Some call → job_in call.phase ≡ None → now.instances ≡ tables.instances → AreInMemory boot after now
  memory_rests call is rests same = memory_still same
      (λ other job instance its works kept. no_job job (sym rests ∙ ap (λ (c : PendingCall). job_in c.phase) (some_same call other (sym is ∙ its)) ∙ works))

  -- a call that goes on on its instance
  memory_goes : (was call : PendingCall) → before slot ≡ Some was → held ≡ Some call → call.instance ≡ was.instance → SameJobs was.phase call.phase
      → now.instances ≡ tables.instances → AreInMemory boot after now
  memory_goes was call there is instance jobs same = memory_still same
      (λ other job found its works kept.
      let one = some_same call other (sym is ∙ its) in
      let old = jobs job (ap (λ (c : PendingCall). job_in c.phase) one ∙ works) in
      old.2 ∙ memory.jobs slot was old.0 found there old.1
      (ap (λ (n : ℕ). get tables.instances n) (sym instance ∙ ap (λ (c : PendingCall). c.instance) one) ∙ kept))

  -- where at most the instance of a number changes, which no other call holds
  memory_change : (number : ℕ) → AreJoined before tables
      → ((instance : Instance) (other : ℕ) → get tables.instances number ≡ Some instance → instance.holder ≡ Some other → slot ≡ other)
      → ((other : ℕ) → (number ≡ other → ⊥) → get now.instances other ≡ get tables.instances other)
      → AllIn boot now.instances → pages_used boot now.instances ≤ boot.frames
      → ((call : PendingCall) (job : Job) (instance : Instance) → held ≡ Some call → job_in call.phase ≡ Some job → get now.instances call.instance ≡ Some instance
      → memory_in job.body ≡ memory_of boot instance)
      → AreInMemory boot after now
  memory_change number joined own others all frames its = record {
    instances = all;
    jobs = λ at call job instance is works kept. by_number slot at
        (λ here. its call job instance (mine at call here is) works kept)
        (λ differ.
        let was = theirs at call differ is in
        let holds = (joined.each at call was).instance.working job works in
        by_number number call.instance
        (λ same. absurd (differ (own holds.instance at (ap (λ (n : ℕ). get tables.instances n) same ∙ holds.kept) holds.holder)))
        (λ elsewhere. memory.jobs at call job instance was works (sym (others call.instance elsewhere) ∙ kept)));
    frames = frames;
  }

  -- a call that begins on an instance that nobody holds, or on a new one
  memory_begins : (call : PendingCall) (its : Instance) (job : Job) → held ≡ Some call → AreJoined before tables → now.instances ≡ insert tables.instances call.instance its
      → job_in call.phase ≡ Some job
      → ((instance : Instance) → get tables.instances call.instance ≡ Some instance → instance.holder ≡ None)
      → IsInMemory boot its → pages_used boot (insert tables.instances call.instance its) ≤ boot.frames → memory_in job.body ≡ memory_of boot its
      → AreInMemory boot after now
  memory_begins call its job is joined instances works free within frames due =
      memory_change call.instance joined
      (λ instance other kept holder. never_none instance.holder other (free instance kept) holder)
      (λ other apart. ap (λ (m : NumberMap Instance). get m other) instances ∙ get-insert-other tables.instances call.instance its other apart)
      (subst (AllIn boot) (sym instances) (All-insert (λ (kept : ℕ × Instance). IsInMemory boot kept.1) tables.instances call.instance its memory.instances within))
      (subst (λ (m : NumberMap Instance). pages_used boot m ≤ boot.frames) (sym instances) frames)
      (λ other next instance same does kept.
      let one = some_same call other (sym is ∙ same) in
      let jobs = some_same job next (sym works ∙ ap (λ (c : PendingCall). job_in c.phase) one ∙ does) in
      let here : get now.instances call.instance ≡ Some its =
      ap (λ (m : NumberMap Instance). get m call.instance) instances ∙ get-insert-same tables.instances call.instance its in
      let found = some_same its instance (sym here ∙ ap (λ (c : PendingCall). get now.instances c.instance) one ∙ kept) in
      ap (λ (j : Job). memory_in j.body) (sym jobs) ∙ due ∙ ap (memory_of boot) found)

-- ---- new calls

abbrev NewMemory : Calls → NewCall → Taken → Type 0
NewMemory before c taken = (after : Calls) → Changes before after c.slot (Some (unmarked taken.call)) → AreInMemory c.boot after taken.tables

has_room : {X : Type 0} (o : Option X) (test : Bool) → o ≡ None → (is_some o || test) ≡ true → test ≡ true
has_room None test none e = e
has_room (Some x) test none e = absurd cc

module _ (before : Calls) (c : NewCall) (sound : Before before c.tables) (free : before c.slot ≡ None) (memory : AreInMemory c.boot before c.tables) where
  rests : (after : Calls) (now : Tables) (call : PendingCall) → Changes before after c.slot (Some call) → job_in call.phase ≡ None
      → now.instances ≡ c.tables.instances → AreInMemory c.boot after now
  rests after now call changes idle same = memory_rests c.boot before after c.tables now c.slot (Some call) changes memory call refl idle same

  -- an open on a kept instance
  opens_so : (after : Calls) (now : Tables) (call : PendingCall) (uuid : List ℕ) (brought : Opener) (kept : ℕ × Instance) (job : Job)
      → Changes before after c.slot (Some call) → app_of c.boot uuid ≡ Some brought.app → shared_by c brought.app ≡ Some kept
      → shares_one c brought.app (λ k. k.1.dead) ≡ false → is_held kept.1 ≡ false → call.instance ≡ kept.0
      → now.instances ≡ insert c.tables.instances kept.0 (held_by c.slot kept.1) → job_in call.phase ≡ Some job
      → job ≡ (opens_kept (beginner c) brought kept).job → AreInMemory c.boot after now
  opens_so after now call uuid brought kept job changes of_boot shared alive unheld number instances works is =
      let there = shared_there before c sound free brought.app kept shared in
      let within = All-get (λ (k : ℕ × Instance). IsInMemory c.boot k.1) c.tables.instances kept.0 kept.1 memory.instances there.0 in
      let living : kept.1.dead ≡ false = sym (ap (λ (o : Option (ℕ × Instance)). option_map_or (λ (k : ℕ × Instance). k.1.dead) o false) shared) ∙ alive in
      let found : app_of c.boot kept.1.uuid ≡ Some brought.app = ap (app_of c.boot) there.1 ∙ own_uuid c.boot uuid brought.app of_boot in
      let due = memory_alive c.boot kept.1 brought.app living found in
      let at : get c.tables.instances call.instance ≡ Some kept.1 = ap (λ (n : ℕ). get c.tables.instances n) number ∙ there.0 in
      memory_begins c.boot before after c.tables now c.slot (Some call) changes memory call (held_by c.slot kept.1) job refl sound.joined
      (instances ∙ ap (λ (n : ℕ). insert c.tables.instances n (held_by c.slot kept.1)) (sym number)) works
      (λ instance its. ap (λ (i : Instance). i.holder) (some_same instance kept.1 (sym its ∙ at)) ∙ held_none kept.1 unheld)
      (held_within c.boot c.slot kept.1 within)
      (stays_few at)
      (ap (λ (j : Job). memory_in j.body) is ∙ kept_memory (beginner c) brought kept (has_own c.boot kept.1 within unheld ∙ due) ∙ sym due)
    where
      stays_few : get c.tables.instances call.instance ≡ Some kept.1 → pages_used c.boot (insert c.tables.instances call.instance (held_by c.slot kept.1)) ≤ c.boot.frames
      stays_few at = both_less _ _ _
          (pages_less c.boot c.tables.instances call.instance kept.1 (held_by c.slot kept.1) sound.rising at (itself (used c.boot (call.instance, kept.1)))) memory.frames

  -- one on a new instance
  makes_new : (after : Calls) (now : Tables) (call : PendingCall) (uuid : List ℕ) (brought : Opener) (next : ℕ) (job : Job)
      → Changes before after c.slot (Some call) → app_of c.boot uuid ≡ Some brought.app → shared_by c brought.app ≡ None → has_pages c brought.app ≡ true
      → get c.tables.instances call.instance ≡ None
      → now.instances ≡ insert c.tables.instances call.instance (made_for (uuid_of brought.app) c.slot) → job_in call.phase ≡ Some job
      → job ≡ (opens_new (beginner c) brought call.instance next).job → AreInMemory c.boot after now
  makes_new after now call uuid brought next job changes of_boot shared pages none instances works is =
      let found = own_uuid c.boot uuid brought.app of_boot in
      let made = made_for (uuid_of brought.app) c.slot in
      memory_begins c.boot before after c.tables now c.slot (Some call) changes memory call made job refl sound.joined instances works
      (λ instance its. never_none _ instance none its) (made_within c.boot brought.app c.slot found)
      (pages_with c.boot c.tables.instances call.instance made (pages_in brought.app) none (pages_are c.boot (uuid_of brought.app) brought.app found)
      (has_room (shared_by c brought.app) (has_pages_for c.boot c.tables brought.app) shared pages) memory.frames)
      (ap (λ (j : Job). memory_in j.body) is ∙ made_memory (beginner c) brought call.instance next ∙ sym (memory_alive c.boot made brought.app refl found))

  -- an invoke or a close
  named_so : (after : Calls) (now : Tables) (call : PendingCall) (named : Session × Instance) (params : CopiedParams) (first : EntryPoint) (behind : List EntryPoint) (job : Job)
      → Changes before after c.slot (Some call) → get c.tables.instances named.0.instance ≡ Some named.1 → is_held named.1 ≡ false → call.instance ≡ named.0.instance
      → now.instances ≡ insert c.tables.instances named.0.instance (held_by c.slot named.1) → job_in call.phase ≡ Some job
      → job ≡ (begins_on (beginner c) named.0 named.1 params (first ∷ behind)).job → AreInMemory c.boot after now
  named_so after now call named params first behind job changes there unheld number instances works is =
      let within = All-get (λ (k : ℕ × Instance). IsInMemory c.boot k.1) c.tables.instances named.0.instance named.1 memory.instances there in
      let at : get c.tables.instances call.instance ≡ Some named.1 = ap (λ (n : ℕ). get c.tables.instances n) number ∙ there in
      memory_begins c.boot before after c.tables now c.slot (Some call) changes memory call (held_by c.slot named.1) job refl sound.joined
      (instances ∙ ap (λ (n : ℕ). insert c.tables.instances n (held_by c.slot named.1)) (sym number)) works
      (λ instance its. ap (λ (i : Instance). i.holder) (some_same instance named.1 (sym its ∙ at)) ∙ held_none named.1 unheld)
      (held_within c.boot c.slot named.1 within)
      (stays_few at)
      (ap (λ (j : Job). memory_in j.body) is ∙ session_memory (beginner c) named.0 named.1 params first behind (has_own c.boot named.1 within unheld))
    where
      stays_few : get c.tables.instances call.instance ≡ Some named.1 → pages_used c.boot (insert c.tables.instances call.instance (held_by c.slot named.1)) ≤ c.boot.frames
      stays_few at = both_less _ _ _
          (pages_less c.boot c.tables.instances call.instance named.1 (held_by c.slot named.1) sound.rising at (itself (used c.boot (call.instance, named.1)))) memory.frames

  new_memory : NewCases c (NewMemory before c)
  new_memory = record {
    settles = λ code after changes. rests after _ _ changes refl refl;
    settles_open = λ app login code after changes. rests after _ _ changes refl refl;
    settles_invoke = λ named code is after changes. rests after _ _ changes refl refl;
    cancels = λ named is after changes. rests after _ _ changes refl refl;
    registers = λ param pages new room good after changes. rests after _ _ changes refl refl;
    unregisters = λ param unpinned after changes. rests after _ _ changes refl refl;
    opens_kept = λ wanted app copies copied kept shown shared unheld after changes.
        opens_so after _ _ wanted.uuid (opener wanted app copies) kept _ changes shown.of_boot shared shown.alive unheld refl refl refl refl;
    opens_awaited = λ wanted app copies copied number shown shared waits after changes.
        let waiter = awaited_uuids before c sound free app number waits in
        let none = no_instance number
        (λ instance its. gone before c sound free app number waiter.0 waiter.1 waiter.2 waiter.3 waiter.4 waiter.5
        ((sound.joined.each waiter.1 waiter.0 waiter.2).instance.settled waiter.6) shared instance its) in
        makes_new after _ _ wanted.uuid (opener wanted app copies) c.tables.next_instance _ changes shown.of_boot shared shown.pages none refl refl refl;
    opens_next = λ wanted app copies copied shown shared waits after changes.
        makes_new after _ _ wanted.uuid (opener wanted app copies) (c.tables.next_instance + 1) _ changes shown.of_boot shared shown.pages
        (new_instance before c sound free c.tables.next_instance refl) refl refl refl;
    open_waits = λ wanted app copies copied kept shown shared held after changes. rests after _ _ changes refl refl;
    invokes = λ named copies copied is alive unheld after changes.
        named_so after _ _ named copies.params (Invoke c.head.func) [] _ changes (named_is c named is).instance unheld refl refl refl refl;
    invoke_waits = λ named copies copied is alive held after changes. rests after _ _ changes refl refl;
    closes = λ named is unheld after changes.
        named_so after _ _ named no_copies.params Close _ _ changes (named_is c named is).instance unheld refl refl refl refl;
    close_waits = λ named is held after changes. rests after _ _ changes refl refl;
  }
    where
      no_instance : (number : ℕ) → ((instance : Instance) → get c.tables.instances number ≡ Some instance → ⊥) → get c.tables.instances number ≡ None
      no_instance number never = by (get c.tables.instances number) never
        where
          by : (o : Option Instance) → ((instance : Instance) → o ≡ Some instance → ⊥) → o ≡ None
          by None gone = refl
          by (Some instance) gone = absurd (gone instance refl)

-- ---- phases

phases_same : (phase next : CallPhase) → phase ≡ next → SameJobs phase next
phases_same phase next e job works = (job, ap job_in e ∙ works, refl)

phases_both : (first second third : CallPhase) → SameJobs first second → SameJobs second third → SameJobs first third
phases_both first second third one two job works =
    let mid = two job works in
    let was = one mid.0 mid.1 in
    (was.0, was.1, mid.2 ∙ was.2)

runs_later : (job later : Job) → IsSameBody job.body later.body → SameJobs (Runs job) (Runs later)
runs_later job later same next is =
    (job, refl, ap (λ (j : Job). memory_in j.body) (sym (some_same later next is)) ∙ same_memory job.body later.body same)

asks_later : (job later : Job) (wanted : Rpc) (payload : List ℕ) → IsSameBody job.body later.body → SameJobs (Runs job) (Asks later wanted payload)
asks_later job later wanted payload same next is =
    (job, refl, ap (λ (j : Job). memory_in j.body) (sym (some_same later next is)) ∙ same_memory job.body later.body same)

answered_later : (job : Job) (wanted : Rpc) (payload : List ℕ) (advance : Advance) → IsAdvanceOf job.body job.points advance
    → SameJobs (Asks job wanted payload) (phase_after (Asks job wanted payload) advance)
answered_later job wanted payload (Goes later) on = runs_later job later on.same
answered_later job wanted payload (Stops (steps.Asks other bytes later)) on = asks_later job later other bytes on.same
answered_later job wanted payload (Stops (steps.Ends end)) on = phases_same (Asks job wanted payload) (Asks job wanted payload) refl
answered_later job wanted payload (Stops (steps.Panics code)) on = phases_same (Asks job wanted payload) (Asks job wanted payload) refl

seen_memory : (body : Body) → memory_in (body_with_cancel_seen body) ≡ memory_in body
seen_memory (Machine image point machine) = refl
seen_memory (Native relation func) = refl
seen_memory Nothing = refl

phase_sees : (phase : CallPhase) → SameJobs phase (phase_seen phase)
phase_sees (Runs job) next is = (job, refl, ap (λ (j : Job). memory_in j.body) (sym (some_same (with_cancel_seen job) next is)) ∙ seen_memory job.body)
phase_sees (Asks job wanted payload) next is =
    (job, refl, ap (λ (j : Job). memory_in j.body) (sym (some_same (with_cancel_seen job) next is)) ∙ seen_memory job.body)
phase_sees (Waits params) next is = no_job next is
phase_sees (Ends result params told wakes) next is = no_job next is

call_sees : (call : PendingCall) → SameJobs call.phase (sees call).phase
call_sees call = if-both (λ (c : PendingCall). SameJobs call.phase c.phase) call.marked _ call (phase_sees call.phase) (phases_same call.phase call.phase refl)

given_same : (given : Given) (call : PendingCall) → SameJobs call.phase (call_given given call).phase
given_same NothingGiven call = phases_same call.phase call.phase refl
given_same (Buffer buffer) call = phases_same call.phase call.phase refl
given_same NoBuffer call = phases_same call.phase call.phase refl
given_same (Reply reply) call = phases_same call.phase call.phase refl

resumed_same : (given : Given) (call : PendingCall) → SameJobs call.phase (call_given given (sees call)).phase
resumed_same given call = phases_both call.phase (sees call).phase _ (call_sees call) (given_same given (sees call))

-- ---- resumes

abbrev OnwardMemory : Booted → Calls → ℕ → Progress → Type 0
OnwardMemory boot before slot progress = (after : Calls) → Changes before after slot (Some (unmarked progress.call)) → AreInMemory boot after progress.tables

module _ (before : Calls) (r : Resumed) (joined : AreJoined before r.tables) (rising : IsRising r.tables.instances) (memory : AreInMemory r.boot before r.tables)
    (was : PendingCall) (there : before r.slot ≡ Some was) (on : GoesOn was r.call) (jobs : SameJobs was.phase r.call.phase) where
  goes_so : (after : Calls) (now : Tables) (call : PendingCall) (phase : CallPhase) → Changes before after r.slot (Some call) → r.call.phase ≡ phase
      → call.instance ≡ r.call.instance → SameJobs phase call.phase → now.instances ≡ r.tables.instances → AreInMemory r.boot after now
  goes_so after now call phase changes is instance same instances =
      memory_goes r.boot before after r.tables now r.slot (Some call) changes memory was call there refl (instance ∙ on.instance)
      (phases_both was.phase r.call.phase call.phase jobs (subst (λ (p : CallPhase). SameJobs p call.phase) (sym is) same)) instances

  idles_so : (after : Calls) (now : Tables) (call : PendingCall) → Changes before after r.slot (Some call) → job_in call.phase ≡ None
      → now.instances ≡ r.tables.instances → AreInMemory r.boot after now
  idles_so after now call changes idle same = memory_rests r.boot before after r.tables now r.slot (Some call) changes memory call refl idle same

  -- it begins on a kept instance
  begins_so : (after : Calls) (now : Tables) (call : PendingCall) (instance : Instance) (job : Job) → Changes before after r.slot (Some call)
      → get r.tables.instances r.call.instance ≡ Some instance → is_held instance ≡ false → call.instance ≡ r.call.instance
      → now.instances ≡ insert r.tables.instances r.call.instance (held_by r.slot instance) → job_in call.phase ≡ Some job
      → (IsInMemory r.boot instance → memory_in job.body ≡ memory_of r.boot instance) → AreInMemory r.boot after now
  begins_so after now call instance job changes kept unheld number instances works due =
      let within = All-get (λ (k : ℕ × Instance). IsInMemory r.boot k.1) r.tables.instances r.call.instance instance memory.instances kept in
      let at : get r.tables.instances call.instance ≡ Some instance = ap (λ (n : ℕ). get r.tables.instances n) number ∙ kept in
      memory_begins r.boot before after r.tables now r.slot (Some call) changes memory call (held_by r.slot instance) job refl joined
      (instances ∙ ap (λ (n : ℕ). insert r.tables.instances n (held_by r.slot instance)) (sym number)) works
      (λ found its. ap (λ (i : Instance). i.holder) (some_same found instance (sym its ∙ at)) ∙ held_none instance unheld)
      (held_within r.boot r.slot instance within)
      (both_less _ _ _ (pages_less r.boot r.tables.instances call.instance instance (held_by r.slot instance) rising at (itself (used r.boot (call.instance, instance)))) memory.frames)
      (due within)

  found_app : (app : Application) (uuid : List ℕ) → app_of_call r ≡ Some app → r.call.uuid ≡ Some uuid → app_of r.boot uuid ≡ Some app
  found_app app uuid is same = sym (ap (λ (o : Option (List ℕ)). option_and_then (app_of r.boot) o) same) ∙ is

  -- an open, on a new instance of the same number
  makes_so : (after : Calls) (now : Tables) (call : PendingCall) (session : Session) (params : CopiedParams) (app : Application) (job : Job)
      → Changes before after r.slot (Some call) → app_of_call r ≡ Some app → get r.tables.instances r.call.instance ≡ None
      → has_pages_for r.boot r.tables app ≡ true → call.instance ≡ r.call.instance
      → now.instances ≡ insert r.tables.instances r.call.instance (made_for (uuid_of app) r.slot) → job_in call.phase ≡ Some job
      → job ≡ (opens_new (who_resumes r) (opener_of app session params) r.call.instance r.tables.next_instance).job → AreInMemory r.boot after now
  makes_so after now call session params app job changes of_call none pages number instances works is =
      let found = found_app app (uuid_of app) of_call (named_app before r joined was there on app of_call) in
      let made = made_for (uuid_of app) r.slot in
      let gone : get r.tables.instances call.instance ≡ None = ap (λ (n : ℕ). get r.tables.instances n) number ∙ none in
      memory_begins r.boot before after r.tables now r.slot (Some call) changes memory call made job refl joined
      (instances ∙ ap (λ (n : ℕ). insert r.tables.instances n made) (sym number)) works
      (λ instance its. never_none _ instance gone its) (made_within r.boot app r.slot found)
      (pages_with r.boot r.tables.instances call.instance made (pages_in app) gone (pages_are r.boot (uuid_of app) app found) pages memory.frames)
      (ap (λ (j : Job). memory_in j.body) is ∙ made_memory (who_resumes r) (opener_of app session params) r.call.instance r.tables.next_instance
      ∙ sym (memory_alive r.boot made app refl found))

  resumed_memory : OnwardMemory r.boot before r.slot (onward_of r)
  resumed_memory = resumes_all r (OnwardMemory r.boot before r.slot) (record {
    runs = λ job is after changes. goes_so after _ _ (Runs job) changes is refl (phases_same (Runs job) (Runs job) refl) refl;
    asks_still = λ job wanted payload is after changes.
        goes_so after _ _ (Asks job wanted payload) changes is refl (phases_same (Asks job wanted payload) (Asks job wanted payload) refl) refl;
    answered = λ job wanted payload answer advance is e after changes.
        goes_so after _ _ (Asks job wanted payload) changes is refl (answered_later job wanted payload advance (answered_onward job answer advance e)) refl;
    ends = λ result params told wakes left is after changes. idles_so after _ _ changes refl refl;
    fails = λ params code is after changes. idles_so after _ _ changes refl refl;
    sleeps = λ params is after changes. idles_so after _ _ changes refl refl;
    opens = λ params session app instance ready alive opening is after changes.
        let uuid = (fits_instance before r joined was there on).application instance (ap is_on_instance opening) ready.there in
        let due = memory_alive r.boot instance app alive (found_app app instance.uuid is uuid) in
        begins_so after _ _ instance _ changes ready.there ready.free refl refl refl
        (λ within. kept_memory (who_resumes r) (opener_of app session params) (r.call.instance, instance) (has_own r.boot instance within ready.free ∙ due) ∙ sym due);
    opens_new = λ params session app awake none opening is pages after changes.
        makes_so after _ _ session params app _ changes is none pages refl refl refl refl;
    invokes = λ params session instance func ready alive is after changes.
        begins_so after _ _ instance _ changes ready.there ready.free refl
        (ap (λ (n : ℕ). insert r.tables.instances n (held_by r.slot instance)) (session_instance before r joined was there on session ready.awake.kept (ap is_in_session is))) refl
        (λ within. session_memory (who_resumes r) session instance params (Invoke func) [] (has_own r.boot instance within ready.free));
    closes = λ params session instance ready is after changes.
        begins_so after _ _ instance _ changes ready.there ready.free refl
        (ap (λ (n : ℕ). insert r.tables.instances n (held_by r.slot instance)) (session_instance before r joined was there on session ready.awake.kept (ap is_in_session is))) refl
        (λ within. session_memory (who_resumes r) session instance params Close _ (has_own r.boot instance within ready.free));
  })

-- ---- exits

-- what the end of a call leaves of the instances
record AreLeft (boot : Booted) (number : ℕ) (before after : NumberMap Instance) : Type 0 where
  others : (other : ℕ) → (number ≡ other → ⊥) → get after other ≡ get before other
  all : AllIn boot after
  frames : pages_used boot after ≤ pages_used boot before

are_left : (boot : Booted) (sessions : NumberMap Session) (instances : NumberMap Instance) (number : ℕ) (is_last : Bool) (change : Instance → Instance) (held : Instance)
    (found : Option Instance) → get instances number ≡ Some held → found ≡ Some held → IsRising instances → AllIn boot instances → IsInMemory boot (change held)
    → used boot (number, change held) ≤ used boot (number, held)
    → AreLeft boot number instances (option_map_or (λ (instance : Instance). instances_after sessions instances number is_last (change instance)) found instances)
are_left boot sessions instances number is_last change held None there is rising all within less = never_none None held refl is
are_left boot sessions instances number is_last change held (Some instance) there is rising all within less =
    subst (λ (i : Instance). AreLeft boot number instances (instances_after sessions instances number is_last (change i))) (sym (some_same instance held is))
    (if-both (AreLeft boot number instances) _ (remove instances number) (insert instances number (change held))
    (record {
      others = λ other apart. get-remove-other instances number other apart;
      all = All-remove (λ (kept : ℕ × Instance). IsInMemory boot kept.1) instances number all;
      frames = pages_removed boot instances number held rising there;
    })
    (record {
      others = λ other apart. get-insert-other instances number (change held) other apart;
      all = All-insert (λ (kept : ℕ × Instance). IsInMemory boot kept.1) instances number (change held) all within;
      frames = pages_less boot instances number held (change held) rising there less;
    }))

module _ (boot : Booted) (before : Calls) (tables : Tables) (slot : ℕ) (call : PendingCall) (joined : AreJoined before tables) (rising : IsRising tables.instances)
    (memory : AreInMemory boot before tables) (there : before slot ≡ Some (unmarked call)) where
  exit_goes : (after : Calls) (now : Tables) (left : PendingCall) (phase : CallPhase) → Changes before after slot (Some left) → call.phase ≡ phase
      → left.instance ≡ call.instance → SameJobs phase left.phase → now.instances ≡ tables.instances → AreInMemory boot after now
  exit_goes after now left phase changes is instance same instances =
      memory_goes boot before after tables now slot (Some left) changes memory (unmarked call) left there refl instance
      (subst (λ (p : CallPhase). SameJobs p left.phase) (sym is) same) instances

  exit_idles : (after : Calls) (now : Tables) (left : PendingCall) → Changes before after slot (Some left) → job_in left.phase ≡ None
      → now.instances ≡ tables.instances → AreInMemory boot after now
  exit_idles after now left changes idle same = memory_rests boot before after tables now slot (Some left) changes memory left refl idle same

  exit_ends : (after : Calls) (now : Tables) (left : PendingCall) (held : Instance) → Changes before after slot (Some left)
      → get tables.instances call.instance ≡ Some held → held.holder ≡ Some slot → job_in left.phase ≡ None
      → AreLeft boot call.instance tables.instances now.instances → AreInMemory boot after now
  exit_ends after now left held changes kept holder idle instances =
      memory_change boot before after tables now slot (Some left) changes memory call.instance joined
      (λ instance other its its_holder. some_same slot other (sym holder ∙ ap (λ (i : Instance). i.holder) (some_same held instance (sym kept ∙ its)) ∙ its_holder))
      instances.others instances.all (both_less _ _ _ instances.frames memory.frames)
      (λ other job instance is works its. no_job job (sym idle ∙ ap (λ (c : PendingCall). job_in c.phase) (some_same left other is) ∙ works))

  its_hold : (job : Job) → call.phase ≡ Runs job → Holds (get tables.instances call.instance) slot (unmarked call)
  its_hold job is = (joined.each slot (unmarked call) there).instance.working job (ap job_in is)

  exit_memory : (granted : ℕ) (progress : Progress) → progress_of tables call granted ≡ Some progress → OnwardMemory boot before slot progress
  exit_memory granted progress e = exits_all tables call granted (OnwardMemory boot before slot) progress (record {
    left = λ job later is grant after changes.
        exit_goes after _ _ (Runs job) changes is refl (runs_later job later (granted_onward granted job (Left later) grant).same) refl;
    ends = λ job count end is grant after changes.
        let holds = its_hold job is in
        let within = All-get (λ (k : ℕ × Instance). IsInMemory boot k.1) tables.instances call.instance holds.instance memory.instances holds.kept in
        let due = (granted_onward granted job (Stopped count (steps.Ends end)) grant).memory
        ∙ memory.jobs slot (unmarked call) job holds.instance there (ap job_in is) holds.kept in
        exit_ends after _ _ holds.instance changes holds.kept holds.holder refl
        (are_left boot (sessions_after call.kind tables.sessions call.session end.result.result end.context) tables.instances call.instance end.is_last
        (given_back end.memory end.objects) holds.instance (get tables.instances call.instance) holds.kept holds.kept rising memory.instances
        (record { application = within.application; memory = due }) (itself (used boot (call.instance, holds.instance))));
    panics = λ job count code is grant after changes.
        let holds = its_hold job is in
        let within = All-get (λ (k : ℕ × Instance). IsInMemory boot k.1) tables.instances call.instance holds.instance memory.instances holds.kept in
        exit_ends after _ _ holds.instance changes holds.kept holds.holder refl
        (are_left boot (sessions_after_panic call.kind tables.sessions call.session) tables.instances call.instance false killed holds.instance
        (get tables.instances call.instance) holds.kept holds.kept rising memory.instances
        (record { application = within.application; memory = refl }) (from_none (used boot (call.instance, holds.instance))));
    asks = λ job later count wanted payload is grant after changes.
        exit_goes after _ _ (Runs job) changes is refl
        (asks_later job later wanted payload (granted_onward granted job (Stopped count (steps.Asks wanted payload later)) grant).same) refl;
    asked = λ job wanted payload is after changes. exit_goes after _ _ call.phase changes refl refl (phases_same call.phase call.phase refl) refl;
    waits = λ params is after changes. exit_goes after _ _ call.phase changes refl refl (phases_same call.phase call.phase refl) refl;
    told = λ result params wakes is after changes. exit_goes after _ _ call.phase changes refl refl (phases_same call.phase call.phase refl) refl;
    tells = λ result params wakes is after changes. exit_idles after _ _ changes refl refl;
  }) e
    where
      from_none : (n : ℕ) → 0 ≤ n
      from_none n = omega arith

-- ---- events

abbrev AfterMemory : Booted → Kernel → Type 0
AfterMemory boot next = AreInMemory boot (unmarked_at next.slots) next.tables

memory_cases : (boot : Booted) (kernel : Kernel) (cpu : ℕ) → Before (unmarked_at kernel.slots) kernel.tables → AfterMemory boot kernel → EventCases boot kernel cpu (AfterMemory boot)
memory_cases boot kernel cpu sound memory = record {
  answered = λ visit answer inside. memory;
  comes = λ visit slot found bytes inside free lies fits.
      let c = new_call_of boot kernel.tables visit.regs slot found bytes in
      let there = free_there kernel.slots slot free in
      cases_onward c (NewMemory (unmarked_at kernel.slots) c) (λ taken. AfterMemory boot (after_decision kernel visit (Takes slot taken)))
      (λ taken new. new _ (takes_slot kernel.slots taken.cancels slot visit.cpu Free taken.call there))
      (new_memory (unmarked_at kernel.slots) c (before_pinned (cookie_of found) kernel.tables slot (unmarked_at kernel.slots) sound)
      (ap (λ (o : Option ThreadSlot). option_and_then unmarked_in o) there) (memory_pinned (cookie_of found) kernel.tables slot boot (unmarked_at kernel.slots) memory));
  resumes = λ visit call given inside there offered.
      let slot = thread_in visit.regs in
      let taken = resumed_taken boot kernel visit call given in
      resumed_memory (unmarked_at kernel.slots) (resumed_call boot kernel.tables slot call given) sound.joined sound.rising memory (unmarked call)
      (ap (λ (o : Option ThreadSlot). option_and_then unmarked_in o) there) (resumed_on given call) (resumed_same given call) _
      (takes_slot kernel.slots taken.cancels slot visit.cpu (Suspended (client_in visit.regs) call) taken.call there);
  told = λ visit answer its fixed. memory;
  goes = λ visit slot worker call progress its inside there e.
      left slot worker call progress there
      (exit_memory boot (unmarked_at kernel.slots) kernel.tables slot call sound.joined sound.rising memory (ap (λ (o : Option ThreadSlot). option_and_then unmarked_in o) there)
      visit.steps progress e);
}
  where
    left : (slot worker : ℕ) (call : PendingCall) (progress : Progress) → slice_get kernel.slots slot ≡ Some (Active worker call)
        → OnwardMemory boot (unmarked_at kernel.slots) slot progress
        → AreInMemory boot (unmarked_at (slice_set kernel.slots slot (slot_left progress.call (leaving_of slot progress.call))))
        (tables_left progress.tables slot (slot_left progress.call (leaving_of slot progress.call)))
    left slot worker call progress there onward =
        left_all slot progress.call (λ held. AreInMemory boot (unmarked_at (slice_set kernel.slots slot held)) (tables_left progress.tables slot held))
        within
        (memory_goes boot mid _ progress.tables progress.tables slot _ (from_mid (Suspended progress.call.client (unbuffered progress.call))) within
        (unmarked progress.call) (unmarked (unbuffered progress.call)) changes.here refl refl (phases_same progress.call.phase progress.call.phase refl) refl)
        (λ result params told is. memory_still boot mid _ progress.tables (tables_left progress.tables slot Free) slot None (from_mid Free) within refl
        (λ other job instance none works kept. never_none None other refl none))
      where
        mid : Calls
        mid = unmarked_at (slice_set kernel.slots slot (Suspended progress.call.client progress.call))

        changes : Changes (unmarked_at kernel.slots) mid slot (Some (unmarked progress.call))
        changes = leaves_slot kernel.slots slot (Active worker call) (Suspended progress.call.client progress.call) there

        within : AreInMemory boot mid progress.tables
        within = onward mid changes

        from_mid : (held : ThreadSlot) → Changes mid (unmarked_at (slice_set kernel.slots slot held)) slot (unmarked_in held)
        from_mid held =
            let now = leaves_slot kernel.slots slot (Active worker call) held there in
            record { here = now.here; others = λ other apart. now.others other apart ∙ sym (changes.others other apart) }

first_memory : (boot : Booted) → AfterMemory boot (first_kernel boot)
first_memory boot = record {
  instances = All-nil (λ (kept : ℕ × Instance). IsInMemory boot kept.1);
  jobs = λ slot call job instance is works kept. absurd cc;
  frames = omega arith;
}

pub all_in_memory : (boot : Booted) (history : List Event) (kernel : Kernel) → kernel_after boot history ≡ Some kernel → AfterMemory boot kernel
all_in_memory boot history kernel e =
    holds_along boot (AfterMemory boot) (first_memory boot) (λ before k cpu there memory.
    memory_cases boot k cpu (record {
      joined = all_joined boot before k there;
      numbers = numbered boot before k there;
      waiters = waiting boot before k there;
      rising = (in_order boot before k there).instances;
    }) memory) history kernel e

pub kernels_in_memory : Always (λ boot kernel. AreInMemory boot (unmarked_at kernel.slots) kernel.tables)
kernels_in_memory boot history kernel booted e = all_in_memory boot history kernel e

sum_up : (frames used : ℕ) → used ≤ frames → frames - used + used ≡ frames
sum_up frames used few = omega arith

pub frames_add_up : Always (λ boot kernel. free_pages boot kernel.tables.instances + pages_used boot kernel.tables.instances ≡ boot.frames)
frames_add_up boot history kernel booted e =
    sum_up boot.frames (pages_used boot kernel.tables.instances) (all_in_memory boot history kernel e).frames
