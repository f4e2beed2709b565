-- What holds of a kernel and the machine of a realm at an event.
use Rattle.std.specs.Prelude.{◌≡◌, ℕ, ◌≤◌, true, false, List, [], ◌++◌, Option, Some, None, filter_map, map, slice_get}
use Rattle.base.specs.NumberMap.{IsRising, NumberMap, get}
use Rattle.event_journal.specs.declared.event.Event.{Event}
use Rattle.event_journal.specs.declared.event.Event.TheVariants.{Entry, Exit}
use Rattle.ns_ram.specs.declared.read.Read.{Read}
use Rattle.smc_abi.specs.Call.{call_of}
use Rattle.smc_abi.specs.declared.answer.Answer.{Answer}
use Rattle.smc_abi.specs.declared.call.Call.TheVariants.{Resume}
use Rattle.smc_abi.specs.declared.regs.Regs.{Regs}
use Rattle.kernel_model.specs.Application.{Application, Booted, uuid_of}
use Rattle.kernel_model.specs.Argument.{IsNew, reg, thread_in}
use Rattle.kernel_model.specs.Exit.{progress_in_slot}
use Rattle.kernel_model.specs.History.{after_event}
use Rattle.kernel_model.specs.Instances.{app_of, is_single}
use Rattle.kernel_model.specs.Kernel.{Active, Fixed, InSlot, Inside, Kernel, PendingCall, Progress, Tables, ThreadSlot}
use Rattle.kernel_model.specs.Kernel.{Waits, first_kernel}
use Rattle.kernel_model.specs.Leaving.{Interrupted, leaving_of}
use Rattle.kernel_model.specs.Resume.{call_resumed_by}
use Rattle.kernel_model.specs.Sound.{unmarked_at}
use Rattle.kernel_model.specs.SoundCalls.{AreJoined}
use Rattle.kernel_model.specs.SoundWaiters.{AreWaiters}
use Rattle.ta_params.specs.declared.copied_params.CopiedParams.{CopiedParams}
use Rattle.job_model.specs.declared.call_kind.CallKind.{CallKind}
use Rattle.job_model.specs.declared.call_kind.CallKind.TheVariants as kind
use Rattle.group_model.specs.Resumes.{IsAwaitedAlone}
use Rattle.group_model.specs.Group.{Group, GroupCall, nobody_there, run}
use Rattle.group_model.specs.InOrder.{IsInOrder}
use Rattle.group_model.specs.Laws.{IsSound}
use Rattle.group_model.specs.Tied.{Names}
use Rattle.group_model.specs.declared.group_event.GroupEvent.{GroupEvent}
use Rattle.group_model.specs.declared.group_reply.GroupReply.{GroupReply}
use Rattle.realm_model.specs.Realm.{AllSessions, OneSession, Realm}
use Rattle.realm_model.specs.Reading.{Logged, Notes, event_noted, event_of, no_notes, of_machine}
use Rattle.realm_model.specs.Tied.{HasAll, Members, Tied}

-- ---- what is tied

-- a realm and its application; how many steps a job of it takes at most to its stop; and the key of the tags of object files
pub record About : Type 0 where
  pub members : Members
  pub most : ℕ
  pub key : List ℕ

-- the numbers that were noted, and those of the instances, with the key
abbrev pub names_of : About → Notes → NumberMap ℕ → Names
names_of about notes instances = record {
  sessions = notes.sessions;
  next_session = notes.next_session;
  instances = instances;
  numbering = notes.numbering;
  key = about.key;
}

-- no open among these calls waits
abbrev pub OpensRun : NumberMap GroupCall → Type 0
OpensRun calls = (number : ℕ) (own : GroupCall) (params : CopiedParams) → get calls number ≡ Some own →
    own.kind ≡ kind.Open → own.phase ≡ Waits params → ⊥

-- one session has one instance, and its open never waits; and before that has come, with the next number still 0, nobody is
-- there
pub record IsAsOne (next_session : ℕ) (instances : NumberMap ℕ) (g : Group) : Type 0 where
  pub runs : OpensRun g.calls
  pub lone : (first second own other : ℕ) → get instances first ≡ Some own → get instances second ≡ Some other →
      first ≡ second
  pub fresh : next_session ≡ 0 → (g ≡ nobody_there g.key) × (instances ≡ [])

abbrev pub AsRealm : Realm → ℕ → NumberMap ℕ → Group → Type 0
AsRealm (OneSession member) next_session instances g = IsAsOne next_session instances g
AsRealm (AllSessions app) next_session instances g = Unit {0}

-- slots and tables are tied to the machine by what was noted and some numbers of the instances
pub record AreTied (about : About) (slots : List ThreadSlot) (tables : Tables) (notes : Notes) (g : Group) : Type 0 where
  pub instances : NumberMap ℕ
  pub tied : Tied about.members (names_of about notes instances) slots tables g
  pub as_realm : AsRealm about.members.realm notes.next_session instances g

-- what of it happens to the machine, and what is answered to that
abbrev pub events_in : List Logged → List GroupEvent
events_in log = map (λ (item : GroupEvent × Option GroupReply). item.0) (filter_map of_machine log)

abbrev pub replies_in : List Logged → List GroupReply
replies_in log = filter_map (λ (item : GroupEvent × Option GroupReply). item.1) (filter_map of_machine log)

-- by what was noted since, the machine goes on and replies as was noted, and is tied to the kernel then
pub record GoesAlong (about : About) (before : Notes) (g : Group) (next : Kernel) (after : Notes) : Type 0 where
  pub items : List Logged
  pub noted : after.log ≡ before.log ++ items
  pub then : Group
  pub replies : run about.most about.members.app g (events_in items) ≡ Some (then, replies_in items)
  pub tied : AreTied about next.slots next.tables after then

-- the machine goes along with an event, where it is tied to the kernel before that
abbrev pub GoesAlongWith : Booted → About → Kernel → Kernel → Event → Notes → Group → Type 0
GoesAlongWith boot about kernel next event notes g =
    after_event boot kernel event ≡ Some next → AreTied about kernel.slots kernel.tables notes g →
    GoesAlong about notes g next (event_noted boot about.members.realm kernel next notes event)

-- whether the application's sessions share an instance is as the realm says: one session has its own, and all sessions of
-- an application share one
abbrev pub SharesAs : Realm → Application → Type 0
SharesAs (OneSession member) app = is_single app ≡ false
SharesAs (AllSessions of) app = (is_single app ≡ true) × (of ≡ app)

-- the application is the boot's, and shares as the realm says
pub record IsRealm (boot : Booted) (members : Members) : Type 0 where
  pub of_boot : app_of boot (uuid_of members.app) ≡ Some members.app
  pub shares : SharesAs members.realm members.app

-- it is one session
abbrev pub IsOne : Realm → Type 0
IsOne (OneSession member) = Unit {0}
IsOne (AllSessions app) = ⊥

-- how the calls of each kernel that a legal history comes to fit their sessions and instances, and those that wait
pub record AreFitting (members : Members) (kernel : Kernel) : Type 0 where
  pub joined : AreJoined (unmarked_at kernel.slots) kernel.tables
  pub waiters : AreWaiters (unmarked_at kernel.slots) kernel.tables.waiters
  pub alone : HasAll members.realm → IsAwaitedAlone members.app kernel
  pub rising : IsRising kernel.tables.sessions

-- how a call of one session comes: its open comes first, and is of the application, and each other call comes behind it
abbrev pub ComesAs : Realm → Application → Notes → PendingCall → CallKind → Type 0
ComesAs (OneSession member) app notes call kind.Open = (call.uuid ≡ Some (uuid_of app)) × (notes.next_session ≡ 0)
ComesAs (OneSession member) app notes call _ = get notes.sessions member ≡ Some 0
ComesAs (AllSessions of) app notes call call_kind = Unit {0}

-- ---- laws

-- as the kernel boots its slots and tables are tied to the machine in which nobody is there
abbrev pub BootsAreTied : Type 0
BootsAreTied = (boot : Booted) (about : About) →
    AreTied about (first_kernel boot).slots (first_kernel boot).tables no_notes (nobody_there about.key)

-- with the exit from a call that isn't the realm's: nothing happens to the machine
abbrev pub OtherExitsKeepTied : Type 0
OtherExitsKeepTied =
    (boot : Booted) (about : About) (kernel next : Kernel) (cpu steps slot : ℕ) (came : List ℕ) (regs : Regs)
    (notes : Notes) (g : Group) → slice_get kernel.processors cpu ≡ Some (Inside came steps (InSlot slot)) →
    get notes.numbering.in_slots slot ≡ None → GoesAlongWith boot about kernel next (Exit cpu regs) notes g

-- with an exit from a call of the realm that isn't an interrupt: the machine's call goes out with the same, where no job takes
-- more steps than the machine gives it
abbrev pub OwnExitsKeepTied : Type 0
OwnExitsKeepTied =
    (boot : Booted) (about : About) (kernel next : Kernel) (cpu steps slot number : ℕ) (came : List ℕ) (regs : Regs)
    (progress : Progress) (notes : Notes) (g : Group) →
    slice_get kernel.processors cpu ≡ Some (Inside came steps (InSlot slot)) →
    get notes.numbering.in_slots slot ≡ Some number → progress_in_slot kernel steps slot ≡ Some progress →
    (leaving_of slot progress.call ≡ Interrupted → ⊥) → IsRising kernel.tables.sessions → IsInOrder g →
    progress.call.steps ≤ about.most → GoesAlongWith boot about kernel next (Exit cpu regs) notes g

-- with a new call that isn't the realm's: nothing happens to the machine
abbrev pub OtherCallsKeepTied : Type 0
OtherCallsKeepTied =
    (boot : Booted) (about : About) (kernel next : Kernel) (cpu steps slot : ℕ) (regs : Regs) (reads : List Read)
    (now : PendingCall) (notes : Notes) (g : Group) → IsRealm boot about.members → IsSound kernel → IsNew regs.a →
    slice_get next.processors cpu ≡ Some (Inside regs.a steps (InSlot slot)) →
    slice_get next.slots slot ≡ Some (Active cpu now) →
    event_of about.members.realm next.tables notes now now.kind ≡ None →
    GoesAlongWith boot about kernel next (Entry cpu regs steps reads) notes g

-- with the entry and the exit of a fixed answer: nothing happens to the machine
pub record FixedKeepTied : Type 0 where
  pub entry : (boot : Booted) (about : About) (kernel next : Kernel) (cpu steps : ℕ) (regs : Regs) (reads : List Read)
      (answer : Answer) (notes : Notes) (g : Group) →
      slice_get next.processors cpu ≡ Some (Inside regs.a steps (Fixed answer)) →
      GoesAlongWith boot about kernel next (Entry cpu regs steps reads) notes g
  pub exit : (boot : Booted) (about : About) (kernel next : Kernel) (cpu steps : ℕ) (came : List ℕ) (regs : Regs)
      (answer : Answer) (notes : Notes) (g : Group) →
      slice_get kernel.processors cpu ≡ Some (Inside came steps (Fixed answer)) →
      GoesAlongWith boot about kernel next (Exit cpu regs) notes g

-- with an exit from a call of the realm that is an interrupt: nothing happens to the machine, and the call's job is further
-- ahead of the machine's
abbrev pub InterruptsKeepTied : Type 0
InterruptsKeepTied =
    (boot : Booted) (about : About) (kernel next : Kernel) (cpu steps slot number : ℕ) (came : List ℕ) (regs : Regs)
    (progress : Progress) (notes : Notes) (g : Group) →
    slice_get kernel.processors cpu ≡ Some (Inside came steps (InSlot slot)) →
    get notes.numbering.in_slots slot ≡ Some number → progress_in_slot kernel steps slot ≡ Some progress →
    leaving_of slot progress.call ≡ Interrupted → GoesAlongWith boot about kernel next (Exit cpu regs) notes g

-- with a resume of a call that isn't the realm's: nothing happens to the machine
abbrev pub OtherResumesKeepTied : Type 0
OtherResumesKeepTied =
    (boot : Booted) (about : About) (kernel next : Kernel) (cpu steps : ℕ) (regs : Regs) (reads : List Read)
    (call : PendingCall) (notes : Notes) (g : Group) → AreWaiters (unmarked_at kernel.slots) kernel.tables.waiters →
    call_of (reg regs.a 0) ≡ Resume → call_resumed_by kernel.slots regs.a ≡ Some call →
    get notes.numbering.in_slots (thread_in regs.a) ≡ None →
    GoesAlongWith boot about kernel next (Entry cpu regs steps reads) notes g

-- with a resume of a call of the realm: the machine's call sees that it was cancelled, is told whether there is room where
-- its instance is gone, and is given the same. One session's open never waits
abbrev pub OwnResumesKeepTied : Type 0
OwnResumesKeepTied =
    (boot : Booted) (about : About) (kernel next : Kernel) (cpu steps number : ℕ) (regs : Regs) (reads : List Read)
    (call : PendingCall) (notes : Notes) (g : Group) →
    IsRealm boot about.members → about.key ≡ boot.key → AreFitting about.members kernel →
    call_of (reg regs.a 0) ≡ Resume → call_resumed_by kernel.slots regs.a ≡ Some call →
    get notes.numbering.in_slots (thread_in regs.a) ≡ Some number → IsInOrder g →
    GoesAlongWith boot about kernel next (Entry cpu regs steps reads) notes g

-- with a new call of the realm: the machine does the same with its event
abbrev pub OwnCallsKeepTied : Type 0
OwnCallsKeepTied =
    (boot : Booted) (about : About) (kernel next : Kernel) (cpu steps slot : ℕ) (regs : Regs) (reads : List Read)
    (now : PendingCall) (came : GroupEvent) (notes : Notes) (g : Group) → IsRealm boot about.members →
    about.key ≡ boot.key → IsSound kernel → IsNew regs.a →
    slice_get next.processors cpu ≡ Some (Inside regs.a steps (InSlot slot)) →
    slice_get next.slots slot ≡ Some (Active cpu now) → ComesAs about.members.realm about.members.app notes now now.kind →
    event_of about.members.realm next.tables notes now now.kind ≡ Some came →
    GoesAlongWith boot about kernel next (Entry cpu regs steps reads) notes g
