-- Isolation: whatever else happens, a session is answered as the machine of its own, which has its events alone. This
-- project's own.
use Rattle.std.specs.Prelude.{◌≡◌, ℕ, ◌*◌, ◌++◌, false, List, [], ◌∷◌, Option, Some, None, length, slice_get, take}
use Rattle.std.specs.Option.{option_and_then}
use Rattle.base.specs.NumberMap.{get}
use Rattle.event_journal.specs.declared.event.Event.{Event}
use Rattle.event_journal.specs.declared.event.Event.TheVariants.{Entry}
use Rattle.job_model.specs.declared.call_kind.CallKind.TheVariants as kind
use Rattle.ns_ram.specs.declared.read.Read.{Read}
use Rattle.kernel_model.specs.Application.{Application, Booted}
use Rattle.kernel_model.specs.Argument.{IsNew}
use Rattle.kernel_model.specs.History.{IsLegal, after_event, kernel_after}
use Rattle.kernel_model.specs.Instances.{app_of, is_single}
use Rattle.kernel_model.specs.Kernel.{Active, InSlot, Inside, Instance, Kernel, PendingCall}
use Rattle.kernel_model.specs.SoundCalls.{is_over}
use Rattle.session_table.specs.declared.session.Session.{Session}
use Rattle.smc_abi.specs.declared.regs.Regs.{Regs}
use Rattle.own_model.specs.Own.{Logged, event_of, events_in, noted, own_app, own_events, own_replies, replies_in}
use Rattle.own_model.specs.Solo.{solo_replies}
use Rattle.own_model.specs.Tied.{call_at}

-- in a legal history the open of the session has come in, for this application, whose sessions share no instance
pub record IsSessionOf (boot : Booted) (history : List Event) (session : ℕ) (app : Application) : Type 0 where
  pub legal : IsLegal boot history
  pub of_app : own_app boot history session ≡ Some app
  pub shares_none : is_single app ≡ false

-- no job takes more steps to its stop: each entry is granted at most a million
abbrev pub steps_in : List Event → ℕ
steps_in history = 1000000 * length history

-- it is answered as its machine answers to its events
abbrev pub AnsweredAsAlone : Type 0
AnsweredAsAlone = (boot : Booted) (history : List Event) (session : ℕ) (app : Application) →
    IsSessionOf boot history session app →
    solo_replies (steps_in history) app boot.key (own_events boot history session) ≡ Some (own_replies boot history session)

-- so in two worlds: after any two legal histories, of any two boots that have the same key, sessions of one application
-- to which the same has happened were answered the same
abbrev pub SameEventsSameReplies : Type 0
SameEventsSameReplies = (boot another : Booted) (history other : List Event) (session number : ℕ) (app : Application) →
    boot.key ≡ another.key → IsSessionOf boot history session app → IsSessionOf another other number app →
    own_events boot history session ≡ own_events another other number →
    own_replies boot history session ≡ own_replies another other number

-- the first entries of what is noted of a session: its events with their replies
abbrev pub first_entries : Booted → List Event → ℕ → ℕ → List Logged
first_entries boot history session count = take count (noted boot history session).log

-- and wherever the same has happened to them, not only in the end: they were answered the same so far
abbrev pub SameBeginningsSameReplies : Type 0
SameBeginningsSameReplies =
    (boot another : Booted) (history other : List Event) (session number count : ℕ) (app : Application) →
    boot.key ≡ another.key → IsSessionOf boot history session app → IsSessionOf another other number app →
    events_in (first_entries boot history session count) ≡ events_in (first_entries another other number count) →
    replies_in (first_entries boot history session count) ≡ replies_in (first_entries another other number count)

-- ---- the sessions that this is about

-- the kernel keeps the session, on an instance of this application, whose sessions share none
pub record IsKeptFor (boot : Booted) (kernel : Kernel) (session : ℕ) (app : Application) : Type 0 where
  pub kept : Session
  pub there : get kernel.tables.sessions session ≡ Some kept
  pub instance : Instance
  pub has : get kernel.tables.instances kept.instance ≡ Some instance
  pub of_app : app_of boot instance.uuid ≡ Some app
  pub shares_none : is_single app ≡ false

-- after a legal history it is about each such session, and whatever comes then, it stays about it
pub record KeptSessionsAreKnown : Type 0 where
  pub known : (boot : Booted) (history : List Event) (kernel : Kernel) (session : ℕ) (app : Application) →
      kernel_after boot history ≡ Some kernel → IsKeptFor boot kernel session app →
      own_app boot history session ≡ Some app
  pub stays : (boot : Booted) (history more : List Event) (session : ℕ) (app : Application) →
      IsLegal boot (history ++ more) → own_app boot history session ≡ Some app →
      own_app boot (history ++ more) session ≡ Some app

-- the open of the session, for this application, is in a slot and hasn't ended: it runs, has asked for something, or waits for
-- the instance that it is to share, which may be gone by now
pub record HasPendingOpen (boot : Booted) (kernel : Kernel) (session : ℕ) (app : Application) : Type 0 where
  pub slot : ℕ
  pub call : PendingCall
  pub in_slot : call_at kernel.slots slot ≡ Some call
  pub opens : call.kind ≡ kind.Open
  pub pending : is_over call.phase ≡ false
  pub of_session : call.session ≡ session
  pub of_app : option_and_then (app_of boot) call.uuid ≡ Some app

-- after a legal history it is also about each session whose open hasn't ended, of the application that the open names
abbrev pub PendingOpensAreKnown : Type 0
PendingOpensAreKnown = (boot : Booted) (history : List Event) (kernel : Kernel) (session : ℕ) (app : Application) →
    kernel_after boot history ≡ Some kernel → HasPendingOpen boot kernel session app → is_single app ≡ false →
    own_app boot history session ≡ Some app

-- ---- their calls

-- behind the history this event is the entry of a new call, which gets a slot, in a session that the kernel keeps then
pub record BringsCall (boot : Booted) (history : List Event) (happened : Event) (call : PendingCall) : Type 0 where
  pub cpu : ℕ
  pub regs : Regs
  pub steps : ℕ
  pub reads : List Read
  pub enters : happened ≡ Entry cpu regs steps reads
  pub is_new : IsNew regs.a
  -- the kernels before the entry and after it
  pub kernel : Kernel
  pub next : Kernel
  pub before : kernel_after boot history ≡ Some kernel
  pub after : after_event boot kernel happened ≡ Some next
  pub slot : ℕ
  pub inside : slice_get next.processors cpu ≡ Some (Inside regs.a steps (InSlot slot))
  pub active : slice_get next.slots slot ≡ Some (Active cpu call)
  pub session : Session
  pub kept : get next.tables.sessions call.session ≡ Some session

-- there is such an event, and a log of events with their replies grows by it, beside which stands no reply
pub record GrowsBy {E R : Type 0} (before after : List (E × Option R)) (event : Option E) : Type 0 where
  pub came : E
  pub is : event ≡ Some came
  pub last : after ≡ before ++ (came, None) ∷ []

-- so each call of such a session is the last event in the session's log, the open among them
abbrev pub CallsAreInLogs : Type 0
CallsAreInLogs = (boot : Booted) (history : List Event) (happened : Event) (call : PendingCall) (app : Application) →
    BringsCall boot history happened call → IsSessionOf boot (history ++ happened ∷ []) call.session app →
    GrowsBy (noted boot history call.session).log (noted boot (history ++ happened ∷ []) call.session).log
    (event_of call.session call)
