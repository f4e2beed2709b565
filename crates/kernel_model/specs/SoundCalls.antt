-- Calls with their sessions and instances, in every kernel that a legal history comes to. This project's own.
use Rattle.std.specs.Prelude.{◌≡◌, ℕ, Bool, true, false, Option, Some, None}
use Rattle.base.specs.NumberMap.{get}
use Rattle.job_model.specs.Job.{Job}
use Rattle.job_model.specs.declared.call_kind.CallKind.{CallKind}
use Rattle.job_model.specs.declared.call_kind.CallKind.TheVariants as kind
use Rattle.session_table.specs.declared.session.Session.{Session}
use Rattle.kernel_model.specs.Kernel.{CallPhase, Runs, Asks, Waits, Ends, PendingCall, Instance, Tables}
use Rattle.kernel_model.specs.Sound.{Calls}
use Rattle.kernel_model.specs.SoundNumbers.{is_on_instance}

-- the job of a call that works: its application runs, or has asked
abbrev pub job_in : CallPhase → Option Job
job_in (Runs job) = Some job
job_in (Asks job wanted payload) = Some job
job_in (Waits params) = None
job_in (Ends result params told wakes) = None

-- its result is shown from now on
abbrev pub is_told : CallPhase → Bool
is_told (Runs job) = false
is_told (Asks job wanted payload) = false
is_told (Waits params) = false
is_told (Ends result params told wakes) = told

-- it has a result
abbrev pub is_over : CallPhase → Bool
is_over (Runs job) = false
is_over (Asks job wanted payload) = false
is_over (Waits params) = false
is_over (Ends result params told wakes) = true

-- a call in a session that was opened before it
abbrev pub is_in_session : CallKind → Bool
is_in_session kind.Open = false
is_in_session (kind.Invoke func) = true
is_in_session kind.Close = true
is_in_session kind.Settled = false

-- the session that is kept is the call's: of its client and on its instance, opened or not
pub record HasSession (found : Option Session) (call : PendingCall) (opened : Bool) : Type 0 where
  pub session : Session
  pub kept : found ≡ Some session
  pub instance : session.instance ≡ call.instance
  pub client : session.client ≡ call.client
  pub is_opened : session.opened ≡ opened

-- the call of a slot and what is kept under its session's number
pub record FitsSession (found : Option Session) (call : PendingCall) : Type 0 where
  -- until its result is told an open has its session, which isn't opened
  pub opening : call.kind ≡ kind.Open → is_told call.phase ≡ false → HasSession found call false
  -- an invoke or a close that works has its session, which is opened
  pub working : (job : Job) → job_in call.phase ≡ Some job → is_in_session call.kind ≡ true → HasSession found call true
  -- and where one that waits or has ended still has it, it is opened too
  pub still : (session : Session) → is_in_session call.kind ≡ true → found ≡ Some session → HasSession found call true

-- the instance that is kept is held by the call of this slot
pub record Holds (found : Option Instance) (slot : ℕ) (call : PendingCall) : Type 0 where
  pub instance : Instance
  pub kept : found ≡ Some instance
  pub holder : instance.holder ≡ Some slot
  pub uuid : call.uuid ≡ Some instance.uuid

-- the call of a slot and what is kept under its instance's number
pub record FitsInstance (found : Option Instance) (slot : ℕ) (call : PendingCall) : Type 0 where
  -- one that was settled at its entry had a result from then on
  pub settled : is_over call.phase ≡ false → is_on_instance call.kind ≡ true
  -- one that works holds its instance
  pub working : (job : Job) → job_in call.phase ≡ Some job → Holds found slot call
  -- the instance is of the call's application
  pub application : (instance : Instance) → is_on_instance call.kind ≡ true → found ≡ Some instance →
      call.uuid ≡ Some instance.uuid

-- the call of a slot fits the tables
pub record Fits (tables : Tables) (slot : ℕ) (call : PendingCall) : Type 0 where
  pub session : FitsSession (get tables.sessions call.session) call
  pub instance : FitsInstance (get tables.instances call.instance) slot call

-- the holder of the instance of a number is the slot of a call that works on it
pub record IsHolder (calls : Calls) (number slot : ℕ) : Type 0 where
  pub call : PendingCall
  pub job : Job
  pub in_slot : calls slot ≡ Some call
  pub works : job_in call.phase ≡ Some job
  pub on_instance : call.instance ≡ number

-- calls, sessions and instances fit together
pub record AreJoined (calls : Calls) (tables : Tables) : Type 0 where
  pub each : (slot : ℕ) (call : PendingCall) → calls slot ≡ Some call → Fits tables slot call
  pub holders : (number slot : ℕ) (instance : Instance) → get tables.instances number ≡ Some instance →
      instance.holder ≡ Some slot → IsHolder calls number slot
  -- two opens are of two sessions
  pub opens : (one other : ℕ) (call another : PendingCall) → calls one ≡ Some call → calls other ≡ Some another →
      call.kind ≡ kind.Open → another.kind ≡ kind.Open → call.session ≡ another.session → one ≡ other
  -- the calls on one instance, even on one that is gone, are of one application
  pub applications : (one other : ℕ) (call another : PendingCall) → calls one ≡ Some call →
      calls other ≡ Some another → is_on_instance call.kind ≡ true → is_on_instance another.kind ≡ true →
      call.instance ≡ another.instance → call.uuid ≡ another.uuid
