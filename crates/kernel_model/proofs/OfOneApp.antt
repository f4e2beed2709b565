-- A session stays on its instance, and that of one application, after each event of a legal history.
use Rattle.std.proofs.Common.{◌≡◌, ℕ, ◌<◌, ◌≤◌, true, false, List, Option, Some, None, ◌⊎◌, inl, inr, refl, ap, subst, sym, ◌∙◌}
use Rattle.std.proofs.Common.{arith}
use Rattle.std.specs.Prelude.{All}
use Rattle.base.specs.NumberMap.{NumberMap, get, insert}
use Rattle.base.proofs.MapLemmas.{All-insert}
use Rattle.event_journal.specs.declared.event.Event.{Event}
use Rattle.job_model.specs.declared.call_kind.CallKind.TheVariants.{Open}
use Rattle.session_table.specs.declared.session.Session.{Session}
use Rattle.kernel_model.specs.Application.{Booted}
use Rattle.kernel_model.specs.Argument.{thread_in}
use Rattle.kernel_model.specs.Decision.{Takes}
use Rattle.kernel_model.specs.Entry.{after_decision}
use Rattle.kernel_model.specs.Exit.{progress_of, tables_left}
use Rattle.kernel_model.specs.History.{after_event, kernel_after}
use Rattle.kernel_model.specs.Kernel.{Asks, CallPhase, Ends, Instance, Kernel, PendingCall, Progress, Runs, Tables, Waits}
use Rattle.kernel_model.specs.NewCall.{NewCall, new_call_of}
use Rattle.kernel_model.specs.Resume.{Resumed, onward_of, resumed_call}
use Rattle.kernel_model.specs.Sound.{Calls, unmarked_at}
use Rattle.kernel_model.specs.SoundCalls.{AreJoined, Fits, HasSession, is_over, is_told}
use Rattle.kernel_model.specs.SoundNumbers.{is_on_instance}
use Rattle.kernel_model.specs.SoundWaiters.{Awaited, awaited, awaited_in}
use Rattle.kernel_model.proofs.SoundCallsJoined.{all_joined}
use Rattle.kernel_model.proofs.SoundClaims.{AfterClaims, Claims, IsKeptUp, claim_cases}
use Rattle.kernel_model.proofs.SoundEvents.{EventCases, after_one}
use Rattle.kernel_model.proofs.SoundExits.{exits_all, left_all}
use Rattle.kernel_model.proofs.SoundJoined.{some_same}
use Rattle.kernel_model.proofs.SoundMaps.{after_all, panic_all, unrun_all}
use Rattle.kernel_model.proofs.SoundNewCalls.{NewCases, cases_onward}
use Rattle.kernel_model.proofs.SoundNumbers.{numbered, numbers_rise}
use Rattle.kernel_model.proofs.SoundOrder.{in_order}
use Rattle.kernel_model.proofs.SoundRising.{all_got}
use Rattle.kernel_model.proofs.SoundResumes.{resumes_all}
use Rattle.kernel_model.proofs.SoundWaiters.{waiting}
use Rattle.kernel_model.specs.Turns.{cpu_of}

-- the session is on this instance
abbrev pub IsOn : ℕ → ℕ → ℕ × Session → Type 0
IsOn session instance kept = kept.0 ≡ session → kept.1.instance ≡ instance

-- all that is claimed of the instance is of this application
abbrev pub ClaimedFor : ℕ → List ℕ → Calls → NumberMap Instance → Type 0
ClaimedFor number uuid calls instances = (other : List ℕ) → Claims calls instances number other → other ≡ uuid

-- where the session is kept it is on this instance, which is of this application where it is kept, and both numbers were
-- given
pub record IsOfApp (session instance : ℕ) (uuid : List ℕ) (kernel : Kernel) : Type 0 where
  pub on : All (IsOn session instance) kernel.tables.sessions
  pub claimed : ClaimedFor instance uuid (unmarked_at kernel.slots) kernel.tables.instances
  pub session_given : session < kernel.tables.next_session
  pub instance_given : instance < kernel.tables.next_instance

-- ---- sessions

module _ (session instance : ℕ) where
  abbrev StayOn : NumberMap Session → Type 0
  StayOn sessions = All (IsOn session instance) sessions

  new_on : (c : NewCall) → session < c.tables.next_session → StayOn c.tables.sessions
      → NewCases c (λ taken. StayOn taken.tables.sessions)
  new_on c given on = record {
    settles = λ code. on;
    settles_open = λ app login code. on;
    settles_invoke = λ named code is. on;
    cancels = λ named is. on;
    registers = λ param pages new room good. on;
    unregisters = λ param unpinned. on;
    opens_kept = λ wanted app copies copied kept shown shared free. another _;
    opens_awaited = λ wanted app copies copied number shown shared awaits. another _;
    opens_next = λ wanted app copies copied shown shared awaits. another _;
    open_waits = λ wanted app copies copied kept shown shared held. another _;
    invokes = λ named copies copied is alive free. on;
    invoke_waits = λ named copies copied is alive held. on;
    closes = λ named is free. on;
    close_waits = λ named is held. on;
  }
    where
      later : (a n : ℕ) → a < n → n ≡ a → ⊥
      later a n less same = omega arith

      another : (reserved : Session) → StayOn (insert c.tables.sessions c.tables.next_session reserved)
      another reserved =
          All-insert (IsOn session instance) c.tables.sessions c.tables.next_session reserved on
          (λ same. absurd (later session c.tables.next_session given same))

  resumed_on : (r : Resumed) → StayOn r.tables.sessions → StayOn (onward_of r).tables.sessions
  resumed_on r on = resumes_all r (λ progress. StayOn progress.tables.sessions) (record {
    runs = λ job is. on;
    asks_still = λ job wanted payload is. on;
    answered = λ job wanted payload answer advance is e. on;
    ends = λ result params told wakes left is. on;
    fails = λ params code is. on;
    sleeps = λ params is. on;
    opens = λ params kept app found ready alive opening is. on;
    opens_new = λ params kept app awake none opening is pages. on;
    invokes = λ params kept found func ready alive is. on;
    closes = λ params kept found ready is. on;
  })

  exit_on : (tables : Tables) (call : PendingCall) (granted : ℕ) (progress : Progress) → StayOn tables.sessions
      → progress_of tables call granted ≡ Some progress → StayOn progress.tables.sessions
  exit_on tables call granted progress on e = exits_all tables call granted (λ (p : Progress). StayOn p.tables.sessions) progress (record {
    left = λ job later is grant. on;
    ends = λ job used end is grant.
        after_all (IsOn session instance) (λ number kept context its. its) call.kind tables.sessions call.session end.result.result end.context on;
    panics = λ job used code is grant.
        panic_all (IsOn session instance) (λ number kept context its. its) call.kind tables.sessions call.session on;
    asks = λ job later used wanted payload is grant. on;
    asked = λ job wanted payload is. on;
    waits = λ params is. on;
    told = λ result params wakes is. on;
    tells = λ result params wakes is.
        unrun_all (IsOn session instance) (λ number kept context its. its) call.kind tables.sessions call.session on;
  }) e

  on_cases : (boot : Booted) (kernel : Kernel) (cpu : ℕ) → session < kernel.tables.next_session
      → StayOn kernel.tables.sessions → EventCases boot kernel cpu (λ next. StayOn next.tables.sessions)
  on_cases boot kernel cpu given on = record {
    answered = λ visit answer inside. on;
    comes = λ visit slot found bytes inside free lies fits.
        let c = new_call_of boot kernel.tables visit.regs slot found bytes in
        cases_onward c (λ taken. StayOn taken.tables.sessions)
        (λ taken. StayOn (after_decision kernel visit (Takes slot taken)).tables.sessions) (λ taken kept. kept) (new_on c given on);
    resumes = λ visit call offer inside there offered.
        resumed_on (resumed_call boot kernel.tables (thread_in visit.regs) call offer) on;
    told = λ visit answer its fixed. on;
    goes = λ visit slot worker call progress its inside there e.
        let after = exit_on kernel.tables call visit.steps progress on e in
        left_all slot progress.call (λ held. StayOn (tables_left progress.tables slot held).sessions) after after
        (λ result params told is. after);
  }

-- ---- claims

claims_kept_up : (boot : Booted) (number next : ℕ) (uuid : List ℕ) → number < next
    → IsKeptUp boot next (ClaimedFor number uuid)
claims_kept_up boot number next uuid below = record {
  still = λ before after tables now claimed old other claim. claimed other (old number other claim);
  made = λ before after tables now its claimed none old other claim. either before tables claimed other (old number other claim);
}
  where
    apart : (a n : ℕ) → a < n → n ≡ a → ⊥
    apart a n less same = omega arith

    either : (before : Calls) (tables : NumberMap Instance) → ClaimedFor number uuid before tables → (other : List ℕ) {its : List ℕ}
        → Claims before tables number other ⊎ ((next ≡ number) × (its ≡ other)) → other ≡ uuid
    either before tables claimed other (inl claim) = claimed other claim
    either before tables claimed other (inr new) = absurd (apart number next below new.0)

-- ---- each event

module _ (boot : Booted) (before : List Event) (kernel next : Kernel) (happened : Event)
    (there : kernel_after boot before ≡ Some kernel) (comes : after_event boot kernel happened ≡ Some next) where
  pub stays_of_app : (session instance : ℕ) (uuid : List ℕ) → IsOfApp session instance uuid kernel
      → IsOfApp session instance uuid next
  stays_of_app session instance uuid of =
      let rise = numbers_rise boot before kernel next happened there comes in
      record {
        on =
            after_one boot kernel next (λ k. All (IsOn session instance) k.tables.sessions) happened
            (on_cases session instance boot kernel (cpu_of happened) of.session_given of.on) comes;
        claimed =
            after_one boot kernel next (AfterClaims (ClaimedFor instance uuid)) happened
            (claim_cases boot (ClaimedFor instance uuid) kernel (cpu_of happened)
            (claims_kept_up boot instance kernel.tables.next_instance uuid of.instance_given) (record {
              joined = all_joined boot before kernel there;
              numbers = numbered boot before kernel there;
              waiters = waiting boot before kernel there;
              rising = (in_order boot before kernel there).instances;
            }) of.claimed) comes;
        session_given = no_lower session kernel.tables.next_session next.tables.next_session of.session_given rise.session;
        instance_given = no_lower instance kernel.tables.next_instance next.tables.next_instance of.instance_given rise.instance;
      }
    where
      no_lower : (a n m : ℕ) → a < n → n ≤ m → a < m
      no_lower a n m lt le = omega arith

-- ---- the open

-- a slot has the open of this session, of the application of this UUID, whose result wasn't told yet
pub record HasOpen (session : ℕ) (uuid : List ℕ) (kernel : Kernel) : Type 0 where
  pub slot : ℕ
  pub call : PendingCall
  pub in_slot : unmarked_at kernel.slots slot ≡ Some call
  pub opens : call.kind ≡ Open
  pub untold : is_told call.phase ≡ false
  pub of_session : call.session ≡ session
  pub of_app : call.uuid ≡ Some uuid

-- a call that is awaited with this
record IsAwaited (found : Option PendingCall) (number : ℕ) (uuid : List ℕ) : Type 0 where
  call : PendingCall
  there : found ≡ Some call
  over : is_over call.phase ≡ false
  instance : call.instance ≡ number
  app : call.uuid ≡ Some uuid

awaits : (found : Option PendingCall) (number : ℕ) (uuid : List ℕ) → awaited found ≡ Some (number, Some uuid)
    → IsAwaited found number uuid
awaits None number uuid e = absurd cc
awaits (Some call) number uuid e = by call.phase refl e
  where
    by : (phase : CallPhase) → call.phase ≡ phase → awaited_in phase (call.instance, call.uuid) ≡ Some (number, Some uuid)
        → IsAwaited (Some call) number uuid
    by (Runs job) is waited = absurd cc
    by (Asks job wanted payload) is waited = absurd cc
    by (Waits params) is waited =
        let own : Awaited = (call.instance, call.uuid) in
        let named : Awaited = (number, Some uuid) in
        let same = some_same own named waited in
        record {
          call = call;
          there = refl;
          over = ap is_over is;
          instance = ap (λ (a : Awaited). a.0) same;
          app = ap (λ (a : Awaited). a.1) same;
        }
    by (Ends result params told wakes) is waited = absurd cc

module _ (boot : Booted) (history : List Event) (kernel : Kernel) (there : kernel_after boot history ≡ Some kernel)
    (session : ℕ) (uuid : List ℕ) (has : HasOpen session uuid kernel) where
  joined : AreJoined (unmarked_at kernel.slots) kernel.tables
  joined = all_joined boot history kernel there

  fits : Fits kernel.tables has.slot has.call
  fits = joined.each has.slot has.call has.in_slot

  reserved : HasSession (get kernel.tables.sessions has.call.session) has.call false
  reserved = fits.session.opening has.opens has.untold

  on_one : is_on_instance has.call.kind ≡ true
  on_one = ap is_on_instance has.opens

  claimed_so : ClaimedFor has.call.instance uuid (unmarked_at kernel.slots) kernel.tables.instances
  claimed_so other (inl (instance, kept, same)) =
      sym same ∙ some_same instance.uuid uuid (sym (fits.instance.application instance on_one kept) ∙ has.of_app)
  claimed_so other (inr (at, waited)) =
      let its = awaits (unmarked_at kernel.slots at) has.call.instance other waited in
      let on_its = (joined.each at its.call its.there).instance.settled its.over in
      some_same other uuid
      (sym its.app ∙ joined.applications at has.slot its.call has.call its.there has.in_slot on_its on_one its.instance ∙ has.of_app)

  -- so its session and its instance are of that application
  pub opened_of_app : IsOfApp session has.call.instance uuid kernel
  opened_of_app =
      let given = (numbered boot history kernel there).given has.slot has.call has.in_slot in
      record {
        on =
            all_got (IsOn session has.call.instance) kernel.tables.sessions (in_order boot history kernel there).sessions.rising
            (λ number kept found same.
            ap (λ (s : Session). s.instance)
            (some_same kept reserved.session
            (sym found ∙ ap (λ (n : ℕ). get kernel.tables.sessions n) (same ∙ sym has.of_session) ∙ reserved.kept))
            ∙ reserved.instance);
        claimed = claimed_so;
        session_given = subst (λ (n : ℕ). n < kernel.tables.next_session) has.of_session given.session;
        instance_given = given.instance;
      }
