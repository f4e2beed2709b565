-- A resumed call fits the tables, and leaves the others as they fit.
use Rattle.std.proofs.Common.{◌≡◌, ℕ, true, false, List, [], ◌∷◌, Option, Some, None, refl, ap, subst, sym, ◌∙◌}
use Rattle.std.specs.Prelude.{All, bytes_eq}
use Rattle.std.specs.Option.{option_and_then}
use Rattle.std.proofs.lemmas.List.Elements.{All-cons, All-nil}
use Rattle.std.proofs.lemmas.Slice.Eq.{bytes_eq-Decides}
use Rattle.base.specs.NumberMap.{NumberMap, get, insert}
use Rattle.job_model.specs.Job.{Job, with_cancel_seen}
use Rattle.job_model.specs.Steps.{Advance, Goes, Stops}
use Rattle.job_model.specs.Steps as steps
use Rattle.job_model.specs.declared.call_kind.CallKind.TheVariants as kind
use Rattle.rpc_msgs.specs.declared.rpc.Rpc.{Rpc}
use Rattle.session_table.specs.declared.session.Session.{Session}
use Rattle.ta_params.specs.declared.copied_params.CopiedParams.{CopiedParams}
use Rattle.kernel_model.specs.Application.{Application, uuid_of}
use Rattle.kernel_model.specs.Given.{Buffer, Given, NoBuffer, Nothing, Reply, call_given}
use Rattle.kernel_model.specs.Instances.{app_of, held_by}
use Rattle.kernel_model.specs.Kernel.{Asks, CallPhase, Ends, Instance, PendingCall, Progress, Runs, Tables, Waits}
use Rattle.kernel_model.specs.Resume.{Resumed, app_of_call, onward_of, phase_after, phase_seen, sees}
use Rattle.kernel_model.specs.Sound.{Calls, unmarked}
use Rattle.kernel_model.specs.SoundCalls.{AreJoined, FitsInstance, FitsSession, HasSession, is_in_session, is_over, is_told, job_in}
use Rattle.kernel_model.specs.SoundNumbers.{is_on_instance}
use Rattle.kernel_model.proofs.Parts.{if-both}
use Rattle.kernel_model.proofs.SoundJoined.{GoesOn, IsIdleSlot, apart_goes_on, begins_joined, goes_on_joined, instance_goes_on, never_both, never_none, session_goes_on, some_same}
use Rattle.kernel_model.proofs.SoundMaps.{find-all}
use Rattle.kernel_model.proofs.SoundNewJoined.{held_none, no_job}
use Rattle.kernel_model.proofs.SoundResumes.{resumes_all}
use Rattle.kernel_model.proofs.SoundSlots.{Changes}

-- ---- phases

-- a phase that works where the one before it did, and is told and over only where that was
pub record PhaseOn (before now : CallPhase) : Type 0 where
  pub works : (job : Job) → job_in before ≡ Some job → (next : Job) × (job_in now ≡ Some next)
  pub worked : (job : Job) → job_in now ≡ Some job → (was : Job) × (job_in before ≡ Some was)
  pub told : is_told now ≡ false → is_told before ≡ false
  pub over : is_over now ≡ false → is_over before ≡ false

pub same_phase : (phase : CallPhase) → PhaseOn phase phase
same_phase phase = record { works = λ job is. (job, is); worked = λ job is. (job, is); told = λ e. e; over = λ e. e }

pub runs_on : (job next : Job) → PhaseOn (Runs job) (Runs next)
runs_on job next = record { works = λ other is. (next, refl); worked = λ other is. (job, refl); told = λ e. e; over = λ e. e }

pub asks_on : (job next : Job) (wanted : Rpc) (payload : List ℕ) → PhaseOn (Runs job) (Asks next wanted payload)
asks_on job next wanted payload = record { works = λ other is. (next, refl); worked = λ other is. (job, refl); told = λ e. e; over = λ e. e }

answered_on : (job : Job) (wanted : Rpc) (payload : List ℕ) (advance : Advance) → PhaseOn (Asks job wanted payload) (phase_after (Asks job wanted payload) advance)
answered_on job wanted payload (Goes next) = record { works = λ other is. (next, refl); worked = λ other is. (job, refl); told = λ e. e; over = λ e. e }
answered_on job wanted payload (Stops (steps.Asks asked bytes left)) =
    record { works = λ other is. (left, refl); worked = λ other is. (job, refl); told = λ e. e; over = λ e. e }
answered_on job wanted payload (Stops (steps.Ends end)) = same_phase (Asks job wanted payload)
answered_on job wanted payload (Stops (steps.Panics code)) = same_phase (Asks job wanted payload)

seen_on : (phase : CallPhase) → PhaseOn phase (phase_seen phase)
seen_on (Runs job) = runs_on job (with_cancel_seen job)
seen_on (Asks job wanted payload) =
    record { works = λ other is. (with_cancel_seen job, refl); worked = λ other is. (job, refl); told = λ e. e; over = λ e. e }
seen_on (Waits params) = same_phase (Waits params)
seen_on (Ends result params told wakes) = same_phase (Ends result params told wakes)

-- a call with the same session, instance and kind, in such a phase
pub in_phase : (call now : PendingCall) → now.session ≡ call.session → now.instance ≡ call.instance → now.uuid ≡ call.uuid → now.kind ≡ call.kind
    → now.client ≡ call.client → PhaseOn call.phase now.phase → GoesOn call now
in_phase call now session instance uuid of_kind client on = record {
  session = session;
  instance = instance;
  uuid = uuid;
  of_kind = of_kind;
  client = client;
  works = on.works;
  worked = on.worked;
  told = on.told;
  over = on.over;
}

pub on_both : (first second third : PendingCall) → GoesOn first second → GoesOn second third → GoesOn first third
on_both first second third one two = record {
  session = two.session ∙ one.session;
  instance = two.instance ∙ one.instance;
  uuid = two.uuid ∙ one.uuid;
  of_kind = two.of_kind ∙ one.of_kind;
  client = two.client ∙ one.client;
  works = λ job is. let next = one.works job is in two.works next.0 next.1;
  worked = λ job is. let was = two.worked job is in one.worked was.0 was.1;
  told = λ e. one.told (two.told e);
  over = λ e. one.over (two.over e);
}

pub plain_on : (call : PendingCall) → GoesOn (unmarked call) call
plain_on call = in_phase (unmarked call) call refl refl refl refl refl (same_phase call.phase)

pub unmarked_on : (call : PendingCall) → GoesOn call (unmarked call)
unmarked_on call = in_phase call (unmarked call) refl refl refl refl refl (same_phase call.phase)

given_on : (given : Given) (call : PendingCall) → GoesOn call (call_given given call)
given_on Nothing call = in_phase call call refl refl refl refl refl (same_phase call.phase)
given_on (Buffer buffer) call = in_phase call (record call { buffer = Some buffer }) refl refl refl refl refl (same_phase call.phase)
given_on NoBuffer call = in_phase call call refl refl refl refl refl (same_phase call.phase)
given_on (Reply reply) call = in_phase call call refl refl refl refl refl (same_phase call.phase)

sees_on : (call : PendingCall) → GoesOn call (sees call)
sees_on call = if-both (GoesOn call) call.marked (record call { seen = true; phase = phase_seen call.phase }) call
    (in_phase call (record call { seen = true; phase = phase_seen call.phase }) refl refl refl refl refl (seen_on call.phase))
    (in_phase call call refl refl refl refl refl (same_phase call.phase))

pub resumed_on : (given : Given) (call : PendingCall) → GoesOn (unmarked call) (call_given given (sees call))
resumed_on given call =
    on_both (unmarked call) call _ (plain_on call) (on_both call (sees call) (call_given given (sees call)) (sees_on call) (given_on given (sees call)))

-- tables with the same sessions and instances
pub joined_as : (calls : Calls) (tables now : Tables) → now.sessions ≡ tables.sessions → now.instances ≡ tables.instances → AreJoined calls tables → AreJoined calls now
joined_as calls tables now sessions instances joined = record {
  each = λ slot call is. record {
    session = subst (λ (m : NumberMap Session). FitsSession (get m call.session) call) (sym sessions) (joined.each slot call is).session;
    instance = subst (λ (m : NumberMap Instance). FitsInstance (get m call.instance) slot call) (sym instances) (joined.each slot call is).instance;
  };
  holders = λ number slot instance kept holder. joined.holders number slot instance (ap (λ (m : NumberMap Instance). get m number) (sym instances) ∙ kept) holder;
  opens = joined.opens;
  applications = joined.applications;
}

-- ---- resumes

abbrev pub OnwardFits : Calls → ℕ → Progress → Type 0
OnwardFits before slot progress = (after : Calls) → Changes before after slot (Some (unmarked progress.call)) → AreJoined after progress.tables

fails_on : (params : CopiedParams) (phase : CallPhase) → is_over phase ≡ true → is_told phase ≡ false → job_in phase ≡ None → PhaseOn (Waits params) phase
fails_on params phase over untold idle = record {
  works = λ job is. no_job job is;
  worked = λ job is. no_job job (sym idle ∙ is);
  told = λ e. refl;
  over = λ e. refl;
}

-- ---- a call that has waited begins

module _ (before : Calls) (r : Resumed) (joined : AreJoined before r.tables) (was : PendingCall) (there : before r.slot ≡ Some was)
    (on : GoesOn was r.call) where
  pub fits_session : FitsSession (get r.tables.sessions r.call.session) r.call
  fits_session = subst (λ (n : ℕ). FitsSession (get r.tables.sessions n) r.call) (sym on.session)
      (session_goes_on (get r.tables.sessions was.session) was r.call on (joined.each r.slot was there).session)

  pub fits_instance : FitsInstance (get r.tables.instances r.call.instance) r.slot r.call
  fits_instance = subst (λ (n : ℕ). FitsInstance (get r.tables.instances n) r.slot r.call) (sym on.instance)
      (instance_goes_on (get r.tables.instances was.instance) r.slot was r.call on (joined.each r.slot was there).instance)

  -- in another phase, where neither sessions nor instances change
  goes_so : (after : Calls) (now : PendingCall) → Changes before after r.slot (Some now) → GoesOn r.call now → AreJoined after r.tables
  goes_so after now changes onward = goes_on_joined before after r.tables r.slot was now changes joined there (on_both was r.call now on onward)

  waits_idle : (params : CopiedParams) → r.call.phase ≡ Waits params → IsIdleSlot before r.slot
  waits_idle params waits call job is works =
      let same = some_same was call (sym there ∙ is) in
      let next = on.works job (ap (λ (c : PendingCall). job_in c.phase) same ∙ works) in
      no_job next.0 (ap job_in (sym waits) ∙ next.1)

  begins_so : (after : Calls) (now : Tables) (call : PendingCall) (held : Instance) (job : Job) (params : CopiedParams) → Changes before after r.slot (Some call)
      → r.call.phase ≡ Waits params → now.sessions ≡ r.tables.sessions → now.instances ≡ insert r.tables.instances r.call.instance held
      → held.holder ≡ Some r.slot → r.call.uuid ≡ Some held.uuid → is_on_instance r.call.kind ≡ true → job_in call.phase ≡ Some job
      → call.session ≡ r.call.session → call.instance ≡ r.call.instance → call.uuid ≡ r.call.uuid → call.kind ≡ r.call.kind → call.client ≡ r.call.client
      → ((instance : Instance) → get r.tables.instances r.call.instance ≡ Some instance → instance.holder ≡ None)
      → FitsSession (get r.tables.sessions call.session) call → AreJoined after now
  begins_so after now call held job params changes waits sessions instances holder uuid is_on works session instance uuids of_kind client free own =
      begins_joined before after r.tables now r.slot call held job changes joined (waits_idle params waits)
      (instances ∙ ap (λ (n : ℕ). insert r.tables.instances n held) (sym instance)) holder (uuids ∙ uuid) (ap is_on_instance of_kind ∙ is_on) works
      (λ found kept. free found (ap (λ (n : ℕ). get r.tables.instances n) (sym instance) ∙ kept))
      (subst (λ (m : NumberMap Session). FitsSession (get m call.session) call) (sym sessions) own)
      (λ other another differ is. subst (λ (m : NumberMap Session). FitsSession (get m another.session) another) (sym sessions) (joined.each other another is).session)
      (apart_goes_on before r.tables r.slot was call joined there (session ∙ on.session) (instance ∙ on.instance) (uuids ∙ on.uuid) (of_kind ∙ on.of_kind))

  -- the session of an open
  open_session : (call : PendingCall) (params : CopiedParams) → r.call.phase ≡ Waits params → r.call.kind ≡ kind.Open → call.session ≡ r.call.session
      → call.instance ≡ r.call.instance → call.kind ≡ r.call.kind → call.client ≡ r.call.client → FitsSession (get r.tables.sessions call.session) call
  open_session call params waits opening session instance of_kind client = record {
    opening = λ its untold.
        let has = fits_session.opening opening (ap is_told waits) in
        record {
          session = has.session;
          kept = ap (λ (n : ℕ). get r.tables.sessions n) session ∙ has.kept;
          instance = has.instance ∙ sym instance;
          client = has.client ∙ sym client;
          is_opened = has.is_opened;
        };
    working = λ job works in_session. never_both (sym in_session ∙ ap is_in_session (of_kind ∙ opening));
    still = λ found in_session kept. never_both (sym in_session ∙ ap is_in_session (of_kind ∙ opening));
  }

  -- of an invoke or a close
  kept_session : (call : PendingCall) (found : Session) → get r.tables.sessions r.call.session ≡ Some found → is_in_session r.call.kind ≡ true
      → (call.kind ≡ kind.Open → ⊥) → call.session ≡ r.call.session → call.instance ≡ r.call.instance → call.client ≡ r.call.client
      → FitsSession (get r.tables.sessions call.session) call
  kept_session call found kept in_session not_open session instance client = record {
    opening = λ its untold. absurd (not_open its);
    working = λ job works its. has;
    still = λ other its there. has;
  }
    where
      has : HasSession (get r.tables.sessions call.session) call true
      has =
          let was_kept = fits_session.still found in_session kept in
          record {
            session = was_kept.session;
            kept = ap (λ (n : ℕ). get r.tables.sessions n) session ∙ was_kept.kept;
            instance = was_kept.instance ∙ sym instance;
            client = was_kept.client ∙ sym client;
            is_opened = was_kept.is_opened;
          }

  pub session_instance : (found : Session) → get r.tables.sessions r.call.session ≡ Some found → is_in_session r.call.kind ≡ true → found.instance ≡ r.call.instance
  session_instance found kept in_session =
      let has = fits_session.still found in_session kept in
      ap (λ (s : Session). s.instance) (some_same found has.session (sym kept ∙ has.kept)) ∙ has.instance

  pub named_app : (app : Application) → app_of_call r ≡ Some app → r.call.uuid ≡ Some (uuid_of app)
  named_app app e = by_uuid r.call.uuid e
    where
      by_uuid : (uuid : Option (List ℕ)) → option_and_then (app_of r.boot) uuid ≡ Some app → uuid ≡ Some (uuid_of app)
      by_uuid None is = absurd cc
      by_uuid (Some uuid) is =
          let found = find-all (λ (a : Application). Unit {0}) (λ (a : Application). bytes_eq (uuid_of a) uuid) r.boot.apps app (anything_of r.boot.apps) is in
          ap (λ (u : List ℕ). Some u) (sym ((bytes_eq-Decides (uuid_of app) uuid).0 found.passes))
        where
          anything_of : (apps : List Application) → All (λ (a : Application). Unit {0}) apps
          anything_of [] = All-nil (λ (a : Application). Unit {0})
          anything_of (a ∷ apps) = All-cons (λ (any : Application). Unit {0}) a apps tt (anything_of apps)

  pub resumed_fits : OnwardFits before r.slot (onward_of r)
  resumed_fits = resumes_all r (OnwardFits before r.slot) (record {
    runs = λ job is after changes. goes_so after _ changes (on_phase _ (Runs job) refl refl refl refl refl is (same_phase (Runs job)));
    asks_still = λ job wanted payload is after changes.
        goes_so after _ changes (on_phase _ (Asks job wanted payload) refl refl refl refl refl is (same_phase (Asks job wanted payload)));
    answered = λ job wanted payload answer advance is e after changes.
        goes_so after _ changes (on_phase _ (Asks job wanted payload) refl refl refl refl refl is (answered_on job wanted payload advance));
    ends = λ result params told wakes left is after changes.
        goes_so after _ changes (on_phase _ (Ends result params told wakes) refl refl refl refl refl is
        (record { works = λ job its. no_job job its; worked = λ job its. no_job job its; told = λ e. e; over = λ e. e }));
    fails = λ params code is after changes.
        joined_as after r.tables _ refl refl (goes_so after _ changes (on_phase _ (Waits params) refl refl refl refl refl is (fails_on params _ refl refl refl)));
    sleeps = λ params is after changes. goes_so after _ changes (on_phase _ (Waits params) refl refl refl refl refl is (same_phase (Waits params)));
    opens = λ params session app instance ready alive opening is after changes.
        begins_so after _ _ _ _ params changes ready.awake.waited refl refl refl (fits_instance.application instance (ap is_on_instance opening) ready.there)
        (ap is_on_instance opening) refl refl refl refl refl refl
        (λ found kept. ap (λ (i : Instance). i.holder) (some_same found instance (sym kept ∙ ready.there)) ∙ held_none instance ready.free)
        (open_session _ params ready.awake.waited opening refl refl refl refl);
    opens_new = λ params session app awake none opening is pages after changes.
        begins_so after _ _ _ _ params changes awake.waited refl refl refl (named_app app is) (ap is_on_instance opening) refl refl refl refl refl refl
        (λ found kept. never_none _ found none kept) (open_session _ params awake.waited opening refl refl refl refl);
    invokes = λ params session instance func ready alive is after changes.
        let in_session = ap is_in_session is in
        begins_so after _ _ _ _ params changes ready.awake.waited refl
        (ap (λ (n : ℕ). insert r.tables.instances n (held_by r.slot instance)) (session_instance session ready.awake.kept in_session)) refl
        (fits_instance.application instance (ap is_on_instance is) ready.there) (ap is_on_instance is) refl refl refl refl refl refl
        (λ found kept. ap (λ (i : Instance). i.holder) (some_same found instance (sym kept ∙ ready.there)) ∙ held_none instance ready.free)
        (kept_session _ session ready.awake.kept in_session (λ its. never_both (sym in_session ∙ ap is_in_session its)) refl refl refl);
    closes = λ params session instance ready is after changes.
        let in_session = ap is_in_session is in
        begins_so after _ _ _ _ params changes ready.awake.waited refl
        (ap (λ (n : ℕ). insert r.tables.instances n (held_by r.slot instance)) (session_instance session ready.awake.kept in_session)) refl
        (fits_instance.application instance (ap is_on_instance is) ready.there) (ap is_on_instance is) refl refl refl refl refl refl
        (λ found kept. ap (λ (i : Instance). i.holder) (some_same found instance (sym kept ∙ ready.there)) ∙ held_none instance ready.free)
        (kept_session _ session ready.awake.kept in_session (λ its. never_both (sym in_session ∙ ap is_in_session its)) refl refl refl);
  })
    where
      on_phase : (now : PendingCall) (phase : CallPhase) → now.session ≡ r.call.session → now.instance ≡ r.call.instance → now.uuid ≡ r.call.uuid
          → now.kind ≡ r.call.kind → now.client ≡ r.call.client → r.call.phase ≡ phase → PhaseOn phase now.phase → GoesOn r.call now
      on_phase now phase session instance uuid of_kind client is onward =
          in_phase r.call now session instance uuid of_kind client (subst (λ (p : CallPhase). PhaseOn p now.phase) (sym is) onward)
