-- A new call fits the tables, and leaves the others as they fit.
use Rattle.std.proofs.Common.{◌≡◌, ℕ, ◌<◌, Bool, true, false, List, Option, Some, None, refl, ap, subst, sym, ◌∙◌, arith}
use Rattle.std.specs.Prelude.{All, bytes_eq, find, is_some, if◌then◌else◌}
use Rattle.std.proofs.lemmas.List.Elements.{All-weaker}
use Rattle.std.proofs.lemmas.Slice.Eq.{bytes_eq-Decides}
use Rattle.base.specs.NumberMap.{NumberMap, IsRising, get, insert}
use Rattle.base.proofs.MapLemmas.{none_above}
use Rattle.job_model.specs.Job.{Job}
use Rattle.job_model.specs.declared.call_kind.CallKind.TheVariants as kind
use Rattle.session_table.specs.declared.session.Session.{Session}
use Rattle.session_table.specs.declared.waiters.Waiter.{Waiter}
use Rattle.kernel_model.specs.Application.{Application, uuid_of}
use Rattle.kernel_model.specs.Begin.{awaited_number}
use Rattle.kernel_model.specs.Decision.{Taken}
use Rattle.kernel_model.specs.Instances.{is_held, is_single}
use Rattle.kernel_model.specs.Kernel.{Asks, CallPhase, Ends, Instance, PendingCall, Runs, Tables, Waits}
use Rattle.kernel_model.specs.NewCall.{NewCall, shared_by}
use Rattle.kernel_model.specs.Sound.{Calls, unmarked}
use Rattle.kernel_model.specs.SoundCalls.{AreJoined, FitsSession, HasSession, is_in_session, is_over, job_in}
use Rattle.kernel_model.specs.SoundNumbers.{AreNumbered, IsGiven, is_on_instance}
use Rattle.kernel_model.specs.SoundWaiters.{AreWaiters, Awaited, IsWaiter, awaited, awaited_in}
use Rattle.kernel_model.proofs.Parts.{option_map_some}
use Rattle.kernel_model.proofs.SoundJoined.{IsIdleSlot, StandsApart, begins_joined, never_both, never_none, rests_joined, some_same}
use Rattle.kernel_model.proofs.SoundMaps.{IsNamed, find-all, get-insert-other, get-insert-same, if_some, named_is}
use Rattle.kernel_model.proofs.SoundNewCalls.{NewCases}
use Rattle.kernel_model.proofs.SoundRising.{found_there, none_passes}
use Rattle.kernel_model.proofs.SoundSlots.{Changes}

-- what is known before a new call
pub record Before (before : Calls) (tables : Tables) : Type 0 where
  pub joined : AreJoined before tables
  pub numbers : AreNumbered before tables
  pub waiters : AreWaiters before tables.waiters
  pub rising : IsRising tables.instances

settled_open : {P : Type 0} → kind.Settled ≡ kind.Open → P
settled_open e = absurd cc

invoke_open : {P : Type 0} (func : ℕ) → kind.Invoke func ≡ kind.Open → P
invoke_open func e = absurd cc

close_open : {P : Type 0} → kind.Close ≡ kind.Open → P
close_open e = absurd cc

pub no_job : {P : Type 0} (job : Job) → None ≡ Some job → P
no_job job e = absurd cc

below_apart : (m n : ℕ) → m < n → n ≡ m → ⊥
below_apart m n lt e = omega arith

pub held_none : (instance : Instance) → is_held instance ≡ false → instance.holder ≡ None
held_none instance e = by_holder instance.holder e
  where
    by_holder : (o : Option ℕ) → is_some o ≡ false → o ≡ None
    by_holder None e = refl
    by_holder (Some slot) e = absurd cc

-- the waiting call of a waiter
waiting_call : (o : Option PendingCall) (wanted : Awaited) → awaited o ≡ Some wanted
    → (call : PendingCall) × (o ≡ Some call) × (call.instance ≡ wanted.0) × (call.uuid ≡ wanted.1) × (is_over call.phase ≡ false)
waiting_call None wanted e = absurd cc
waiting_call (Some call) wanted e = let found = by_phase call.phase e in (call, refl, found.0, found.1, found.2)
  where
    by_phase : (phase : CallPhase) → awaited_in phase (call.instance, call.uuid) ≡ Some wanted
        → (call.instance ≡ wanted.0) × (call.uuid ≡ wanted.1) × (is_over phase ≡ false)
    by_phase (Runs job) is = absurd cc
    by_phase (Asks job rpc payload) is = absurd cc
    by_phase (Waits params) is =
        let same = some_same (call.instance, call.uuid) wanted is in
        (ap (λ (w : Awaited). w.0) same, ap (λ (w : Awaited). w.1) same, refl)
    by_phase (Ends result params told wakes) is = absurd cc

-- ---- new calls

-- it fits, in whatever slots
abbrev pub NewFits : Calls → NewCall → Taken → Type 0
NewFits before c taken = (after : Calls) → Changes before after c.slot (Some (unmarked taken.call)) → AreJoined after taken.tables

module _ (before : Calls) (c : NewCall) (sound : Before before c.tables) (free : before c.slot ≡ None) where
  idle : IsIdleSlot before c.slot
  idle call job is works = never_none (before c.slot) call free is

  -- a call that was settled, where sessions and instances stay as they are
  settled_fits : (after : Calls) (now : Tables) (call : PendingCall) → Changes before after c.slot (Some call) → call.kind ≡ kind.Settled
      → job_in call.phase ≡ None → is_over call.phase ≡ true → now.sessions ≡ c.tables.sessions → now.instances ≡ c.tables.instances → AreJoined after now
  settled_fits after now call changes settled rests over sessions instances =
      rests_joined before after c.tables now c.slot (Some call) changes sound.joined idle instances
      (λ other is. subst (λ (o : PendingCall). FitsSession (get now.sessions o.session) o) (some_same call other is) (record {
        opening = λ opening untold. settled_open (sym settled ∙ opening);
        working = λ job works in_session. no_job job (sym rests ∙ works);
        still = λ session in_session kept. never_both (sym in_session ∙ ap is_in_session settled);
      }))
      (λ other job is works. no_job job (sym rests ∙ ap (λ (o : PendingCall). job_in o.phase) (some_same call other is) ∙ works))
      (λ other is lasts. never_both (sym over ∙ ap (λ (o : PendingCall). is_over o.phase) (some_same call other is) ∙ lasts))
      (λ other instance is on kept. never_both (sym on ∙ ap (λ (o : PendingCall). is_on_instance o.kind) (sym (some_same call other is)) ∙ ap is_on_instance settled))
      (λ other another differ is. subst (λ (m : NumberMap Session). FitsSession (get m another.session) another) (sym sessions)
      (sound.joined.each other another is).session)
      (λ other is. subst (StandsApart before c.slot) (some_same call other is) (record {
        opens = λ at another differ there opening opening_other same. settled_open (sym settled ∙ opening);
        applications = λ at another differ there on on_other same. never_both (sym on ∙ ap is_on_instance settled);
      }))

  -- ---- opens

  others_older : (other : ℕ) (call : PendingCall) → before other ≡ Some call → c.tables.next_session ≡ call.session → ⊥
  others_older other call is same = below_apart call.session c.tables.next_session (sound.numbers.given other call is).session same

  opened_others : (now : Tables) (reserved : Session) → now.sessions ≡ insert c.tables.sessions c.tables.next_session reserved
      → (other : ℕ) (call : PendingCall) → (c.slot ≡ other → ⊥) → before other ≡ Some call → FitsSession (get now.sessions call.session) call
  opened_others now reserved sessions other call differ is =
      subst (λ (o : Option Session). FitsSession o call)
      (sym (ap (λ (m : NumberMap Session). get m call.session) sessions
      ∙ get-insert-other c.tables.sessions c.tables.next_session reserved call.session (others_older other call is)))
      (sound.joined.each other call is).session

  opened_own : (now : Tables) (reserved : Session) (call : PendingCall) → now.sessions ≡ insert c.tables.sessions c.tables.next_session reserved
      → call.session ≡ c.tables.next_session → call.kind ≡ kind.Open → reserved.instance ≡ call.instance → reserved.client ≡ call.client
      → reserved.opened ≡ false → FitsSession (get now.sessions call.session) call
  opened_own now reserved call sessions session opening instance client opened = record {
    opening = λ open_kind untold. record {
      session = reserved;
      kept = ap (λ (m : NumberMap Session). get m call.session) sessions
          ∙ ap (λ (n : ℕ). get (insert c.tables.sessions c.tables.next_session reserved) n) session
          ∙ get-insert-same c.tables.sessions c.tables.next_session reserved;
      instance = instance;
      client = client;
      is_opened = opened;
    };
    working = λ job works in_session. never_both (sym in_session ∙ ap is_in_session opening);
    still = λ found in_session kept. never_both (sym in_session ∙ ap is_in_session opening);
  }

  opened_apart : (call : PendingCall) → call.session ≡ c.tables.next_session
      → ((other : ℕ) (another : PendingCall) → before other ≡ Some another → is_on_instance another.kind ≡ true → call.instance ≡ another.instance → call.uuid ≡ another.uuid)
      → StandsApart before c.slot call
  opened_apart call session uuids = record {
    opens = λ other another differ is opening opening_other same. others_older other another is (sym session ∙ same);
    applications = λ other another differ is on on_other same. uuids other another is on_other same;
  }

  -- the instance that is shared
  pub shared_there : (app : Application) (kept : ℕ × Instance) → shared_by c app ≡ Some kept
      → (get c.tables.instances kept.0 ≡ Some kept.1) × (kept.1.uuid ≡ uuid_of app)
  shared_there app kept shared =
      let found = found_there c.tables.instances (λ (k : ℕ × Instance). bytes_eq k.1.uuid (uuid_of app)) kept sound.rising
      (if_some (is_single app) _ kept shared).1 in
      (found.0, (bytes_eq-Decides kept.1.uuid (uuid_of app)).0 found.1)

  shared_uuids : (app : Application) (kept : ℕ × Instance) → shared_by c app ≡ Some kept
      → (other : ℕ) (another : PendingCall) → before other ≡ Some another → is_on_instance another.kind ≡ true → kept.0 ≡ another.instance
      → Some (uuid_of app) ≡ another.uuid
  shared_uuids app kept shared other another is on same =
      let there = shared_there app kept shared in
      sym ((sound.joined.each other another is).instance.application kept.1 on (ap (λ (n : ℕ). get c.tables.instances n) (sym same) ∙ there.0)
      ∙ ap (λ (u : List ℕ). Some u) there.1)

  -- an open that begins on an instance that nobody holds
  open_begins : (after : Calls) (now : Tables) (call : PendingCall) (held : Instance) (reserved : Session) (job : Job)
      → Changes before after c.slot (Some call) → now.sessions ≡ insert c.tables.sessions c.tables.next_session reserved
      → now.instances ≡ insert c.tables.instances call.instance held → held.holder ≡ Some c.slot → call.uuid ≡ Some held.uuid
      → call.session ≡ c.tables.next_session → call.kind ≡ kind.Open → reserved.instance ≡ call.instance → reserved.client ≡ call.client
      → reserved.opened ≡ false → job_in call.phase ≡ Some job
      → ((instance : Instance) → get c.tables.instances call.instance ≡ Some instance → instance.holder ≡ None)
      → ((other : ℕ) (another : PendingCall) → before other ≡ Some another → is_on_instance another.kind ≡ true → call.instance ≡ another.instance → call.uuid ≡ another.uuid)
      → AreJoined after now
  open_begins after now call held reserved job changes sessions instances holder uuid session opening instance client opened works unheld uuids =
      begins_joined before after c.tables now c.slot call held job changes sound.joined idle instances holder uuid (ap is_on_instance opening) works unheld
      (opened_own now reserved call sessions session opening instance client opened)
      (opened_others now reserved sessions) (opened_apart call session uuids)

  -- one that waits for an instance that is held
  open_rests : (after : Calls) (now : Tables) (call : PendingCall) (reserved : Session) → Changes before after c.slot (Some call)
      → now.sessions ≡ insert c.tables.sessions c.tables.next_session reserved → now.instances ≡ c.tables.instances
      → call.session ≡ c.tables.next_session → call.kind ≡ kind.Open → reserved.instance ≡ call.instance → reserved.client ≡ call.client
      → reserved.opened ≡ false → job_in call.phase ≡ None
      → ((instance : Instance) → get c.tables.instances call.instance ≡ Some instance → call.uuid ≡ Some instance.uuid)
      → ((other : ℕ) (another : PendingCall) → before other ≡ Some another → is_on_instance another.kind ≡ true → call.instance ≡ another.instance → call.uuid ≡ another.uuid)
      → AreJoined after now
  open_rests after now call reserved changes sessions instances session opening instance client opened rests uuid uuids =
      rests_joined before after c.tables now c.slot (Some call) changes sound.joined idle instances
      (λ other is. subst (λ (o : PendingCall). FitsSession (get now.sessions o.session) o) (some_same call other is)
      (opened_own now reserved call sessions session opening instance client opened))
      (λ other job is works. no_job job (sym rests ∙ ap (λ (o : PendingCall). job_in o.phase) (some_same call other is) ∙ works))
      (λ other is lasts. ap (λ (o : PendingCall). is_on_instance o.kind) (sym (some_same call other is)) ∙ ap is_on_instance opening)
      (λ other found is on kept. subst (λ (o : PendingCall). get c.tables.instances o.instance ≡ Some found → o.uuid ≡ Some found.uuid)
      (some_same call other is) (uuid found) kept)
      (opened_others now reserved sessions)
      (λ other is. subst (StandsApart before c.slot) (some_same call other is) (opened_apart call session uuids))

  pub awaited_uuids : (app : Application) (number : ℕ) → awaited_number c.tables app ≡ Some number
      → (waiter : PendingCall) × (slot : ℕ) × (before slot ≡ Some waiter) × (waiter.instance ≡ number) × (waiter.uuid ≡ Some (uuid_of app)) × (is_single app ≡ true)
      × (is_over waiter.phase ≡ false)
  awaited_uuids app number e =
      let single = if_some (is_single app) _ number e in
      let waiter = option_map_some (λ (w : Waiter). w.instance) _ number single.1 in
      let found = find-all (IsWaiter before) (λ (w : Waiter). bytes_eq w.uuid (uuid_of app)) c.tables.waiters waiter.0 sound.waiters.each waiter.1 in
      let call = waiting_call (before waiter.0.slot) (waiter.0.instance, Some waiter.0.uuid) found.holds in (
        call.0,
        waiter.0.slot,
        call.1,
        call.2 ∙ waiter.2,
        call.3 ∙ ap (λ (u : List ℕ). Some u) ((bytes_eq-Decides waiter.0.uuid (uuid_of app)).0 found.passes),
        single.0,
        call.4,
      )

  -- an awaited instance is gone, where its application shares one and none is kept
  pub gone : (app : Application) (number : ℕ) (waiter : PendingCall) (slot : ℕ) → before slot ≡ Some waiter → waiter.instance ≡ number
      → waiter.uuid ≡ Some (uuid_of app) → is_single app ≡ true → is_on_instance waiter.kind ≡ true → shared_by c app ≡ None
      → (instance : Instance) → get c.tables.instances number ≡ Some instance → ⊥
  gone app number waiter slot is of_number uuid single on none instance kept =
      let uuids = sym uuid ∙ (sound.joined.each slot waiter is).instance.application instance on (ap (λ (n : ℕ). get c.tables.instances n) of_number ∙ kept) in
      let its : instance.uuid ≡ uuid_of app = sym (some_same (uuid_of app) instance.uuid uuids) in
      let passes = (bytes_eq-Decides instance.uuid (uuid_of app)).1 its in
      let fails = none_passes c.tables.instances (λ (k : ℕ × Instance). bytes_eq k.1.uuid (uuid_of app)) number instance (found_none single none) kept in
      never_both (sym passes ∙ fails)
    where
      found_none : is_single app ≡ true → shared_by c app ≡ None → find (λ (k : ℕ × Instance). bytes_eq k.1.uuid (uuid_of app)) c.tables.instances ≡ None
      found_none single e = sym (ap (λ (b : Bool). if b then find (λ (k : ℕ × Instance). bytes_eq k.1.uuid (uuid_of app)) c.tables.instances else None) single) ∙ e

  pub new_instance : (number : ℕ) → c.tables.next_instance ≡ number → get c.tables.instances number ≡ None
  new_instance number same =
      none_above c.tables.instances number
      (subst (λ (n : ℕ). All (λ (kept : ℕ × Instance). kept.0 < n) c.tables.instances) same
      (All-weaker (λ (kept : ℕ × Instance). IsGiven c.tables.next_instance kept.0) (λ (kept : ℕ × Instance). kept.0 < c.tables.next_instance)
      (λ kept given. given.1) c.tables.instances sound.numbers.instances))

  -- ---- invokes and closes

  named_session_fits : (named : Session × Instance) (call : PendingCall) → IsNamed c named → call.session ≡ c.head.session → call.instance ≡ named.0.instance
      → call.client ≡ c.client → (call.kind ≡ kind.Open → ⊥) → FitsSession (get c.tables.sessions call.session) call
  named_session_fits named call is session instance client not_open = record {
    opening = λ opening untold. absurd (not_open opening);
    working = λ job works in_session. has;
    still = λ found in_session kept. has;
  }
    where
      has : HasSession (get c.tables.sessions call.session) call true
      has = record {
        session = named.0;
        kept = ap (λ (n : ℕ). get c.tables.sessions n) session ∙ is.kept;
        instance = sym instance;
        client = is.client ∙ sym client;
        is_opened = is.opened;
      }

  named_apart : (named : Session × Instance) (call : PendingCall) → IsNamed c named → call.instance ≡ named.0.instance → call.uuid ≡ Some named.1.uuid
      → (call.kind ≡ kind.Open → ⊥) → StandsApart before c.slot call
  named_apart named call is instance uuid not_open = record {
    opens = λ other another differ there opening opening_other same. not_open opening;
    applications = λ other another differ there on on_other same.
        uuid ∙ sym ((sound.joined.each other another there).instance.application named.1 on_other
        (ap (λ (n : ℕ). get c.tables.instances n) (sym same ∙ instance) ∙ is.instance));
  }

  named_begins : (after : Calls) (now : Tables) (call : PendingCall) (held : Instance) (named : Session × Instance) (job : Job)
      → Changes before after c.slot (Some call) → IsNamed c named → is_held named.1 ≡ false → now.sessions ≡ c.tables.sessions
      → now.instances ≡ insert c.tables.instances call.instance held → held.holder ≡ Some c.slot → held.uuid ≡ named.1.uuid
      → call.session ≡ c.head.session → call.instance ≡ named.0.instance → call.client ≡ c.client → call.uuid ≡ Some named.1.uuid
      → (call.kind ≡ kind.Open → ⊥) → is_on_instance call.kind ≡ true → job_in call.phase ≡ Some job → AreJoined after now
  named_begins after now call held named job changes is unheld sessions instances holder held_uuid session instance client uuid not_open on works =
      begins_joined before after c.tables now c.slot call held job changes sound.joined idle instances holder
      (uuid ∙ ap (λ (u : List ℕ). Some u) (sym held_uuid)) on works
      (λ found kept.
      let same = some_same named.1 found (sym is.instance ∙ ap (λ (n : ℕ). get c.tables.instances n) (sym instance) ∙ kept) in
      ap (λ (i : Instance). i.holder) (sym same) ∙ held_none named.1 unheld)
      (subst (λ (m : NumberMap Session). FitsSession (get m call.session) call) (sym sessions) (named_session_fits named call is session instance client not_open))
      (λ other another differ there. subst (λ (m : NumberMap Session). FitsSession (get m another.session) another) (sym sessions)
      (sound.joined.each other another there).session)
      (named_apart named call is instance uuid not_open)

  named_waits : (after : Calls) (now : Tables) (call : PendingCall) (named : Session × Instance) → Changes before after c.slot (Some call) → IsNamed c named
      → now.sessions ≡ c.tables.sessions → now.instances ≡ c.tables.instances → call.session ≡ c.head.session → call.instance ≡ named.0.instance
      → call.client ≡ c.client → call.uuid ≡ Some named.1.uuid → (call.kind ≡ kind.Open → ⊥) → is_on_instance call.kind ≡ true → job_in call.phase ≡ None
      → AreJoined after now
  named_waits after now call named changes is sessions instances session instance client uuid not_open on rests =
      rests_joined before after c.tables now c.slot (Some call) changes sound.joined idle instances
      (λ other its. subst (λ (o : PendingCall). FitsSession (get now.sessions o.session) o) (some_same call other its)
      (subst (λ (m : NumberMap Session). FitsSession (get m call.session) call) (sym sessions) (named_session_fits named call is session instance client not_open)))
      (λ other job its works. no_job job (sym rests ∙ ap (λ (o : PendingCall). job_in o.phase) (some_same call other its) ∙ works))
      (λ other its lasts. ap (λ (o : PendingCall). is_on_instance o.kind) (sym (some_same call other its)) ∙ on)
      (λ other found its is_on kept.
      let mine = some_same call other its in
      let same = some_same named.1 found (sym is.instance ∙ ap (λ (n : ℕ). get c.tables.instances n) (sym instance ∙ ap (λ (o : PendingCall). o.instance) mine) ∙ kept) in
      ap (λ (o : PendingCall). o.uuid) (sym mine) ∙ uuid ∙ ap (λ (i : Instance). Some i.uuid) same)
      (λ other another differ there. subst (λ (m : NumberMap Session). FitsSession (get m another.session) another) (sym sessions)
      (sound.joined.each other another there).session)
      (λ other its. subst (StandsApart before c.slot) (some_same call other its) (named_apart named call is instance uuid not_open))

  pub new_fits : NewCases c (NewFits before c)
  new_fits = record {
    settles = λ code after changes. settled_fits after _ _ changes refl refl refl refl refl;
    settles_open = λ app login code after changes. settled_fits after _ _ changes refl refl refl refl refl;
    settles_invoke = λ named code is after changes. settled_fits after _ _ changes refl refl refl refl refl;
    cancels = λ named is after changes. settled_fits after _ _ changes refl refl refl refl refl;
    registers = λ param pages new room good after changes. settled_fits after _ _ changes refl refl refl refl refl;
    unregisters = λ param unpinned after changes. settled_fits after _ _ changes refl refl refl refl refl;
    opens_kept = λ wanted app copies copied kept shown shared unheld after changes.
        let there = shared_there app kept shared in
        open_begins after _ _ _ _ _ changes refl refl refl (ap (λ (u : List ℕ). Some u) (sym there.1)) refl refl refl refl refl refl
        (λ instance its. ap (λ (i : Instance). i.holder) (some_same instance kept.1 (sym its ∙ there.0)) ∙ held_none kept.1 unheld)
        (shared_uuids app kept shared);
    opens_awaited = λ wanted app copies copied number shown shared waits after changes.
        let waiter = awaited_uuids app number waits in
        open_begins after _ _ _ _ _ changes refl refl refl refl refl refl refl refl refl refl
        (λ instance its. absurd (gone app number waiter.0 waiter.1 waiter.2 waiter.3 waiter.4 waiter.5 ((sound.joined.each waiter.1 waiter.0 waiter.2).instance.settled waiter.6) shared instance its))
        (λ other another is on same. sym waiter.4
        ∙ sound.joined.applications waiter.1 other waiter.0 another waiter.2 is ((sound.joined.each waiter.1 waiter.0 waiter.2).instance.settled waiter.6) on (waiter.3 ∙ same));
    opens_next = λ wanted app copies copied shown shared waits after changes.
        open_begins after _ _ _ _ _ changes refl refl refl refl refl refl refl refl refl refl
        (λ instance its. never_none _ instance (new_instance c.tables.next_instance refl) its)
        (λ other another is on same. absurd (below_apart another.instance c.tables.next_instance (sound.numbers.given other another is).instance same));
    open_waits = λ wanted app copies copied kept shown shared held after changes.
        let there = shared_there app kept shared in
        open_rests after _ _ _ changes refl refl refl refl refl refl refl refl
        (λ instance its.
        let same = some_same kept.1 instance (sym there.0 ∙ its) in
        ap (λ (u : List ℕ). Some u) (sym there.1) ∙ ap (λ (i : Instance). Some i.uuid) same)
        (shared_uuids app kept shared);
    invokes = λ named copies copied is alive unheld after changes.
        named_begins after _ _ _ named _ changes (named_is c named is) unheld refl refl refl refl refl refl refl refl (λ e. invoke_open c.head.func e) refl refl;
    invoke_waits = λ named copies copied is alive held after changes.
        named_waits after _ _ named changes (named_is c named is) refl refl refl refl refl refl (λ e. invoke_open c.head.func e) refl refl;
    closes = λ named is unheld after changes.
        named_begins after _ _ _ named _ changes (named_is c named is) unheld refl refl refl refl refl refl refl refl (λ e. close_open e) refl refl;
    close_waits = λ named is held after changes.
        named_waits after _ _ named changes (named_is c named is) refl refl refl refl refl refl (λ e. close_open e) refl refl;
  }
