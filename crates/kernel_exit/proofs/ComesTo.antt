-- What a call comes to is what the kernel's comes to.
use Rattle.std.proofs.Common.{◌≡◌, ℕ, ◌+◌, true, List, [], Option, Some, None, sym, ap, subst, ◌∙◌}
use Rattle.std.specs.Prelude.{IsSomeAnd}
use Rattle.std.specs.Option.{option_and_then}
use Rattle.job_model.specs.Job.{Job, of_tee}
use Rattle.job_model.specs.Steps.{End, Grant, Left, Stopped, grant_of}
use Rattle.job_model.specs.Steps as job
use Rattle.kernel_model.specs.Exit.{after_grant, tables_after_end, tables_after_panic, woken_by}
use Rattle.kernel_model.specs.Kernel.{CallPhase, Runs, Ends, PendingCall, Tables}
use Rattle.kernel_state.specs.Calls.{IsAppOf, IsCall, IsInPhase, bytes_of, woken_slot}
use Rattle.kernel_state.specs.Tables.{tables_of}
use Rattle.kernel_state.specs.Work.{HasRun}
use Rattle.kernel_state.specs.declared.tables.Tables.{Tables as CoreTables}
use Rattle.rpc_cont.specs.Advancing.{IsAdvance, phase_after}
use Rattle.rpc_cont.specs.Conts.{end_left, job_of, kept_params}
use Rattle.rpc_cont.specs.declared.app.ContApp.{ContApp}
use Rattle.rpc_cont.specs.declared.cont.Cont.{Cont}
use Rattle.rpc_cont.specs.declared.cont.Asked.{Asked}
use Rattle.rpc_cont.specs.declared.phase.Phase.TheVariants as phase
use Rattle.rpc_cont.specs.declared.stop.ContStop.{ContStop}
use Rattle.rpc_cont.specs.declared.stop.ContStop.TheVariants as stop
use Rattle.ta_params.specs.declared.call_result.CallResult.{CallResult}
use Rattle.ta_params.specs.declared.copied_params.CopiedParams.{CopiedParams}
use Rattle.base.specs.NumberMap.{NumberMap}
use Rattle.tee_storage.specs.declared.handle.Handle.{Handle}
use Rattle.job_model.specs.Point.{no_params}
use Rattle.kernel_exit.specs.Ending.{ComesOfGrant, HasComeTo, IsOf}

-- what is said of a call stays
pub record Keeps (before after : Cont (List ℕ)) : Type 0 where
  pub client : after.client ≡ before.client
  pub kind : after.kind ≡ before.kind
  pub app : after.app ≡ before.app
  pub login : after.login ≡ before.login
  pub arg : after.arg ≡ before.arg
  pub area : after.area ≡ before.area
  pub places : after.places ≡ before.places
  pub session : after.session ≡ before.session
  pub instance : after.instance ≡ before.instance
  pub cancelled : after.cancelled ≡ before.cancelled
  pub buffer : after.buffer ≡ before.buffer

-- it is the kernel's call still, with these steps and in this phase
pub still : (before after : Cont (List ℕ)) (call : PendingCall) (steps : ℕ) (phase : CallPhase) → Keeps before after →
    IsCall before call → after.steps ≡ steps → IsInPhase after phase → IsCall after (record call { steps = steps; phase = phase })
still before after call steps phase keeps is did at = record {
  client = keeps.client ∙ is.client;
  kind = keeps.kind ∙ is.kind;
  app = subst (λ (app : Option ContApp). IsAppOf app call.uuid) (sym keeps.app) is.app;
  login = λ login settled opens. keeps.login ∙ is.login login (sym keeps.kind ∙ settled) opens;
  arg = keeps.arg ∙ is.arg;
  area = keeps.area ∙ is.area;
  places = ap (λ p. p.items) keeps.places ∙ is.places;
  session = keeps.session ∙ is.session;
  instance = keeps.instance ∙ is.instance;
  seen = keeps.cancelled ∙ is.seen;
  steps = did;
  buffer = keeps.buffer ∙ is.buffer;
  phase = at;
}

-- a grant keeps it
pub kept_by_run : (steps : ℕ) (before after : Cont (List ℕ)) (why : ContStop) → HasRun steps before after why → Keeps before after
kept_by_run steps before after why run = record {
  client = ap (λ (c : Cont (List ℕ)). c.client) run.stays;
  kind = ap (λ (c : Cont (List ℕ)). c.kind) run.stays;
  app = ap (λ (c : Cont (List ℕ)). c.app) run.stays;
  login = ap (λ (c : Cont (List ℕ)). c.login) run.stays;
  arg = ap (λ (c : Cont (List ℕ)). c.arg) run.stays;
  area = ap (λ (c : Cont (List ℕ)). c.area) run.stays;
  places = ap (λ (c : Cont (List ℕ)). c.places) run.stays;
  session = ap (λ (c : Cont (List ℕ)). c.session) run.stays;
  instance = ap (λ (c : Cont (List ℕ)). c.instance) run.stays;
  cancelled = ap (λ (c : Cont (List ℕ)). c.cancelled) run.stays;
  buffer = ap (λ (c : Cont (List ℕ)). c.buffer) run.stays;
}

-- and so does what is shown behind it
pub record Shows (ran shown : Cont (List ℕ)) (tables : Tables) : Type 0 where
  pub keeps : Keeps ran shown
  pub steps : shown.steps ≡ ran.steps
  pub phase : shown.phase ≡ ran.phase
  pub result : shown.result ≡ ran.result
  pub told : shown.done ≡ true
  pub wakes : (call : PendingCall) → IsOf ran call → option_and_then (λ (asked : Asked). woken_slot asked.rpc) shown.request ≡ woken_by tables call call.kind

both : (one two three : Cont (List ℕ)) → Keeps one two → Keeps two three → Keeps one three
both one two three first second = record {
  client = second.client ∙ first.client;
  kind = second.kind ∙ first.kind;
  app = second.app ∙ first.app;
  login = second.login ∙ first.login;
  arg = second.arg ∙ first.arg;
  area = second.area ∙ first.area;
  places = second.places ∙ first.places;
  session = second.session ∙ first.session;
  instance = second.instance ∙ first.instance;
  cancelled = second.cancelled ∙ first.cancelled;
  buffer = second.buffer ∙ first.buffer;
}

is_of : (before after : Cont (List ℕ)) (call : PendingCall) → Keeps before after → IsCall before call → IsOf after call
is_of before after call keeps is = record { kind = keeps.kind ∙ is.kind; session = keeps.session ∙ is.session; instance = keeps.instance ∙ is.instance }

some_weaker : {T : Type 0} (found : Option T) (P Q : T → Type 0) → ((x : T) → P x → Q x) → IsSomeAnd found P → IsSomeAnd found Q
some_weaker None P Q weaker so = so
some_weaker (Some x) P Q weaker so = weaker x so

-- the grant's job is the call's
pub granted : (before : Cont (List ℕ)) (call : PendingCall) (its : Job) (steps : ℕ) (P : Grant → Type 0) → IsCall before call →
    call.phase ≡ Runs its → IsSomeAnd (grant_of steps (job_of bytes_of before)) P → IsSomeAnd (grant_of steps its) P
granted before call its steps P is at so =
    let here : IsInPhase before (Runs its) = subst (λ (phase : CallPhase). IsInPhase before phase) at is.phase in
    subst (λ (j : Job). IsSomeAnd (grant_of steps j) P) (sym here.0) so

-- what comes of each grant that the call's job can have had is what comes of the grant
by_grant : (tables : Tables) (ran shown : Cont (List ℕ)) (new : CoreTables) (why : ContStop) →
    ((before : Cont (List ℕ)) (call : PendingCall) (steps : ℕ) → IsCall before call → HasRun steps before ran why → (grant : Grant) →
    IsAdvance bytes_of ran.app ran before.steps steps grant why → HasComeTo (after_grant tables call steps grant) shown new) →
    ComesOfGrant tables ran why shown new
by_grant tables ran shown new why comes before call its steps is at run =
    granted before call its steps (λ grant. HasComeTo (after_grant tables call steps grant) shown new) is at
    (some_weaker (grant_of steps (job_of bytes_of before)) _ (λ grant. HasComeTo (after_grant tables call steps grant) shown new)
    (comes before call steps is run) run.advances)

-- ---- by why it stopped

-- it shows this result, with these tables
result_so : (before ran shown : Cont (List ℕ)) (call : PendingCall) (steps used : ℕ) (why : ContStop) (new : CoreTables) (its : Tables)
    (result : CallResult) (params : CopiedParams) → IsCall before call → HasRun steps before ran why → ran.steps ≡ before.steps + used →
    tables_of new ≡ its → Shows ran shown (tables_of new) → phase_after why ≡ phase.Ends → ran.result ≡ result →
    kept_params shown.params ≡ params →
    HasComeTo (record {
      call = record call { steps = call.steps + used; phase = Ends result params true (woken_by its call call.kind) };
      tables = its;
    }) shown new
result_so before ran shown call steps used why new its result params is run did with shows at answer left =
    let keeps = kept_by_run steps before ran why run in
    let wakes : option_and_then (λ (asked : Asked). woken_slot asked.rpc) shown.request ≡ woken_by its call call.kind =
    shows.wakes call (is_of before ran call keeps is) ∙ ap (λ (t : Tables). woken_by t call call.kind) with in
    record {
      call = still before shown call (call.steps + used) (Ends result params true (woken_by its call call.kind))
          (both before ran shown keeps shows.keeps) is
          (shows.steps ∙ did ∙ ap (λ n. n + used) is.steps)
          (record {
            phase = shows.phase ∙ run.phase ∙ at;
            result = shows.result ∙ answer;
            params = left;
            told = shows.told;
            wakes = wakes;
          });
      with = with;
    }

-- it has ended
pub ended_so : (tables : Tables) (ran shown : Cont (List ℕ)) (new : CoreTables) (why : ContStop) (result : CallResult) →
    why ≡ stop.Ended result → shown.params ≡ ran.params →
    ((call : PendingCall) → IsOf ran call → tables_of new ≡ tables_after_end tables call (end_left bytes_of ran)) →
    Shows ran shown (tables_of new) → ComesOfGrant tables ran why shown new
ended_so tables ran shown new why result is_end params after shows = by_grant tables ran shown new why by
  where
    by : (before : Cont (List ℕ)) (call : PendingCall) (steps : ℕ) → IsCall before call → HasRun steps before ran why →
        (grant : Grant) → IsAdvance bytes_of ran.app ran before.steps steps grant why →
        HasComeTo (after_grant tables call steps grant) shown new
    by before call steps is run (Left left) so = let other = so.0 in absurd (cc)
    by before call steps is run (Stopped used (job.Panics code)) so = let other = so.0.0 in absurd (cc)
    by before call steps is run (Stopped used (job.Asks wanted payload left)) so = let other = so.0.0 in absurd (cc)
    by before call steps is run (Stopped used (job.Ends end)) so =
        let of = is_of before ran call (kept_by_run steps before ran why run) is in
        result_so before ran shown call steps used why new (tables_after_end tables call end) end.result end.params is run so.1
        (after call of ∙ ap (λ (e : End). tables_after_end tables call e) (sym so.0.1)) shows (ap phase_after is_end)
        (sym (ap (λ (e : End). e.result) so.0.1)) (ap kept_params params ∙ sym (ap (λ (e : End). e.params) so.0.1))

-- it has panicked
pub panicked_so : (tables : Tables) (ran shown : Cont (List ℕ)) (new : CoreTables) (why : ContStop) (code : ℕ) →
    why ≡ stop.Panicked code → shown.params ≡ None →
    ((call : PendingCall) → IsOf ran call → tables_of new ≡ tables_after_panic tables call) →
    Shows ran shown (tables_of new) → ComesOfGrant tables ran why shown new
panicked_so tables ran shown new why code is_panic params after shows = by_grant tables ran shown new why by
  where
    by : (before : Cont (List ℕ)) (call : PendingCall) (steps : ℕ) → IsCall before call → HasRun steps before ran why →
        (grant : Grant) → IsAdvance bytes_of ran.app ran before.steps steps grant why →
        HasComeTo (after_grant tables call steps grant) shown new
    by before call steps is run (Left left) so = let other = so.0 in absurd (cc)
    by before call steps is run (Stopped used (job.Ends end)) so = let other = so.0.0 in absurd (cc)
    by before call steps is run (Stopped used (job.Asks wanted payload left)) so = let other = so.0.0 in absurd (cc)
    by before call steps is run (Stopped used (job.Panics by_code)) so =
        result_so before ran shown call steps used why new (tables_after_panic tables call) (of_tee 0xffff3024) no_params is run so.1
        (after call (is_of before ran call (kept_by_run steps before ran why run) is)) shows (ap phase_after is_panic) so.0.1
        (ap kept_params params)

-- ---- what is shown

-- with its memory taken, what is shown keeps the call
pub shows_by : (ran shown : Cont (List ℕ)) (tables : Tables) (objects : NumberMap Handle) (params : Option CopiedParams) →
    shown ≡ record ran { memory = None; objects = objects; params = params; request = shown.request; done = true } →
    ((call : PendingCall) → IsOf ran call → option_and_then (λ (asked : Asked). woken_slot asked.rpc) shown.request ≡ woken_by tables call call.kind) →
    Shows ran shown tables
shows_by ran shown tables objects params is wakes = record {
  keeps = record {
    client = ap (λ (c : Cont (List ℕ)). c.client) is;
    kind = ap (λ (c : Cont (List ℕ)). c.kind) is;
    app = ap (λ (c : Cont (List ℕ)). c.app) is;
    login = ap (λ (c : Cont (List ℕ)). c.login) is;
    arg = ap (λ (c : Cont (List ℕ)). c.arg) is;
    area = ap (λ (c : Cont (List ℕ)). c.area) is;
    places = ap (λ (c : Cont (List ℕ)). c.places) is;
    session = ap (λ (c : Cont (List ℕ)). c.session) is;
    instance = ap (λ (c : Cont (List ℕ)). c.instance) is;
    cancelled = ap (λ (c : Cont (List ℕ)). c.cancelled) is;
    buffer = ap (λ (c : Cont (List ℕ)). c.buffer) is;
  };
  steps = ap (λ (c : Cont (List ℕ)). c.steps) is;
  phase = ap (λ (c : Cont (List ℕ)). c.phase) is;
  result = ap (λ (c : Cont (List ℕ)). c.result) is;
  told = ap (λ (c : Cont (List ℕ)). c.done) is;
  wakes = wakes;
}

-- a call that ran and has ended, from what the code made of it
pub ended_by : (tables : Tables) (ran mid shown : Cont (List ℕ)) (new : CoreTables) (why : ContStop) (result : CallResult) →
    why ≡ stop.Ended result →
    ((call : PendingCall) → IsOf ran call → tables_of new ≡ tables_after_end tables call (end_left bytes_of ran)) →
    mid ≡ record ran { memory = None; objects = [] } → shown ≡ record mid { request = shown.request; done = true } →
    ((call : PendingCall) → call.kind ≡ mid.kind → call.instance ≡ mid.instance →
    option_and_then (λ (asked : Asked). woken_slot asked.rpc) shown.request ≡ woken_by (tables_of new) call call.kind) →
    ComesOfGrant tables ran why shown new
ended_by tables ran mid shown new why result is_end after taken done wakes =
    let is = done ∙ ap (λ (c : Cont (List ℕ)). record c { request = shown.request; done = true }) taken in
    ended_so tables ran shown new why result is_end (ap (λ (c : Cont (List ℕ)). c.params) is) after
    (shows_by ran shown (tables_of new) [] ran.params is
    (λ call of. wakes call (sym (ap (λ (c : Cont (List ℕ)). c.kind) taken ∙ of.kind)) (sym (ap (λ (c : Cont (List ℕ)). c.instance) taken ∙ of.instance))))

pub panicked_by : (tables : Tables) (ran mid shown : Cont (List ℕ)) (new : CoreTables) (why : ContStop) (code : ℕ) →
    why ≡ stop.Panicked code →
    ((call : PendingCall) → IsOf ran call → tables_of new ≡ tables_after_panic tables call) →
    mid ≡ record ran { memory = None } → shown ≡ record mid { params = None; request = shown.request; done = true } →
    ((call : PendingCall) → call.kind ≡ mid.kind → call.instance ≡ mid.instance →
    option_and_then (λ (asked : Asked). woken_slot asked.rpc) shown.request ≡ woken_by (tables_of new) call call.kind) →
    ComesOfGrant tables ran why shown new
panicked_by tables ran mid shown new why code is_panic after taken done wakes =
    let is = done ∙ ap (λ (c : Cont (List ℕ)). record c { params = None; request = shown.request; done = true }) taken in
    panicked_so tables ran shown new why code is_panic (ap (λ (c : Cont (List ℕ)). c.params) is) after
    (shows_by ran shown (tables_of new) ran.objects None is
    (λ call of. wakes call (sym (ap (λ (c : Cont (List ℕ)). c.kind) taken ∙ of.kind)) (sym (ap (λ (c : Cont (List ℕ)). c.instance) taken ∙ of.instance))))
