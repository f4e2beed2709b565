-- What a plan makes of a new call, as an event of a realm.
use Rattle.std.proofs.Common.{◌≡◌, ℕ, ◌+◌, ◌==◌, Bool, true, false, List, [], ◌∷◌, Option, Some, None, refl, ap, sym, subst, ◌∙◌}
use Rattle.std.specs.Prelude.{◌&&◌, bytes_eq, if◌then◌else◌, is_some}
use Rattle.std.proofs.lemmas.Option.{option_and_then_some}
use Rattle.std.specs.Option.{option_and_then, option_map, option_map_or, option_or}
use Rattle.base.specs.NumberMap.{NumberMap, get, insert}
use Rattle.group_model.specs.declared.group_event.GroupEvent.{GroupEvent}
use Rattle.group_model.specs.declared.group_event.GroupEvent.TheVariants as group
use Rattle.job_model.specs.Beginning.{OfImage, OfRelation, Program, begun_job}
use Rattle.job_model.specs.Job.{idle_job}
use Rattle.job_model.specs.Owner.{owner_of}
use Rattle.job_model.specs.declared.call_kind.CallKind.TheVariants as kind
use Rattle.job_model.specs.declared.entry_point.EntryPoint.{EntryPoint}
use Rattle.job_model.specs.declared.entry_point.EntryPoint.TheVariants as point
use Rattle.kernel_model.specs.Application.{Application, BuiltIn, uuid_of}
use Rattle.kernel_model.specs.Application as application
use Rattle.kernel_model.specs.Begin.{Begun, awaited_number, begins_on, closing_points, opens_kept, opens_made, opens_new}
use Rattle.kernel_model.specs.Codes.{bad_parameters}
use Rattle.kernel_model.specs.Decision.{Taken}
use Rattle.kernel_model.specs.Instances.{is_held, program_on}
use Rattle.kernel_model.specs.Kernel.{Instance, PendingCall}
use Rattle.kernel_model.specs.NewCall.{NewCall as Call, about_open, about_session, beginner, closes, invokes, named_session, no_copies, opener, opens, opens_or_waits, runs_in, settles, shared_by, waits_in, with_session}
use Rattle.kernel_model.specs.Sessions.{opened_by}
use Rattle.kernel_state.specs.Setup.{application_of}
use Rattle.new_calls.specs.Applying.{CanApply}
use Rattle.new_calls.specs.Deciding.{asked_by, taken_in_session, taken_of}
use Rattle.new_calls.specs.declared.halt.Settled.{Settled}
use Rattle.new_calls.specs.declared.halt.Settled.TheVariants as settled
use Rattle.new_calls.specs.declared.plan.Plan.{Plan}
use Rattle.new_calls.specs.declared.plan.Plan.TheVariants as plan
use Rattle.own_model.proofs.Maps.{get-insert-same}
use Rattle.own_model.specs.Parameters.{params_of}
use Rattle.own_model.specs.declared.own_event.OwnInput.TheVariants as input
use Rattle.param_copy.specs.Copying.{Copies}
use Rattle.param_copy.specs.Outcome.{copies_in}
use Rattle.realm_model.specs.Reading.{Notes, event_of, number_of, sessions_with, uuid_by}
use Rattle.realm_model.specs.Realm.{AllSessions, OneSession, Realm}
use Rattle.realm_notes.specs.Arriving.{event_as, event_in, opens_in, sessions_as}
use Rattle.realm_notes.specs.Calls.{call_by, invoke_input, reserving_open}
use Rattle.realm_notes.specs.Realms.{counted, is_at_once, takes_open}
use Rattle.realm_notes.specs.declared.calls.ArrivingCall.{ArrivingCall}
use Rattle.realm_notes.specs.declared.calls.ArrivingCall.TheVariants as new
use Rattle.realm_notes.specs.declared.calls.NewOpen.{NewOpen}
use Rattle.realm_notes.specs.declared.calls.SessionCall.{SessionCall}
use Rattle.realm_notes.specs.declared.calls.SessionCall.TheVariants as in_session
use Rattle.session_table.specs.Session.{reserved_for}
use Rattle.session_table.specs.declared.session.Session.{Session}
use Rattle.ta_params.specs.declared.copied_params.CopiedParams.{CopiedParams}
use Rattle.ta_params.specs.declared.login.Login.{Login}

-- ---- what counts

-- nothing never does
pub none_counted : (realm : Realm) (call : PendingCall) → counted realm call None ≡ None
none_counted (AllSessions app) call = refl
none_counted (OneSession member) call = by_test ((call.session == member) && is_at_once call.kind call.phase)
  where
    by_test : (test : Bool) → ◌≡◌ {A = Option GroupEvent} (if test then None else None) None
    by_test true = refl
    by_test false = refl

-- a call in a session does where the session is a member, if it is no open or runs at once
in_session_counts : (realm : Realm) (notes : Notes) (call : PendingCall) (came : ℕ → GroupEvent)
    → is_at_once call.kind call.phase ≡ true
    → option_map came (number_of realm notes call.session) ≡ counted realm call (option_map came (number_of realm notes call.session))
in_session_counts (AllSessions app) notes call came at_once = refl
in_session_counts (OneSession member) notes call came at_once =
    by_test (call.session == member)
    ∙ ap (λ (b : Bool). if (call.session == member) && b then option_map came (number_of (OneSession member) notes call.session) else None)
    (sym at_once)
  where
    by_test : (test : Bool) → option_map came (if test then Some 0 else None)
        ≡ (if test && true then option_map came (if test then Some 0 else None) else None)
    by_test true = refl
    by_test false = refl

-- ---- a plan

-- what the slot was taken for is this for the realm
pub record IsPlanned (realm : Realm) (notes : Notes) (named : ℕ) (taken : Taken) (came : Option ArrivingCall) : Type 0 where
  pub event : event_of realm taken.tables notes taken.call taken.call.kind
      ≡ counted realm taken.call (option_and_then (event_as realm notes named) came)
  pub sessions : (after : Notes) → sessions_with taken.call.kind after taken.call
      ≡ option_map_or (sessions_as after taken.call.session) came after
  pub names : (event : GroupEvent) → option_and_then (event_as realm notes named) came ≡ Some event
      → uuid_by event taken.call notes ≡ option_or (option_and_then opens_in came) notes.uuid

-- the application's UUID, by the event of an open and by that of a call in a session
open_names : (realm : Realm) (notes : Notes) (named : ℕ) (opening : NewOpen) (call : PendingCall) (event : GroupEvent)
    → call.uuid ≡ Some opening.uuid → event_as realm notes named (new.Opens opening) ≡ Some event
    → uuid_by event call notes ≡ Some opening.uuid
open_names realm notes named opening call event of is = by_test (takes_open realm opening) is
  where
    by_test : (test : Bool)
        → (if test then Some (group.Open opening.input opening.login opening.limited opening.area) else None) ≡ Some event
        → uuid_by event call notes ≡ Some opening.uuid
    by_test true is =
        let same : group.Open opening.input opening.login opening.limited opening.area ≡ event = cc in
        ap (λ (e : GroupEvent). uuid_by e call notes) (sym same) ∙ of
    by_test false is = absurd cc

session_names : (notes : Notes) (number : Option ℕ) (brought : SessionCall) (call : PendingCall) (event : GroupEvent)
    → option_map (event_in brought) number ≡ Some event → uuid_by event call notes ≡ notes.uuid
session_names notes None brought call event is = absurd cc
session_names notes (Some number) brought call event is =
    let same : event_in brought number ≡ event = cc in
    ap (λ (e : GroupEvent). uuid_by e call notes) (sym same) ∙ by_call brought
  where
    by_call : (b : SessionCall) → uuid_by (event_in b number) call notes ≡ notes.uuid
    by_call (in_session.Invoke func came area) = refl
    by_call (in_session.Close area) = refl
    by_call in_session.Cancel = refl

no_event : (event : GroupEvent) {P : Type 0} → None ≡ Some event → P
no_event event e = absurd cc

-- ---- settled calls

settled_open_event : (realm : Realm) (notes : Notes) (c : Call) (app : _) (login : Login) (code : ℕ)
    → (let p = plan.Settles (settled.Open app login code) in
    event_of realm (taken_of c p).tables notes (taken_of c p).call (taken_of c p).call.kind
    ≡ counted realm (taken_of c p).call (option_and_then (event_as realm notes c.head.session) (call_by c.head.func (is_some c.area) p)))
settled_open_event (AllSessions of) notes c app login code = refl
settled_open_event (OneSession member) notes c app login code =
    sym (none_counted (OneSession member) (taken_of c (plan.Settles (settled.Open app login code))).call)

settled_is : (realm : Realm) (notes : Notes) (c : Call) (how : Settled)
    → IsPlanned realm notes c.head.session (taken_of c (plan.Settles how)) (call_by c.head.func (is_some c.area) (plan.Settles how))
settled_is realm notes c (settled.Call code) = record {
  event = sym (none_counted realm (taken_of c (plan.Settles (settled.Call code))).call);
  sessions = λ after. refl;
  names = λ event is. no_event event is;
}
settled_is realm notes c (settled.Open app login code) = record {
  event = settled_open_event realm notes c app login code;
  sessions = λ after. refl;
  names = λ event is. open_names realm notes c.head.session _ (taken_of c (plan.Settles (settled.Open app login code))).call event refl is;
}
settled_is realm notes c (settled.Invoke code) = record {
  event = in_session_counts realm notes (taken_of c (plan.Settles (settled.Invoke code))).call _ refl;
  sessions = λ after. refl;
  names = λ event is. session_names notes (number_of realm notes c.head.session)
      (in_session.Invoke c.head.func (invoke_input code) (is_some c.area)) (taken_of c (plan.Settles (settled.Invoke code))).call
      event is;
}

-- ---- opens

-- the session of an open has its login
login_kept : (sessions : NumberMap Session) (number : ℕ) (session : Session) (params : CopiedParams) (area : Bool)
    → option_map (λ (s : Session). group.Open (input.Copied params) s.login false area) (get (insert sessions number session) number)
    ≡ Some (group.Open (input.Copied params) session.login false area)
login_kept sessions number session params area =
    ap (option_map (λ (s : Session). group.Open (input.Copied params) s.login false area)) (get-insert-same sessions number session)

some_both : (a : Bool) (came : Option GroupEvent) → (if a then came else None) ≡ (if a && true then came else None)
some_both true came = refl
some_both false came = refl

module _ (notes : Notes) (c : Call) (app : Application) (login : Login) (copies : Copies) where
  abbrev brought : NewOpen
  brought = reserving_open app (input.Copied copies.params) login (is_some c.area)

  abbrev opened : GroupEvent
  opened = group.Open (input.Copied copies.params) login false (is_some c.area)

  -- its event, and its application
  record IsOpen (realm : Realm) (taken : Taken) : Type 0 where
    event : event_of realm taken.tables notes taken.call taken.call.kind
        ≡ counted realm taken.call (event_as realm notes c.head.session (new.Opens brought))
    sessions : (after : Notes) → sessions_with taken.call.kind after taken.call ≡ sessions_as after taken.call.session (new.Opens brought)
    of : taken.call.uuid ≡ Some (uuid_of app)

  abbrev opens_as : Begun → Taken
  opens_as begun =
      runs_in c (with_session c (asked_by app login) begun.tables begun.instance) (about_open c app copies begun.instance)
      copies.cookies begun.job

  runs_open : (realm : Realm) (begun : Begun) → params_of begun.job ≡ copies.params → begun.job.login ≡ login → IsOpen realm (opens_as begun)
  runs_open (OneSession member) begun params its = record {
    event = ap (λ (p : CopiedParams). if c.tables.next_session == member
        then Some (group.Open (input.Copied p) begun.job.login false (is_some c.area)) else None) params
        ∙ ap (λ (l : Login). if c.tables.next_session == member
        then Some (group.Open (input.Copied copies.params) l false (is_some c.area)) else None) its
        ∙ some_both (c.tables.next_session == member) (Some opened);
    sessions = λ after. refl;
    of = refl;
  }
  runs_open (AllSessions of) begun params its =
      let session : Session = reserved_for c.client login begun.instance in
      let sessions = begun.tables.sessions in
      let number = c.tables.next_session in
      record {
        event = ap (λ (o : Option GroupEvent). if bytes_eq (uuid_of app) (uuid_of of) then o else None)
            (ap (λ (ps : CopiedParams). option_map (λ (s : Session). group.Open (input.Copied ps) s.login false (is_some c.area))
            (get (insert sessions number session) number)) params
            ∙ login_kept sessions number session copies.params (is_some c.area));
        sessions = λ after. refl;
        of = refl;
      }

  module _ (realm : Realm) where
    kept_open : (kept : ℕ × Instance) (of : Application) → app ≡ of
        → IsOpen realm (opens_as (opens_kept (beginner c) (opener (asked_by app login) app copies) kept))
    kept_open kept (application.OfImage image) is =
        runs_open realm (opens_kept (beginner c) (opener (asked_by app login) app copies) kept)
        (ap (λ (a : Application). params_of (opens_kept (beginner c) (opener (asked_by app login) a copies) kept).job) is)
        (ap (λ (a : Application). (opens_kept (beginner c) (opener (asked_by app login) a copies) kept).job.login) is)
    kept_open kept (BuiltIn uuid relation) is =
        runs_open realm (opens_kept (beginner c) (opener (asked_by app login) app copies) kept)
        (ap (λ (a : Application). params_of (opens_kept (beginner c) (opener (asked_by app login) a copies) kept).job) is)
        (ap (λ (a : Application). (opens_kept (beginner c) (opener (asked_by app login) a copies) kept).job.login) is)

    new_open : (number next : ℕ) (of : Application) → app ≡ of
        → IsOpen realm (opens_as (opens_new (beginner c) (opener (asked_by app login) app copies) number next))
    new_open number next (application.OfImage image) is =
        runs_open realm (opens_new (beginner c) (opener (asked_by app login) app copies) number next)
        (ap (λ (a : Application). params_of (opens_new (beginner c) (opener (asked_by app login) a copies) number next).job) is)
        (ap (λ (a : Application). (opens_new (beginner c) (opener (asked_by app login) a copies) number next).job.login) is)
    new_open number next (BuiltIn uuid relation) is =
        runs_open realm (opens_new (beginner c) (opener (asked_by app login) app copies) number next)
        (ap (λ (a : Application). params_of (opens_new (beginner c) (opener (asked_by app login) a copies) number next).job) is)
        (ap (λ (a : Application). (opens_new (beginner c) (opener (asked_by app login) a copies) number next).job.login) is)

    made_open : (awaited : Option ℕ)
        → IsOpen realm (opens_as (option_map_or
        (λ number. opens_new (beginner c) (opener (asked_by app login) app copies) number c.tables.next_instance) awaited
        (opens_new (beginner c) (opener (asked_by app login) app copies) c.tables.next_instance (c.tables.next_instance + 1))))
    made_open None = new_open c.tables.next_instance (c.tables.next_instance + 1) app refl
    made_open (Some number) = new_open number c.tables.next_instance app refl

    open_on : (shared : Option (ℕ × Instance)) → shared_by c app ≡ shared → IsOpen realm (opens c (asked_by app login) app copies)
    open_on None is =
        subst (λ (s : Option (ℕ × Instance)). IsOpen realm (opens_as (option_map_or
        (opens_kept (beginner c) (opener (asked_by app login) app copies)) s
        (opens_made (beginner c) (opener (asked_by app login) app copies))))) (sym is)
        (made_open (awaited_number c.tables app))
    open_on (Some kept) is =
        subst (λ (s : Option (ℕ × Instance)). IsOpen realm (opens_as (option_map_or
        (opens_kept (beginner c) (opener (asked_by app login) app copies)) s
        (opens_made (beginner c) (opener (asked_by app login) app copies))))) (sym is)
        (kept_open kept app refl)

  -- one that waits is none of one session
  waiting_open : (realm : Realm) (kept : ℕ × Instance) → IsOpen realm (waits_in c (with_session c (asked_by app login) c.tables kept.0)
      (about_open c app copies kept.0) copies)
  waiting_open (OneSession member) kept = record {
    event = waits (c.tables.next_session == member);
    sessions = λ after. refl;
    of = refl;
  }
    where
      waits : (a : Bool) → ◌≡◌ {A = Option GroupEvent} None (if a && false then Some opened else None)
      waits true = refl
      waits false = refl
  waiting_open (AllSessions of) kept = record {
    event = ap (λ (o : Option GroupEvent). if bytes_eq (uuid_of app) (uuid_of of) then o else None)
        (login_kept c.tables.sessions c.tables.next_session (reserved_for c.client login kept.0) copies.params (is_some c.area));
    sessions = λ after. refl;
    of = refl;
  }

  module _ (realm : Realm) where
    by_held : (kept : ℕ × Instance) (held : Bool) → IsOpen realm (opens c (asked_by app login) app copies)
        → IsOpen realm (if held then waits_in c (with_session c (asked_by app login) c.tables kept.0)
        (about_open c app copies kept.0) copies else opens c (asked_by app login) app copies)
    by_held kept true runs = waiting_open realm kept
    by_held kept false runs = runs

    by_shared : (shared : Option (ℕ × Instance)) → shared_by c app ≡ shared
        → IsOpen realm (opens_or_waits c (asked_by app login) app copies)
    by_shared None is =
        subst (λ (s : Option (ℕ × Instance)). IsOpen realm (option_map_or
        (λ (kept : ℕ × Instance). if is_held kept.1 then waits_in c (with_session c (asked_by app login) c.tables kept.0)
        (about_open c app copies kept.0) copies else opens c (asked_by app login) app copies) s
        (opens c (asked_by app login) app copies))) (sym is) (open_on realm None is)
    by_shared (Some kept) is =
        subst (λ (s : Option (ℕ × Instance)). IsOpen realm (option_map_or
        (λ (kept : ℕ × Instance). if is_held kept.1 then waits_in c (with_session c (asked_by app login) c.tables kept.0)
        (about_open c app copies kept.0) copies else opens c (asked_by app login) app copies) s
        (opens c (asked_by app login) app copies))) (sym is)
        (by_held kept (is_held kept.1) (open_on realm (Some kept) is))

    open_is : IsPlanned realm notes c.head.session (opens_or_waits c (asked_by app login) app copies) (Some (new.Opens brought))
    open_is =
        let is = by_shared (shared_by c app) refl in
        record {
          event = is.event;
          sessions = is.sessions;
          names = λ event came. open_names realm notes c.head.session brought (opens_or_waits c (asked_by app login) app copies).call event
              is.of came;
        }

-- ---- invokes and closes

mapped : (o : Option ℕ) (gives : ℕ → GroupEvent) → option_and_then (λ n. Some (gives n)) o ≡ option_map gives o
mapped None gives = refl
mapped (Some n) gives = refl

module _ (realm : Realm) (notes : Notes) (c : Call) (named : Session × Instance) (copies : Copies) where
  abbrev brings : SessionCall
  brings = in_session.Invoke c.head.func (input.Copied copies.params) (is_some c.area)

  abbrev IsInvoke : Taken → Type 0
  IsInvoke taken = IsPlanned realm notes c.head.session taken (Some (new.InSession brings))

  abbrev invoke_points : List EntryPoint
  invoke_points = point.Invoke c.head.func ∷ []

  abbrev invoked : ℕ → GroupEvent
  invoked session = group.Invoke session c.head.func (input.Copied copies.params) (is_some c.area)

  job_params : (program : Option Program)
      → params_of (begun_job (record { program = program; memory = named.1.memory; seen = false })
      (idle_job (owner_of named.1.uuid c.boot.key) named.0.login named.0.context named.1.objects copies.params) invoke_points) ≡ copies.params
  job_params None = refl
  job_params (Some (OfImage image)) = refl
  job_params (Some (OfRelation relation)) = refl

  pub invoke_is : IsInvoke (invokes c named copies)
  invoke_is = by_held (is_held named.1)
    where
      waiting : Taken
      waiting = waits_in c c.tables (about_session c (kind.Invoke c.head.func) named.0 named.1 copies) copies

      running : Taken
      running = runs_in c (begins_on (beginner c) named.0 named.1 copies.params invoke_points).tables
          (about_session c (kind.Invoke c.head.func) named.0 named.1 copies) copies.cookies
          (begins_on (beginner c) named.0 named.1 copies.params invoke_points).job

      by_held : (held : Bool) → IsInvoke (if held then waiting else running)
      by_held true = record {
        event = mapped (number_of realm notes c.head.session) invoked ∙ in_session_counts realm notes waiting.call invoked refl;
        sessions = λ after. refl;
        names = λ event is. session_names notes (number_of realm notes c.head.session) brings waiting.call event is;
      }
      by_held false = record {
        event = ap (λ (ps : CopiedParams). option_and_then (λ session.
            Some (group.Invoke session c.head.func (input.Copied ps) (is_some c.area))) (number_of realm notes c.head.session))
            (job_params (program_on c.boot named.1))
            ∙ mapped (number_of realm notes c.head.session) invoked ∙ in_session_counts realm notes running.call invoked refl;
        sessions = λ after. refl;
        names = λ event is. session_names notes (number_of realm notes c.head.session) brings running.call event is;
      }

module _ (realm : Realm) (notes : Notes) (c : Call) (named : Session × Instance) where
  abbrev closing : SessionCall
  closing = in_session.Close (is_some c.area)

  abbrev IsClose : Taken → Type 0
  IsClose taken = IsPlanned realm notes c.head.session taken (Some (new.InSession closing))

  abbrev closed : ℕ → GroupEvent
  closed session = group.Close session (is_some c.area)

  pub close_is : IsClose (closes c named)
  close_is = by_held (is_held named.1)
    where
      waiting : Taken
      waiting = waits_in c c.tables (about_session c kind.Close named.0 named.1 no_copies) no_copies

      running : Taken
      running = runs_in c (begins_on (beginner c) named.0 named.1 no_copies.params
          (closing_points (beginner c) c.head.session named.0 named.1)).tables
          (about_session c kind.Close named.0 named.1 no_copies) no_copies.cookies
          (begins_on (beginner c) named.0 named.1 no_copies.params
          (closing_points (beginner c) c.head.session named.0 named.1)).job

      by_held : (held : Bool) → IsClose (if held then waiting else running)
      by_held true = record {
        event = in_session_counts realm notes waiting.call closed refl;
        sessions = λ after. refl;
        names = λ event is. session_names notes (number_of realm notes c.head.session) closing waiting.call event is;
      }
      by_held false = record {
        event = in_session_counts realm notes running.call closed refl;
        sessions = λ after. refl;
        names = λ event is. session_names notes (number_of realm notes c.head.session) closing running.call event is;
      }

-- ---- the session that the argument names

abbrev beside_it : Call → Session → Option (Session × Instance)
beside_it c found = option_map {U = Session × Instance} (λ instance. (found, instance)) (get c.tables.instances found.instance)

paired : (o : Option Instance) (found session : Session) (instance : Instance)
    → option_map {U = Session × Instance} (λ (i : Instance). (found, i)) o ≡ Some (session, instance) → (found ≡ session) × (o ≡ Some instance)
paired None found session instance e = absurd cc
paired (Some i) found session instance e =
    let both : ◌≡◌ {A = Session × Instance} (found, i) (session, instance) = cc in (
      ap (λ (p : Session × Instance). p.0) both,
      ap (λ (p : Session × Instance). Some p.1) both,
    )

-- its instance is kept
named_kept : (c : Call) (session : Session) (instance : Instance) → named_session c ≡ Some (session, instance)
    → get c.tables.instances session.instance ≡ Some instance
named_kept c session instance e =
    option_and_then_some (beside_it c) (opened_by c.tables.sessions c.head.session c.client) (session, instance) e
    (λ (found : Session) there beside.
    let both = paired (get c.tables.instances found.instance) found session instance beside in
    ap (λ (s : Session). get c.tables.instances s.instance) (sym both.0) ∙ both.1)

-- what begins there
begins_there : (c : Call) (session : Session) (instance : Instance) (begins : Session × Instance → Taken)
    → named_session c ≡ Some (session, instance) → begins (session, instance) ≡ taken_in_session c session begins
begins_there c session instance begins e =
    sym (ap (λ (o : Option Instance). option_map_or (λ (i : Instance). begins (session, i)) o (settles c bad_parameters))
    (named_kept c session instance e))

-- ---- all plans

pub plan_is : (realm : Realm) (notes : Notes) (c : Call) (plan : Plan) → CanApply c plan
    → IsPlanned realm notes c.head.session (taken_of c plan) (call_by c.head.func (is_some c.area) plan)
plan_is realm notes c (plan.Settles how) can = settled_is realm notes c how
plan_is realm notes c (plan.Opens app login copies) can = open_is notes c (application_of app) login (copies_in copies.value) realm
plan_is realm notes c (plan.Invokes session app copies) can =
    subst (λ (taken : Taken). IsPlanned realm notes c.head.session taken
    (Some (new.InSession (in_session.Invoke c.head.func (input.Copied copies.value.params) (is_some c.area)))))
    (begins_there c session can.there.instance (λ named. invokes c named (copies_in copies.value)) can.there.named)
    (invoke_is realm notes c (session, can.there.instance) (copies_in copies.value))
plan_is realm notes c (plan.Closes session app) can =
    subst (λ (taken : Taken). IsPlanned realm notes c.head.session taken
    (Some (new.InSession (in_session.Close (is_some c.area)))))
    (begins_there c session can.instance (λ named. closes c named) can.named)
    (close_is realm notes c (session, can.instance))
plan_is realm notes c plan.Cancels can = record {
  event = in_session_counts realm notes (taken_of c plan.Cancels).call _ refl;
  sessions = λ after. refl;
  names = λ event is. session_names notes (number_of realm notes c.head.session) in_session.Cancel (taken_of c plan.Cancels).call event is;
}
plan_is realm notes c (plan.KeepsBuffer cookie buffer) can = record {
  event = sym (none_counted realm (taken_of c (plan.KeepsBuffer cookie buffer)).call);
  sessions = λ after. refl;
  names = λ event is. no_event event is;
}
plan_is realm notes c (plan.DropsBuffer cookie) can = record {
  event = sym (none_counted realm (taken_of c (plan.DropsBuffer cookie)).call);
  sessions = λ after. refl;
  names = λ event is. no_event event is;
}
