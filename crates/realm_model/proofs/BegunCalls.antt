-- What a new call of the realm that begins takes its slot for, and the machine's step with it: it begins the same job, on
-- its instance, or on a new one.
use Rattle.std.proofs.Common.{◌≡◌, ℕ, ◌≤◌, Bool, false, List, [], ◌∷◌, Option, Some, None, refl, ap, subst, sym}
use Rattle.std.proofs.Common.{◌∙◌, arith}
use Rattle.std.specs.Prelude.{◌||◌, bytes_eq, if◌then◌else◌, is_some}
use Rattle.std.specs.Option.{option_map, option_map_or}
use Rattle.std.proofs.lemmas.Option.{option_and_then_some}
use Rattle.base.specs.NumberMap.{NumberMap, IsRising-remove, get, remove}
use Rattle.job_model.specs.Beginning.{OfImage, OfRelation, Program}
use Rattle.job_model.specs.declared.call_kind.CallKind.{CallKind}
use Rattle.job_model.specs.declared.call_kind.CallKind.TheVariants as kind
use Rattle.job_model.specs.declared.entry_point.EntryPoint.{EntryPoint}
use Rattle.job_model.specs.declared.entry_point.EntryPoint.TheVariants as point
use Rattle.job_model.specs.Job.{Job}
use Rattle.job_model.specs.Point.{no_params}
use Rattle.param_copy.specs.Copying.{Copies}
use Rattle.session_table.specs.declared.session.Session.{Session}
use Rattle.session_table.specs.Session.{reserved_for}
use Rattle.ta_params.specs.declared.copied_params.CopiedParams.{CopiedParams}
use Rattle.ta_params.specs.declared.login.Login.{Login}
use Rattle.kernel_model.specs.Application.{Application, program_of, uuid_of}
use Rattle.kernel_model.specs.Argument.{Opening}
use Rattle.kernel_model.specs.Begin.{Begun, begins_on, closing_points, session_job, with_instance}
use Rattle.kernel_model.specs.Begin as kept_begin
use Rattle.kernel_model.specs.Instances.{destroy_after, destroy_of, held_by, is_held, keeps_alive, program_on}
use Rattle.kernel_model.specs.Kernel.{Instance, PendingCall, Runs, Tables, ThreadSlot}
use Rattle.kernel_model.specs.NewCall.{NewCall, beginner, named_session, no_copies, opener, shared_by, with_pins}
use Rattle.kernel_model.proofs.Parts.{option_map_some}
use Rattle.kernel_model.proofs.SoundMaps.{if_some}
use Rattle.kernel_model.proofs.SoundNewCalls.{opening_taken, working_taken}
use Rattle.own_model.proofs.Maps.{get-insert-same}
use Rattle.own_model.specs.Own.{next_in}
use Rattle.own_model.specs.Parameters.{params_of}
use Rattle.own_model.specs.Tied.{InstancesAlike}
use Rattle.own_model.specs.declared.own_event.OwnInput.TheVariants.{Copied}
use Rattle.group_model.specs.Group.{Coming, Group, GroupCall, Home, about_home, about_open, comes_in}
use Rattle.group_model.specs.Group.{fresh_call, job_on, silent, start_at, start_of_open, step}
use Rattle.group_model.specs.Group as machine
use Rattle.group_model.specs.Read.{invoke_event, open_event}
use Rattle.realm_model.specs.Realm.{number_in}
use Rattle.realm_model.specs.Reading.{Notes, numbered, with_event}
use Rattle.group_model.specs.declared.group_event.GroupEvent.{GroupEvent}
use Rattle.group_model.specs.declared.group_event.GroupEvent.TheVariants as event
use Rattle.realm_model.specs.Laws.{About, AreTied, AsRealm, IsOne, OpensRun, names_of}
use Rattle.group_model.specs.Tied.{Names}
use Rattle.realm_model.specs.Tied.{Tied}
use Rattle.group_model.proofs.Alike.{held_alike, opened_same, sessions_removed}
use Rattle.group_model.proofs.Begins.{HasNoOther, no_other}
use Rattle.realm_model.proofs.Begins.{call_comes, instance_changes}
use Rattle.realm_model.proofs.OtherEntries.{registered_else}
use Rattle.group_model.proofs.GrownNames.{tables_with, with_next_session}
use Rattle.realm_model.proofs.GrownNames.{session_comes}
use Rattle.group_model.proofs.Lines.{slots_with}
use Rattle.group_model.proofs.NewForms.{Passes}
use Rattle.realm_model.proofs.SettledCalls.{IfNoted, invoke_step}
use Rattle.realm_model.proofs.OtherCalls.{Within}
use Rattle.realm_model.proofs.WaitingCalls.{AtHome, AtShared, ComesIn, areas_are, at_home, at_shared, dead_same, home_at, homes_are}
use Rattle.realm_model.proofs.WaitingCalls.{same_app, some_same, taken_same, there_step}
use Rattle.group_model.proofs.Waits.{with_next}
use Rattle.group_model.proofs.BegunCalls.{Numbers, On, begun_with, group_at, opener_of, own_begun, tables_at}
use Rattle.own_model.proofs.OwnCalls.{job_with, same_program}
use Rattle.std.proofs.Common.{◌+◌}
use Rattle.kernel_model.specs.Instances.{is_single}
use Rattle.std.specs.Prelude.{find}
use Rattle.kernel_model.specs.Decision.{Taken}
use Rattle.group_model.specs.Group.{nobody_there}
use Rattle.realm_model.specs.Tied.{HasAll}
use Rattle.realm_model.proofs.Members.{GrowsAs, HasCome, all_of, as_all, as_come, come_before, members_grow, not_one, noted_runs}
use Rattle.realm_model.proofs.Members.{number_named, opens_of}
use Rattle.realm_model.proofs.OpenRuns.{put}

no_more : 0 ≤ 0
no_more = omega arith

-- ---- the job

-- the boot's key is the machine's
pub key_is : (about : About) (notes : Notes) (slots : List ThreadSlot) (g : Group) (c : NewCall)
    → Within about notes slots g c → about.key ≡ c.boot.key → c.boot.key ≡ g.key
key_is about notes slots g c w key = sym (w.tied.key ∙ key)

-- the job of a call in an opened session is the machine's
same_job : (about : About) (notes : Notes) (slots : List ThreadSlot) (g : Group) (c : NewCall)
    (named : Session × Instance) (number : ℕ) (params : CopiedParams) (points own_points : List EntryPoint)
    → (w : Within about notes slots g c) → (h : AtHome about notes w.instances g named number)
    → about.key ≡ c.boot.key → points ≡ own_points
    → session_job (beginner c) named.0 named.1 params points
    ≡ job_on about.members.app (start_at g g.entered h.session params false) h.instance own_points
same_job about notes slots g c named number params points own_points w h key same =
    ap (λ (k : List ℕ). job_with k (program_on c.boot named.1) named.1 named.0.login named.0.context params points)
    (key_is about notes slots g c w key)
    ∙ ap (λ (p : Option Program). job_with g.key p named.1 named.0.login named.0.context params points)
    (same_program c.boot about.members.app named.1 w.of_boot h.uuid
    ∙ ap (λ b. if b then None else Some (program_of about.members.app)) h.alike.dead)
    ∙ ap (λ memory. job_with g.key program (record named.1 { memory = memory }) named.0.login named.0.context params points)
    h.alike.memory
    ∙ ap (λ u. job_with g.key program (record named.1 { memory = h.instance.memory; uuid = u }) named.0.login
    named.0.context params points) h.uuid
    ∙ ap (λ objects. job_with g.key program (record h.instance { uuid = uuid_of about.members.app; objects = objects })
    named.0.login named.0.context params points) h.alike.objects
    ∙ ap (λ (l : Login). job_with g.key program (record h.instance { uuid = uuid_of about.members.app }) l named.0.context params
    points) h.session_alike.login
    ∙ ap (λ (context : ℕ). job_with g.key program (record h.instance { uuid = uuid_of about.members.app }) h.session.login context
    params points) h.session_alike.context
    ∙ ap (λ (ps : List EntryPoint). job_with g.key program (record h.instance { uuid = uuid_of about.members.app })
    h.session.login h.session.context params ps) same
  where
    program : Option Program
    program = if h.instance.dead then None else Some (program_of about.members.app)

-- ---- a call in an opened session

-- what the machine makes of one that begins these entry points
abbrev session_works : Application → Group → Coming → Home → CopiedParams → List EntryPoint → Group
session_works members g coming at params points =
    let begun = machine.begins_on members g (start_at g g.entered at.session params false) at.session.instance at.instance
    points in
    comes_in begun.group (fresh_call (about_home coming at) (Runs begun.job))

abbrev coming_as : NewCall → CallKind → Coming
coming_as c call_kind = record { kind = call_kind; area = is_some c.area }

-- no call holds the machine's instance either
is_working : (about : About) (notes : Notes) (instances : NumberMap ℕ) (g : Group) (named : Session × Instance)
    (number : ℕ) (coming : Coming) (params : CopiedParams) (points : List EntryPoint)
    → (h : AtHome about notes instances g named number) → is_held named.1 ≡ false
    → machine.works_or_waits about.members.app g coming (home_at number h.session h.instance) params points
    ≡ session_works about.members.app g coming (home_at number h.session h.instance) params points
is_working about notes instances g named number coming params points h free =
    ap (λ (b : Bool). if b then machine.waits g (about_home coming (home_at number h.session h.instance)) params
    else session_works about.members.app g coming (home_at number h.session h.instance) params points)
    (held_alike notes.numbering.in_slots named.1.holder h.instance.holder h.alike.holders ∙ free)

-- it begins, and so does the machine's
session_begins : (about : About) (notes : Notes) (slots : List ThreadSlot) (g : Group) (c : NewCall)
    (named : Session × Instance) (number : ℕ) (call_kind : CallKind) (copies : Copies) (points own_points : List EntryPoint)
    (came : GroupEvent) → (w : Within about notes slots g c) → named_session c ≡ Some named
    → get notes.sessions c.head.session ≡ Some number → (h : AtHome about notes w.instances g named number)
    → about.key ≡ c.boot.key → points ≡ own_points → HasCome about.members.realm notes.sessions → (cpu : ℕ)
    → AreTied about (slots_with slots None c.slot cpu (working_taken c call_kind named copies points).call)
    (working_taken c call_kind named copies points).tables
    (record (with_event notes came) { numbering = next_in notes.numbering c.slot })
    (session_works about.members.app g (coming_as c call_kind) (home_at number h.session h.instance) copies.params own_points)
session_begins about notes slots g c named number call_kind copies points own_points came w is has h key same come cpu = record {
  instances = w.instances;
  as_realm = as_come about.members.realm notes.sessions c.tables.next_session notes.next_session w.instances g _ come
      w.tied.session_names w.as_realm
      (λ one. put g.calls g.entered own (opens_of about.members.realm notes.next_session w.instances g w.as_realm one) (λ params kinds waits. cc));
  tied = registered_else about.members (with_next (names_of about notes w.instances) c.slot)
      (slots_with slots None c.slot cpu call) (with_instance c.tables named.0.instance (held_by c.slot named.1)) _
      (with_pins c begun.tables copies.cookies).registered
      (instance_changes about.members (with_next (names_of about notes w.instances) c.slot)
      (slots_with slots None c.slot cpu call) c.tables (comes_in g own) named.0.instance h.session.instance
      (held_by c.slot named.1) (machine_held) h.session_alike.instance h.uuid
      (record {
        uuid = h.alike.uuid;
        dead = h.alike.dead;
        holders = get-insert-same notes.numbering.in_slots c.slot notes.numbering.entered
            ∙ ap (λ (n : ℕ). Some n) w.tied.entered;
        memory = refl;
        objects = refl;
      }) (no_other (comes_in g own) h.session.instance h.instance h.there)
      (call_comes about.members (names_of about notes w.instances) slots c.tables g None c.slot cpu call own w.free w.none
      (λ kept. record {
        homes = homes_are notes.sessions w.instances call own call_kind has h.session_alike.instance;
        kinds = refl;
        seen = refl;
        areas = areas_are call own call_kind refl;
        buffers = refl;
        phases = record {
          more = no_more;
          after = ap (λ (j : Job). Some j)
              (sym (same_job about notes slots g c named number copies.params points own_points w h key same));
        };
        flagged = λ no. absurd cc;
      }) w.tied));
}
  where
    begun : Begun
    begun = begins_on (beginner c) named.0 named.1 copies.params points

    call : PendingCall
    call = (working_taken c call_kind named copies points).call

    own : GroupCall
    own = fresh_call (about_home (coming_as c call_kind) (home_at number h.session h.instance))
        (Runs (job_on about.members.app (start_at g g.entered h.session copies.params false) h.instance own_points))

    machine_held : Instance
    machine_held = held_by g.entered h.instance

invoke_params : (key : List ℕ) (program : Option Program) (instance : Instance) (login : Login) (context : ℕ)
    (params : CopiedParams) (func : ℕ)
    → params_of (job_with key program instance login context params (point.Invoke func ∷ [])) ≡ params
invoke_params key None instance login context params func = refl
invoke_params key (Some (OfImage image)) instance login context params func = refl
invoke_params key (Some (OfRelation relation)) instance login context params func = refl

pub invokes : (about : About) (notes : Notes) (slots : List ThreadSlot) (g : Group) (c : NewCall)
    (named : Session × Instance) (copies : Copies) → Within about notes slots g c → about.key ≡ c.boot.key
    → named_session c ≡ Some named → named.1.dead ≡ false → is_held named.1 ≡ false
    → IfNoted about notes slots g c.slot
    (working_taken c (kind.Invoke c.head.func) named copies (point.Invoke c.head.func ∷ []))
invokes about notes slots g c named copies w key is alive free came comes_as noted =
    let come = come_before about.members.realm about.members.app notes
    (working_taken c (kind.Invoke c.head.func) named copies points).call (kind.Invoke c.head.func) (λ no. cc) comes_as in
    option_and_then_some
    (λ (session : ℕ). invoke_event session c.head.func (is_some c.area)
    (Runs (session_job (beginner c) named.0 named.1 copies.params points)))
    (number_in about.members.realm notes.sessions c.head.session) came noted (λ number is_number onward.
    let has = number_named about.members.realm notes.sessions c.head.session number come is_number in
    let h = at_home about notes slots g c named number w is has in
    let came_in : event.Invoke number c.head.func (Copied copies.params) (is_some c.area) ≡ came =
    ap (λ (ps : CopiedParams). event.Invoke number c.head.func (Copied ps) (is_some c.area))
    (sym (invoke_params c.boot.key (program_on c.boot named.1) named.1 named.0.login named.0.context copies.params
    c.head.func)) ∙ some_same _ came onward in
    subst (ComesIn about notes slots g c.slot (working_taken c (kind.Invoke c.head.func) named copies points)) came_in
    (record {
      next = session_works about.members.app g (coming_as c (kind.Invoke c.head.func)) (home_at number h.session h.instance)
          copies.params points;
      steps = invoke_step about notes w.instances g named number c.head.func (Copied copies.params) (is_some c.area) false
          h alive
          ∙ ap (λ (m : Group). Some (silent m))
          (is_working about notes w.instances g named number (coming_as c (kind.Invoke c.head.func)) copies.params points h
          free);
      tied = session_begins about notes slots g c named number (kind.Invoke c.head.func) copies points points
          (event.Invoke number c.head.func (Copied copies.params) (is_some c.area)) w is has h key refl come;
    }))
  where
    points : List EntryPoint
    points = point.Invoke c.head.func ∷ []

-- the entry points of a close are the machine's: of the sessions without it, the same are opened
closing : (about : About) (notes : Notes) (slots : List ThreadSlot) (g : Group) (c : NewCall)
    (named : Session × Instance) (number : ℕ) → (w : Within about notes slots g c)
    → get notes.sessions c.head.session ≡ Some number → (h : AtHome about notes w.instances g named number)
    → closing_points (beginner c) c.head.session named.0 named.1
    ≡ machine.closing_points about.members.app g number h.session.instance
closing about notes slots g c named number w has h =
    ap (λ u. point.Close ∷ destroy_of c.boot u (remove c.tables.sessions c.head.session) named.0.instance) h.uuid
    ∙ ap (λ (o : Option Application). point.Close ∷ destroy_with o) w.of_boot
    ∙ ap (λ b. point.Close ∷ (if b || keeps_alive about.members.app then [] else point.Destroy ∷ []))
    (opened_same notes.sessions w.instances (remove c.tables.sessions c.head.session) (remove g.sessions number)
    named.0.instance h.session.instance (IsRising-remove c.tables.sessions c.head.session w.sessions_rising)
    w.tied.instance_names.apart h.session_alike.instance
    (sessions_removed notes.sessions w.instances c.tables.sessions g.sessions c.head.session number
    w.tied.session_names.apart has w.tied.sessions))
  where
    destroy_with : Option Application → List EntryPoint
    destroy_with found =
        option_map_or (λ (a : Application). destroy_after a (remove c.tables.sessions c.head.session) named.0.instance)
        found []

pub closes : (about : About) (notes : Notes) (slots : List ThreadSlot) (g : Group) (c : NewCall)
    (named : Session × Instance) → Within about notes slots g c → about.key ≡ c.boot.key
    → named_session c ≡ Some named → is_held named.1 ≡ false
    → IfNoted about notes slots g c.slot
    (working_taken c kind.Close named no_copies (closing_points (beginner c) c.head.session named.0 named.1))
closes about notes slots g c named w key is free came comes_as noted =
    let come = come_before about.members.realm about.members.app notes
    (working_taken c kind.Close named no_copies points).call kind.Close (λ no. cc) comes_as in
    let at = option_map_some (λ (session : ℕ). event.Close session (is_some c.area))
    (number_in about.members.realm notes.sessions c.head.session) came noted in
    let has = number_named about.members.realm notes.sessions c.head.session at.0 come at.1 in
    let h = at_home about notes slots g c named at.0 w is has in
    subst (ComesIn about notes slots g c.slot (working_taken c kind.Close named no_copies points)) at.2 (record {
      next = session_works about.members.app g (coming_as c kind.Close) (home_at at.0 h.session h.instance) no_params
          (machine.closing_points about.members.app g at.0 h.session.instance);
      steps = ap (λ (o : Option Home). option_map (λ (m : Home). silent (machine.closes about.members.app g (is_some c.area) m)) o)
          h.home_is
          ∙ ap (λ (m : Group). Some (silent m))
          (is_working about notes w.instances g named at.0 (coming_as c kind.Close) no_params
          (machine.closing_points about.members.app g at.0 h.session.instance) h free);
      tied = session_begins about notes slots g c named at.0 kind.Close no_copies points
          (machine.closing_points about.members.app g at.0 h.session.instance) (event.Close at.0 (is_some c.area)) w is has h key
          (closing about notes slots g c named at.0 w has h) come;
    })
  where
    points : List EntryPoint
    points = closing_points (beginner c) c.head.session named.0 named.1

-- ---- an open

-- what is known of them
pub record AreBegun (about : About) (notes : Notes) (slots : List ThreadSlot) (g : Group) (c : NewCall)
    (numbers : Numbers) (on : On) : Type 0 where
  pub instances : NumberMap ℕ
  pub tied : Tied about.members (names_of about notes instances) slots (tables_at c numbers) (group_at g numbers)
  pub named : get instances on.number ≡ Some on.own_number
  pub uuid : on.kept.uuid ≡ uuid_of about.members.app
  pub alike : InstancesAlike (next_in notes.numbering c.slot).in_slots on.kept on.own
  pub alone : HasNoOther g on.own_number
  pub jobs : on.job ≡ on.own_job
  pub as_realm : (after_it : Group) → (IsOne about.members.realm → OpensRun after_it.calls) → AsRealm about.members.realm (notes.next_session + 1) instances after_it

open_tied : (about : About) (notes : Notes) (slots : List ThreadSlot) (g : Group) (c : NewCall) (wanted : Opening)
    (copies : Copies) (numbers : Numbers) (on : On) (came : GroupEvent) → Within about notes slots g c
    → AreBegun about notes slots g c numbers on
    → GrowsAs about.members.realm c.tables.next_session notes.next_session → (cpu : ℕ)
    → AreTied about
    (slots_with slots None c.slot cpu (opening_taken c wanted about.members.app copies (begun_with c numbers on)).call)
    (opening_taken c wanted about.members.app copies (begun_with c numbers on)).tables
    (numbered notes c.slot (opening_taken c wanted about.members.app copies (begun_with c numbers on)).call came)
    (own_begun g (opener_of c wanted) numbers on)
open_tied about notes slots g c wanted copies numbers on came w b grows cpu = record {
  instances = b.instances;
  as_realm = b.as_realm (own_begun g (opener_of c wanted) numbers on)
      (λ one. put g.calls g.entered own (opens_of about.members.realm notes.next_session w.instances g w.as_realm one) (λ params kinds waits. cc));
  tied = registered_else about.members (with_next names c.slot) (slots_with slots None c.slot cpu call)
      (with_instance tables on.number on.kept) _
      (opening_taken c wanted about.members.app copies (begun_with c numbers on)).tables.registered
      (instance_changes about.members (with_next names c.slot) (slots_with slots None c.slot cpu call) tables
      (comes_in opened own) on.number on.own_number on.kept on.own b.named b.uuid b.alike b.alone
      (call_comes about.members names slots tables opened None c.slot cpu call own w.free w.none
      (λ kept. record {
        homes = (
          get-insert-same notes.sessions c.tables.next_session notes.next_session
              ∙ ap (λ (n : ℕ). Some n) w.tied.next_session,
          b.named,
        );
        kinds = refl;
        seen = refl;
        areas = refl;
        buffers = refl;
        phases = record { more = no_more; after = ap (λ (j : Job). Some j) (sym b.jobs) };
        flagged = λ no. absurd cc;
      })
      (session_comes about.members (names_of about notes b.instances) slots (tables_at c numbers) (group_at g numbers) c.client
      wanted.login on.number on.own_number w.from_one w.below b.named
      (members_grow about.members.realm notes.sessions c.tables.next_session notes.next_session grows w.tied.named) b.tied)));
}
  where
    names : Names
    names = with_next_session (names_of about notes b.instances) c.tables.next_session

    tables : Tables
    tables = tables_with (tables_at c numbers) c.client wanted.login on.number

    opened : Group
    opened = machine.with_session (group_at g numbers) wanted.login on.own_number

    call : PendingCall
    call = (opening_taken c wanted about.members.app copies (begun_with c numbers on)).call

    own : GroupCall
    own = fresh_call (about_open (group_at g numbers) (is_some c.area) on.own_number) (Runs on.own_job)

-- it comes in with the event that is noted of it, of which the machine makes the same
pub open_comes : (about : About) (notes : Notes) (slots : List ThreadSlot) (g : Group) (c : NewCall) (wanted : Opening)
    (copies : Copies) (numbers : Numbers) (on : On) (came : GroupEvent) → Within about notes slots g c
    → AreBegun about notes slots g c numbers on → GrowsAs about.members.realm c.tables.next_session notes.next_session
    → params_of on.job ≡ copies.params
    → step about.most about.members.app g (event.Open (Copied copies.params) wanted.login false (is_some c.area))
    ≡ Some (silent (own_begun g (opener_of c wanted) numbers on))
    → open_event (opening_taken c wanted about.members.app copies (begun_with c numbers on)).tables
    (opening_taken c wanted about.members.app copies (begun_with c numbers on)).call (params_of on.job) ≡ Some came
    → ComesIn about notes slots g c.slot (opening_taken c wanted about.members.app copies (begun_with c numbers on)) came
open_comes about notes slots g c wanted copies numbers on came w b grows params steps noted =
    subst (ComesIn about notes slots g c.slot (opening_taken c wanted about.members.app copies (begun_with c numbers on)))
    (ap (λ (ps : CopiedParams). event.Open (Copied ps) wanted.login false (is_some c.area)) (sym params)
    ∙ some_same (event.Open (Copied (params_of on.job)) wanted.login false (is_some c.area)) came
    (sym (ap (λ (o : Option Session). option_map
    (λ (s : Session). event.Open (Copied (params_of on.job)) s.login false (is_some c.area)) o)
    (get-insert-same c.tables.sessions c.tables.next_session (reserved_for c.client wanted.login on.number))) ∙ noted))
    (record {
      next = own_begun g (opener_of c wanted) numbers on;
      steps = steps;
      tied = open_tied about notes slots g c wanted copies numbers on
          (event.Open (Copied copies.params) wanted.login false (is_some c.area)) w b grows;
    })

-- ---- on the instance that is kept

kept_params : (key : List ℕ) (program : Program) (instance : Instance) (login : Login) (context : ℕ)
    (params : CopiedParams) (behind : List EntryPoint)
    → params_of (job_with key (Some program) instance login context params (point.Open ∷ behind)) ≡ params
kept_params key (OfImage image) instance login context params behind = refl
kept_params key (OfRelation relation) instance login context params behind = refl

kept_login : (key : List ℕ) (program : Program) (instance : Instance) (login : Login) (context : ℕ)
    (params : CopiedParams) (behind : List EntryPoint)
    → (job_with key (Some program) instance login context params (point.Open ∷ behind)).login ≡ login
kept_login key (OfImage image) instance login context params behind = refl
kept_login key (OfRelation relation) instance login context params behind = refl

kept_comes : (about : About) (notes : Notes) (slots : List ThreadSlot) (g : Group) (c : NewCall) (wanted : Opening)
    (copies : Copies) (kept : ℕ × Instance) (came : GroupEvent) → Within about notes slots g c → about.key ≡ c.boot.key
    → Passes c wanted about.members.app → shared_by c about.members.app ≡ Some kept → is_held kept.1 ≡ false
    → open_event
    (opening_taken c wanted about.members.app copies (kept_begin.opens_kept (beginner c) (opener wanted about.members.app copies) kept)).tables
    (opening_taken c wanted about.members.app copies (kept_begin.opens_kept (beginner c) (opener wanted about.members.app copies) kept)).call
    (params_of (kept_begin.opens_kept (beginner c) (opener wanted about.members.app copies) kept).job) ≡ Some came → HasAll about.members.realm
    → GrowsAs about.members.realm c.tables.next_session notes.next_session
    → ComesIn about notes slots g c.slot
    (opening_taken c wanted about.members.app copies (kept_begin.opens_kept (beginner c) (opener wanted about.members.app copies) kept)) came
kept_comes about notes slots g c wanted copies kept came w key passes shared free noted all grows =
    open_comes about notes slots g c wanted copies numbers on came w begins grows
    (kept_params c.boot.key (program_of about.members.app) (record kept.1 { uuid = uuid_of about.members.app }) wanted.login 0
    copies.params (destroy_after about.members.app c.tables.sessions kept.0))
    (there_step about.most about.members.app g copies.params (opener_of c wanted) (h.number, h.instance) false
    (dead_same about notes slots g c w yet ∙ passes.alive) (taken_same about notes slots g c w yet ∙ passes.free) h.there
    (held_alike notes.numbering.in_slots kept.1.holder h.instance.holder h.alike.holders ∙ free)) noted
  where
    yet : IsOne about.members.realm → g ≡ nobody_there g.key
    yet one = not_one about.members.realm all one

    h : AtShared about notes w.instances g kept
    h = at_shared about notes slots g c kept w shared

    numbers : Numbers
    numbers = record { next = c.tables.next_instance; own_next = g.next_instance }

    own_points : List EntryPoint
    own_points = point.Open ∷ machine.destroy_after about.members.app g.sessions h.number

    on : On
    on = record {
      number = kept.0;
      own_number = h.number;
      kept = held_by c.slot kept.1;
      own = held_by g.entered h.instance;
      job = (kept_begin.opens_kept (beginner c) (opener wanted about.members.app copies) kept).job;
      own_job = job_on about.members.app (start_of_open g copies.params wanted.login) h.instance own_points;
    }

    alive : h.instance.dead ≡ false
    alive = sym h.alike.dead
        ∙ sym (ap (λ (o : Option (ℕ × Instance)). option_map_or (λ (k : ℕ × Instance). k.1.dead) o false) shared)
        ∙ passes.alive

    points : List EntryPoint
    points = point.Open ∷ destroy_after about.members.app c.tables.sessions kept.0

    jobs : on.job ≡ on.own_job
    jobs =
        ap (λ (k : List ℕ). job_with k (Some (program_of about.members.app)) (record kept.1 { uuid = uuid_of about.members.app })
        wanted.login 0 copies.params points) (key_is about notes slots g c w key)
        ∙ ap (λ (b : Bool). job_with g.key (if b then None else Some (program_of about.members.app))
        (record kept.1 { uuid = uuid_of about.members.app }) wanted.login 0 copies.params points) (sym alive)
        ∙ ap (λ memory. job_with g.key program (record kept.1 { uuid = uuid_of about.members.app; memory = memory }) wanted.login 0
        copies.params points) h.alike.memory
        ∙ ap (λ objects. job_with g.key program (record h.instance { uuid = uuid_of about.members.app; objects = objects })
        wanted.login 0 copies.params points) h.alike.objects
        ∙ ap (λ (b : Bool). job_with g.key program (record h.instance { uuid = uuid_of about.members.app }) wanted.login 0
        copies.params (point.Open ∷ (if b || keeps_alive about.members.app then [] else point.Destroy ∷ [])))
        (opened_same notes.sessions w.instances c.tables.sessions g.sessions kept.0 h.number w.sessions_rising
        w.tied.instance_names.apart h.on w.tied.sessions)
      where
        program : Option Program
        program = if h.instance.dead then None else Some (program_of about.members.app)

    begins : AreBegun about notes slots g c numbers on
    begins = record {
      instances = w.instances;
      tied = w.tied;
      named = h.on;
      uuid = h.uuid;
      alike = record {
        uuid = h.alike.uuid;
        dead = h.alike.dead;
        holders = get-insert-same notes.numbering.in_slots c.slot notes.numbering.entered
            ∙ ap (λ (n : ℕ). Some n) w.tied.entered;
        memory = refl;
        objects = refl;
      };
      alone = no_other g h.number h.instance h.there;
      jobs = jobs;
      as_realm = λ after_it runs. as_all about.members.realm (notes.next_session + 1) w.instances after_it all;
    }

pub opens_kept : (about : About) (notes : Notes) (slots : List ThreadSlot) (g : Group) (c : NewCall) (wanted : Opening)
    (of : Application) (copies : Copies) (kept : ℕ × Instance) → Within about notes slots g c → about.key ≡ c.boot.key
    → Passes c wanted of → shared_by c of ≡ Some kept → is_held kept.1 ≡ false
    → IfNoted about notes slots g c.slot
    (opening_taken c wanted of copies (kept_begin.opens_kept (beginner c) (opener wanted of copies) kept))
opens_kept about notes slots g c wanted of copies kept w key passes shared free came comes_as noted =
    let begun = kept_begin.opens_kept (beginner c) (opener wanted of copies) kept in
    let taken : Taken = opening_taken c wanted of copies begun in
    let parts = noted_runs about.members.realm about.members.app of notes taken.tables taken.call begun.job came
    (reserved_for c.client wanted.login kept.0) w.shares comes_as refl
    (get-insert-same c.tables.sessions c.tables.next_session (reserved_for c.client wanted.login kept.0))
    (sym (kept_login c.boot.key (program_of of) (record kept.1 { uuid = uuid_of of }) wanted.login 0 copies.params
    (destroy_after of c.tables.sessions kept.0))) noted in
    let all : HasAll about.members.realm =
    all_of about.members.realm about.members.app w.shares
    (ap is_single (same_app about notes slots g c wanted.uuid of w passes.of_boot parts.uuid)
    ∙ (if_some (is_single of) (find (λ (k : ℕ × Instance). bytes_eq k.1.uuid (uuid_of of)) c.tables.instances) kept
    shared).0) in
    subst (λ (a : Application). Passes c wanted a → shared_by c a ≡ Some kept
    → open_event
    (opening_taken c wanted a copies (kept_begin.opens_kept (beginner c) (opener wanted a copies) kept)).tables
    (opening_taken c wanted a copies (kept_begin.opens_kept (beginner c) (opener wanted a copies) kept)).call
    (params_of (kept_begin.opens_kept (beginner c) (opener wanted a copies) kept).job) ≡ Some came
    → ComesIn about notes slots g c.slot
    (opening_taken c wanted a copies (kept_begin.opens_kept (beginner c) (opener wanted a copies) kept)) came)
    (same_app about notes slots g c wanted.uuid of w passes.of_boot parts.uuid)
    (λ its shares event. kept_comes about notes slots g c wanted copies kept came w key its shares free event all parts.grows)
    passes shared parts.event
