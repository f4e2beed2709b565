-- What a new call of the realm that waits takes its slot for, and the machine's step with it.
use Rattle.std.proofs.Common.{◌≡◌, ℕ, ◌+◌, Bool, true, false, List, [], ◌∷◌, Option, Some, None, refl, ap, subst, sym}
use Rattle.std.proofs.Common.{◌∙◌}
use Rattle.std.specs.Prelude.{All, IsSome, ◌==◌, ◌&&◌, bytes_eq, find, if◌then◌else◌, is_some, not}
use Rattle.std.specs.Option.{option_and_then, option_map, option_map_or}
use Rattle.std.proofs.lemmas.Bool.Decides.{Decides-eqb}
use Rattle.std.proofs.lemmas.Option.{option_and_then_some}
use Rattle.std.proofs.lemmas.Slice.Eq.{bytes_eq-Decides}
use Rattle.base.specs.NumberMap.{NumberMap, get}
use Rattle.base.proofs.MapLemmas.{All-get}
use Rattle.job_model.specs.declared.call_kind.CallKind.{CallKind}
use Rattle.job_model.specs.declared.call_kind.CallKind.TheVariants as kind
use Rattle.job_model.specs.declared.entry_point.EntryPoint.{EntryPoint}
use Rattle.job_model.specs.declared.entry_point.EntryPoint.TheVariants as point
use Rattle.job_model.specs.Point.{no_params}
use Rattle.param_copy.specs.Copying.{Copies}
use Rattle.session_table.specs.declared.session.Session.{Session}
use Rattle.session_table.specs.declared.waiters.Waiter.{Waiter}
use Rattle.session_table.specs.Session.{reserved_for}
use Rattle.shm_registry.specs.Registered.{Registered}
use Rattle.ta_params.specs.declared.copied_params.CopiedParams.{CopiedParams}
use Rattle.kernel_model.specs.Application.{Application, uuid_of}
use Rattle.kernel_model.specs.Argument.{Opening}
use Rattle.kernel_model.specs.Codes.{busy, out_of_memory, target_dead}
use Rattle.kernel_model.specs.Decision.{Taken}
use Rattle.kernel_model.specs.Instances.{app_of, is_held, is_multi_session, is_single}
use Rattle.kernel_model.specs.Kernel.{Instance, PendingCall, Runs, ThreadSlot, Waits}
use Rattle.kernel_model.specs.NewCall.{NewCall, named_session, no_copies, shared_by, shares_one, with_pins}
use Rattle.kernel_model.specs.NewCall as new
use Rattle.kernel_model.specs.Sessions as kept_sessions
use Rattle.kernel_model.proofs.Parts.{option_map_some, some_of}
use Rattle.kernel_model.proofs.SoundMaps.{if_some, named_is}
use Rattle.kernel_model.proofs.SoundNewCalls.{waiting_taken}
use Rattle.kernel_model.proofs.SoundRising.{found_there, none_passes}
use Rattle.own_model.proofs.Lookups.{app_named}
use Rattle.own_model.proofs.Maps.{get-insert-same}
use Rattle.own_model.specs.Own.{next_in}
use Rattle.own_model.specs.Tied.{FoundAlike, InstancesAlike}
use Rattle.own_model.specs.declared.own_event.OwnInput.{OwnInput}
use Rattle.own_model.specs.declared.own_event.OwnInput.TheVariants.{Copied}
use Rattle.group_model.specs.Group.{Coming, Group, GroupSession, Home, Opener, about_home, about_open, fresh_call, home}
use Rattle.group_model.specs.Group.{home_of, invokes_with, is_dead, is_taken, open_begins, opens_kept, opens_made}
use Rattle.group_model.specs.Group.{opens_there, opens_with, settles, silent, start_of_open, step, waits, works_or_waits}
use Rattle.group_model.specs.Group as machine
use Rattle.group_model.specs.Read.{invoke_event, open_event}
use Rattle.realm_model.specs.Realm.{number_in}
use Rattle.realm_model.specs.Reading.{Notes, event_of, numbered, with_event}
use Rattle.group_model.specs.declared.group_event.GroupEvent.{GroupEvent}
use Rattle.group_model.specs.declared.group_event.GroupEvent.TheVariants as event
use Rattle.realm_model.specs.Laws.{About, AreTied, ComesAs, IsOne, names_of}
use Rattle.group_model.specs.Tied.{AreasAlike, HomesAlike, SessionsAlike}
use Rattle.realm_model.specs.Tied.{IsOfRealm}
use Rattle.group_model.specs.Tied.{SessionsFoundAlike, found_at}
use Rattle.realm_model.specs.Tied.{HasAll}
use Rattle.group_model.proofs.Alike.{held_alike, kept_instance, own_for, own_instance, session_same}
use Rattle.group_model.proofs.Begins.{found_same}
use Rattle.group_model.proofs.GrownNames.{tables_with, with_next_session}
use Rattle.realm_model.proofs.GrownNames.{session_comes}
use Rattle.group_model.proofs.Lines.{slots_with}
use Rattle.group_model.proofs.NewForms.{Passes}
use Rattle.realm_model.proofs.Waits.{call_waits}
use Rattle.group_model.specs.Group.{nobody_there}
use Rattle.realm_model.specs.Tied.{Members}
use Rattle.realm_model.proofs.Members.{HasCome, all_of, as_all, as_come, come_before, either_realm, grows_all, members_grow}
use Rattle.realm_model.proofs.Members.{not_one, noted_waits, number_named, opens_of}
use Rattle.realm_model.proofs.OpenRuns.{put}
use Rattle.realm_model.proofs.OtherCalls.{Within}

-- it comes in with this event, of which the machine makes that, and it is tied to what the slot is taken for
pub record ComesIn (about : About) (notes : Notes) (slots : List ThreadSlot) (g : Group) (slot : ℕ) (taken : Taken)
    (came : GroupEvent) : Type 0 where
  pub next : Group
  pub steps : step about.most about.members.app g came ≡ Some (silent next)
  pub tied : (cpu : ℕ) → AreTied about (slots_with slots taken.cancels slot cpu taken.call) taken.tables
      (numbered notes slot taken.call came) next

-- where it waits and an event of it is noted, it does
abbrev pub IfWaits : About → Notes → List ThreadSlot → Group → ℕ → Taken → Type 0
IfWaits about notes slots g slot taken =
    (params : CopiedParams) (came : GroupEvent) → taken.call.phase ≡ Waits params →
    ComesAs about.members.realm about.members.app notes taken.call taken.call.kind →
    event_of about.members.realm taken.tables notes taken.call taken.call.kind ≡ Some came →
    ComesIn about notes slots g slot taken came

-- ---- choices

pub some_same : {A : Type 0} (a b : A) → Some a ≡ Some b → a ≡ b
some_same a b e = cc

-- ---- the machine's part

-- what is found under a number is what is there
pub found_is : (there : Option (ℕ × Instance)) (number : ℕ) (own : Instance) → found_at there number ≡ Some own
    → there ≡ Some (number, own)
found_is None number own e = absurd cc
found_is (Some (at, instance)) number own e =
    let parts = if_some (at == number) (Some instance) own e in
    ap (λ (n : ℕ). Some (n, instance)) ((Decides-eqb at number).0 parts.0)
    ∙ ap (λ (i : Instance). Some (number, i)) (some_same instance own parts.1)

-- ---- a call in an opened session

abbrev pub home_at : ℕ → GroupSession → Instance → Home
home_at number session instance = record { number = number; session = session; instance = instance }

-- the session that it names, of this number, and its instance are the machine's
pub record AtHome (about : About) (notes : Notes) (instances : NumberMap ℕ) (g : Group) (named : Session × Instance)
    (number : ℕ) : Type 0 where
  pub session : GroupSession
  pub instance : Instance
  pub home_is : home g number ≡ Some (home_at number session instance)
  pub there : g.instance ≡ Some (session.instance, instance)
  pub session_alike : SessionsAlike instances named.0 session
  pub alike : InstancesAlike notes.numbering.in_slots named.1 instance
  pub uuid : named.1.uuid ≡ uuid_of about.members.app

-- an instance under one of the realm's numbers is of its application
pub of_group : (members : Members) (instances : NumberMap ℕ) (kept : NumberMap Instance) (number own : ℕ) (instance : Instance)
    → All (λ (one : ℕ × Instance). IsOfRealm members instances one.0 one.1.uuid) kept
    → get kept number ≡ Some instance → get instances number ≡ Some own → instance.uuid ≡ uuid_of members.app
of_group members instances kept number own instance all there on =
    (All-get (λ (one : ℕ × Instance). IsOfRealm members instances one.0 one.1.uuid) kept number instance all there).of_app
    (subst (λ (o : Option ℕ). IsSome o) (sym on) refl)

pub at_home : (about : About) (notes : Notes) (slots : List ThreadSlot) (g : Group) (c : NewCall) (named : Session × Instance)
    (number : ℕ) → (w : Within about notes slots g c) → named_session c ≡ Some named
    → get notes.sessions c.head.session ≡ Some number → AtHome about notes w.instances g named number
at_home about notes slots g c named number w is has =
    let parts = named_is c named is in
    let own = own_for w.instances named.0 (get g.sessions number)
    (subst (λ (o : Option Session). SessionsFoundAlike w.instances o (get g.sessions number)) parts.kept
    (w.tied.sessions.alike c.head.session number has)) in
    let found = own_instance notes.numbering.in_slots named.1 (found_at g.instance own.0.instance)
    (subst (λ (o : Option Instance). FoundAlike notes.numbering.in_slots o (found_at g.instance own.0.instance))
    parts.instance (w.tied.instances.alike named.0.instance own.0.instance own.2.instance)) in
    record {
      session = own.0;
      instance = found.0;
      home_is =
          ap (λ (o : Option GroupSession). option_and_then
          (λ (s : GroupSession). if s.opened then home_of g number s else None) o) own.1
          ∙ ap (λ b. if b then home_of g number own.0 else None) (sym own.2.opened ∙ parts.opened)
          ∙ ap (λ (o : Option Instance). option_map (λ (i : Instance). home_at number own.0 i) o) found.1;
      there = found_is g.instance own.0.instance found.0 found.1;
      session_alike = own.2;
      alike = found.2;
      uuid = of_group about.members w.instances c.tables.instances named.0.instance own.0.instance named.1
          w.tied.instances.of_app parts.instance own.2.instance;
    }

pub homes_are : (sessions instances : NumberMap ℕ) (call : PendingCall) (own : machine.GroupCall) (call_kind : CallKind)
    → get sessions call.session ≡ Some own.session → get instances call.instance ≡ Some own.instance
    → HomesAlike sessions instances call own call_kind
homes_are sessions instances call own kind.Open session instance = (session, instance)
homes_are sessions instances call own (kind.Invoke func) session instance = (session, instance)
homes_are sessions instances call own kind.Close session instance = (session, instance)
homes_are sessions instances call own kind.Settled session instance = tt

pub areas_are : (call : PendingCall) (own : machine.GroupCall) (call_kind : CallKind) → is_some call.area ≡ own.area
    → AreasAlike call own call_kind
areas_are call own kind.Open same = same
areas_are call own (kind.Invoke func) same = same
areas_are call own kind.Close same = same
areas_are call own kind.Settled same = tt

-- such a call waits, and so does the machine's
session_waits : (about : About) (notes : Notes) (slots : List ThreadSlot) (g : Group) (c : NewCall)
    (named : Session × Instance) (number : ℕ) (call_kind : CallKind) (copies : Copies) (came : GroupEvent)
    → (w : Within about notes slots g c) → get notes.sessions c.head.session ≡ Some number
    → (h : AtHome about notes w.instances g named number) → HasCome about.members.realm notes.sessions → (call_kind ≡ kind.Open → ⊥) → (cpu : ℕ)
    → AreTied about (slots_with slots None c.slot cpu (waiting_taken c call_kind named copies).call)
    (waiting_taken c call_kind named copies).tables
    (record (with_event notes came) { numbering = next_in notes.numbering c.slot })
    (waits g (about_home (record { kind = call_kind; area = is_some c.area }) (home_at number h.session h.instance))
    copies.params)
session_waits about notes slots g c named number call_kind copies came w has h come other cpu = record {
  instances = w.instances;
  as_realm = as_come about.members.realm notes.sessions c.tables.next_session notes.next_session w.instances g _ come
      w.tied.session_names w.as_realm
      (λ one. put g.calls g.entered (fresh_call at (Waits copies.params))
      (opens_of about.members.realm notes.next_session w.instances g w.as_realm one) (λ params kinds waits. other kinds));
  tied = call_waits about.members (names_of about notes w.instances) slots c.tables g cpu call at copies.params last registered
      w.free w.none
      (λ kept. record {
        homes = homes_are notes.sessions w.instances call (fresh_call at (Waits copies.params)) call_kind has
            h.session_alike.instance;
        kinds = refl;
        seen = refl;
        areas = areas_are call (fresh_call at (Waits copies.params)) call_kind refl;
        buffers = refl;
        phases = (refl, refl);
        flagged = λ no. absurd cc;
      }) h.session_alike.instance h.uuid w.tied;
}
  where
    call : PendingCall
    call = (waiting_taken c call_kind named copies).call

    at : machine.About
    at = about_home (record { kind = call_kind; area = is_some c.area }) (home_at number h.session h.instance)

    last : Waiter
    last = record { instance = named.0.instance; uuid = named.1.uuid; slot = c.slot }

    registered : Registered
    registered = (with_pins c c.tables copies.cookies).registered

-- another call holds the machine's instance too
is_waiting : (about : About) (notes : Notes) (instances : NumberMap ℕ) (g : Group) (named : Session × Instance)
    (number : ℕ) (coming : Coming) (params : CopiedParams) (points : List EntryPoint)
    → (h : AtHome about notes instances g named number) → is_held named.1 ≡ true
    → works_or_waits about.members.app g coming (home_at number h.session h.instance) params points
    ≡ waits g (about_home coming (home_at number h.session h.instance)) params
is_waiting about notes instances g named number coming params points h held =
    let at : Home = home_at number h.session h.instance in
    let about_call : machine.About = about_home coming at in
    let begun : machine.Begun =
    machine.begins_on about.members.app g (machine.start_at g g.entered at.session params false) at.session.instance at.instance points in
    ap (λ (b : Bool). if b then waits g about_call params else machine.comes_in begun.group
    (fresh_call about_call (Runs begun.job)))
    (held_alike notes.numbering.in_slots named.1.holder h.instance.holder h.alike.holders ∙ held)

pub invoke_waits : (about : About) (notes : Notes) (slots : List ThreadSlot) (g : Group) (c : NewCall)
    (named : Session × Instance) (copies : Copies) → Within about notes slots g c → named_session c ≡ Some named
    → named.1.dead ≡ false → is_held named.1 ≡ true
    → IfWaits about notes slots g c.slot (waiting_taken c (kind.Invoke c.head.func) named copies)
invoke_waits about notes slots g c named copies w is alive held params came waiting comes_as noted =
    let come = come_before about.members.realm about.members.app notes
    (waiting_taken c (kind.Invoke c.head.func) named copies).call (kind.Invoke c.head.func) (λ no. cc) comes_as in
    option_and_then_some
    (λ (session : ℕ). invoke_event session c.head.func (is_some c.area) (Waits copies.params))
    (number_in about.members.realm notes.sessions c.head.session) came noted (λ number is_number onward.
    let has = number_named about.members.realm notes.sessions c.head.session number come is_number in
    let h = at_home about notes slots g c named number w is has in
    let coming : Coming = record { kind = kind.Invoke c.head.func; area = is_some c.area } in
    let at : Home = home_at number h.session h.instance in
    let living : machine.invokes about.members.app g c.head.func (Copied copies.params) (is_some c.area) at
    ≡ Some (waits g (about_home coming at) copies.params) =
    ap (λ (b : Bool). if b then Some (settles g (is_some c.area) target_dead)
    else invokes_with about.members.app g c.head.func (Copied copies.params) (is_some c.area) at) (sym h.alike.dead ∙ alive)
    ∙ ap (λ (m : Group). Some m)
    (is_waiting about notes w.instances g named number coming copies.params (point.Invoke c.head.func ∷ []) h held) in
    let comes : ComesIn about notes slots g c.slot (waiting_taken c (kind.Invoke c.head.func) named copies)
    (event.Invoke number c.head.func (Copied copies.params) (is_some c.area)) = record {
      next = waits g (about_home coming at) copies.params;
      steps = ap (λ (o : Option Home). option_map silent (option_and_then
          (machine.invokes about.members.app g c.head.func (Copied copies.params) (is_some c.area)) o)) h.home_is
          ∙ ap (λ (o : Option Group). option_map silent o) living;
      tied = session_waits about notes slots g c named number (kind.Invoke c.head.func) copies
          (event.Invoke number c.head.func (Copied copies.params) (is_some c.area)) w has h come
          (λ no. cc);
    } in
    subst (ComesIn about notes slots g c.slot (waiting_taken c (kind.Invoke c.head.func) named copies))
    (some_same (event.Invoke number c.head.func (Copied copies.params) (is_some c.area)) came onward) comes)

pub close_waits : (about : About) (notes : Notes) (slots : List ThreadSlot) (g : Group) (c : NewCall)
    (named : Session × Instance) → Within about notes slots g c → named_session c ≡ Some named
    → is_held named.1 ≡ true
    → IfWaits about notes slots g c.slot (waiting_taken c kind.Close named no_copies)
close_waits about notes slots g c named w is held params came waiting comes_as noted =
    let come = come_before about.members.realm about.members.app notes
    (waiting_taken c kind.Close named no_copies).call kind.Close (λ no. cc) comes_as in
    let at = option_map_some (λ (session : ℕ). event.Close session (is_some c.area))
    (number_in about.members.realm notes.sessions c.head.session) came noted in
    let has = number_named about.members.realm notes.sessions c.head.session at.0 come at.1 in
    let h = at_home about notes slots g c named at.0 w is has in
    let coming : Coming = record { kind = kind.Close; area = is_some c.area } in
    let comes : ComesIn about notes slots g c.slot (waiting_taken c kind.Close named no_copies)
    (event.Close at.0 (is_some c.area)) = record {
      next = waits g (about_home coming (home_at at.0 h.session h.instance)) no_params;
      steps = ap (λ (o : Option Home). option_map (λ (m : Home). silent (machine.closes about.members.app g (is_some c.area) m)) o)
          h.home_is
          ∙ ap (λ (m : Group). Some (silent m))
          (is_waiting about notes w.instances g named at.0 coming no_params
          (machine.closing_points about.members.app g at.0 h.session.instance) h held);
      tied = session_waits about notes slots g c named at.0 kind.Close no_copies (event.Close at.0 (is_some c.area)) w has h come (λ no. cc);
    } in
    subst (ComesIn about notes slots g c.slot (waiting_taken c kind.Close named no_copies)) at.2 comes

-- ---- an open

-- the instance that it shares, of this number, is the machine's
pub record AtShared (about : About) (notes : Notes) (instances : NumberMap ℕ) (g : Group) (kept : ℕ × Instance) : Type 0 where
  pub number : ℕ
  pub instance : Instance
  pub on : get instances kept.0 ≡ Some number
  pub there : g.instance ≡ Some (number, instance)
  pub alike : InstancesAlike notes.numbering.in_slots kept.1 instance
  pub uuid : kept.1.uuid ≡ uuid_of about.members.app

pub at_shared : (about : About) (notes : Notes) (slots : List ThreadSlot) (g : Group) (c : NewCall) (kept : ℕ × Instance)
    → (w : Within about notes slots g c) → shared_by c about.members.app ≡ Some kept
    → AtShared about notes w.instances g kept
at_shared about notes slots g c kept w is =
    let parts = if_some (is_single about.members.app)
    (find (λ (k : ℕ × Instance). bytes_eq k.1.uuid (uuid_of about.members.app)) c.tables.instances) kept is in
    let found = found_there c.tables.instances (λ (k : ℕ × Instance). bytes_eq k.1.uuid (uuid_of about.members.app)) kept
    w.rising parts.1 in
    let uuid : kept.1.uuid ≡ uuid_of about.members.app = (bytes_eq-Decides kept.1.uuid (uuid_of about.members.app)).0 found.1 in
    let named = some_of (get w.instances kept.0)
    ((All-get (λ (one : ℕ × Instance). IsOfRealm about.members w.instances one.0 one.1.uuid) c.tables.instances kept.0 kept.1
    w.tied.instances.of_app found.0).named (all_of about.members.realm about.members.app w.shares parts.0) uuid) in
    let own = own_instance notes.numbering.in_slots kept.1 (found_at g.instance named.0)
    (subst (λ (o : Option Instance). FoundAlike notes.numbering.in_slots o (found_at g.instance named.0)) found.0
    (w.tied.instances.alike kept.0 named.0 named.1)) in
    record {
      number = named.0;
      instance = own.0;
      on = named.1;
      there = found_is g.instance named.0 own.0 own.1;
      alike = own.2;
      uuid = uuid;
    }

-- ---- the machine's step at an open

-- by what its tests come to
pub tested_step : (most : ℕ) (app : Application) (g : Group) (input : OwnInput) (opener : Opener) (limited : Bool)
    (dead taken : Bool) → is_dead g ≡ dead → is_taken app g ≡ taken
    → step most app g (event.Open input opener.login limited opener.area)
    ≡ option_map silent (if dead then Some (settles g opener.area target_dead) else (if taken
    then Some (settles g opener.area busy) else (if limited then Some (settles g opener.area out_of_memory)
    else opens_with app g input opener)))
tested_step most app g input opener limited dead taken is_it is_one =
    ap (λ (b : Bool). option_map silent (if b then Some (settles g opener.area target_dead) else (if is_taken app g
    then Some (settles g opener.area busy) else (if limited then Some (settles g opener.area out_of_memory)
    else opens_with app g input opener)))) is_it
    ∙ ap (λ (b : Bool). option_map silent (if dead then Some (settles g opener.area target_dead) else (if b
    then Some (settles g opener.area busy) else (if limited then Some (settles g opener.area out_of_memory)
    else opens_with app g input opener)))) is_one

-- where none stops it, on the instance that is there
pub there_step : (most : ℕ) (app : Application) (g : Group) (params : CopiedParams) (opener : Opener)
    (there : ℕ × Instance) (held : Bool) → is_dead g ≡ false → is_taken app g ≡ false → g.instance ≡ Some there
    → is_held there.1 ≡ held → step most app g (event.Open (Copied params) opener.login false opener.area)
    ≡ Some (silent (if held then machine.open_waits g params opener there.0
    else open_begins g opener (opens_kept app g (start_of_open g params opener.login) there)))
there_step most app g params opener there held alive alone is held_is =
    tested_step most app g (Copied params) opener false false false alive alone
    ∙ ap (λ (o : Option (ℕ × Instance)). Some (silent (option_map_or (opens_there app g params opener) o
    (open_begins g opener (opens_made app g (start_of_open g params opener.login)))))) is
    ∙ ap (λ (b : Bool). Some (silent (if b then machine.open_waits g params opener there.0
    else open_begins g opener (opens_kept app g (start_of_open g params opener.login) there)))) held_is

-- ---- what the tests come to

-- the machine has no instance where the kernel has none of the application
pub none_shared : (about : About) (notes : Notes) (slots : List ThreadSlot) (g : Group) (c : NewCall)
    → (w : Within about notes slots g c) → shared_by c about.members.app ≡ None → (IsOne about.members.realm → g ≡ nobody_there g.key) → g.instance ≡ None
none_shared about notes slots g c w none yet =
    either_realm about.members.realm about.members.app w.shares (λ one. ap (λ (x : Group). x.instance) (yet one))
    (λ single. by_there (none_found single) g.instance refl)
  where
    none_found : is_single about.members.app ≡ true → find (λ (k : ℕ × Instance). bytes_eq k.1.uuid (uuid_of about.members.app)) c.tables.instances ≡ None
    none_found single = sym (ap (λ (b : Bool). if b
        then find (λ (k : ℕ × Instance). bytes_eq k.1.uuid (uuid_of about.members.app)) c.tables.instances else None) single)
        ∙ none

    by_there : find (λ (k : ℕ × Instance). bytes_eq k.1.uuid (uuid_of about.members.app)) c.tables.instances ≡ None
        → (there : Option (ℕ × Instance)) → g.instance ≡ there → there ≡ None
    by_there none_there None is = refl
    by_there none_there (Some one) is =
        let named = w.tied.instances.all one.0 one.1 is in
        let its = kept_instance notes.numbering.in_slots (get c.tables.instances named.0) one.1
        (subst (λ (o : Option Instance). FoundAlike notes.numbering.in_slots (get c.tables.instances named.0) o)
        (ap (λ (o : Option (ℕ × Instance)). found_at o one.0) is ∙ found_same one.0 one.1)
        (w.tied.instances.alike named.0 one.0 named.1)) in
        let uuid : its.0.uuid ≡ uuid_of about.members.app =
        of_group about.members w.instances c.tables.instances named.0 one.0 its.0 w.tied.instances.of_app its.1 named.1 in
        let yes : bytes_eq its.0.uuid (uuid_of about.members.app) ≡ true = (bytes_eq-Decides its.0.uuid (uuid_of about.members.app)).1 uuid in
        let no : bytes_eq its.0.uuid (uuid_of about.members.app) ≡ false =
        none_passes c.tables.instances (λ (k : ℕ × Instance). bytes_eq k.1.uuid (uuid_of about.members.app)) named.0 its.0
        none_there its.1 in
        let clash : true ≡ false = sym yes ∙ no in absurd cc

-- the machine's instance is dead exactly where the shared one is
pub dead_same : (about : About) (notes : Notes) (slots : List ThreadSlot) (g : Group) (c : NewCall)
    → Within about notes slots g c → (IsOne about.members.realm → g ≡ nobody_there g.key) → is_dead g ≡ shares_one c about.members.app (λ (k : ℕ × Instance). k.1.dead)
dead_same about notes slots g c w yet = by_found (shared_by c about.members.app) refl
  where
    by_found : (found : Option (ℕ × Instance)) → shared_by c about.members.app ≡ found
        → is_dead g ≡ option_map_or (λ (k : ℕ × Instance). k.1.dead) found false
    by_found None is =
        ap (λ (o : Option (ℕ × Instance)). option_map_or (λ (t : ℕ × Instance). t.1.dead) o false)
        (none_shared about notes slots g c w is yet)
    by_found (Some kept) is =
        let h = at_shared about notes slots g c kept w is in
        ap (λ (o : Option (ℕ × Instance)). option_map_or (λ (t : ℕ × Instance). t.1.dead) o false) h.there
        ∙ sym h.alike.dead

-- and has a session that has it alone exactly where that does
pub taken_same : (about : About) (notes : Notes) (slots : List ThreadSlot) (g : Group) (c : NewCall)
    → Within about notes slots g c → (IsOne about.members.realm → g ≡ nobody_there g.key) → is_taken about.members.app g ≡ new.is_taken c about.members.app
taken_same about notes slots g c w yet =
    ap (λ (b : Bool). not (is_multi_session about.members.app) && b) (by_found (shared_by c about.members.app) refl)
  where
    by_found : (found : Option (ℕ × Instance)) → shared_by c about.members.app ≡ found
        → option_map_or (λ (t : ℕ × Instance). machine.has_session g.sessions t.0) g.instance false
        ≡ option_map_or (λ (k : ℕ × Instance). kept_sessions.has_session c.tables.sessions k.0) found false
    by_found None is =
        ap (λ (o : Option (ℕ × Instance)). option_map_or (λ (t : ℕ × Instance). machine.has_session g.sessions t.0) o false)
        (none_shared about notes slots g c w is yet)
    by_found (Some kept) is =
        let h = at_shared about notes slots g c kept w is in
        ap (λ (o : Option (ℕ × Instance)). option_map_or (λ (t : ℕ × Instance). machine.has_session g.sessions t.0) o false)
        h.there
        ∙ sym (session_same notes.sessions w.instances c.tables.sessions g.sessions kept.0 h.number w.sessions_rising
        w.tied.instance_names.apart h.on w.tied.sessions)

-- the application that an open has found is the realm's, where its UUID is
pub same_app : (about : About) (notes : Notes) (slots : List ThreadSlot) (g : Group) (c : NewCall) (uuid : List ℕ)
    (of : Application) → Within about notes slots g c → app_of c.boot uuid ≡ Some of
    → bytes_eq (uuid_of of) (uuid_of about.members.app) ≡ true → about.members.app ≡ of
same_app about notes slots g c uuid of w is same =
    let uuids : uuid_of of ≡ uuid_of about.members.app = (bytes_eq-Decides (uuid_of of) (uuid_of about.members.app)).0 same in
    some_same about.members.app of (sym w.of_boot
    ∙ ap (λ (u : List ℕ). app_of c.boot u) (sym uuids ∙ app_named c.boot uuid of is) ∙ is)

-- ---- an open that waits

open_comes : (about : About) (notes : Notes) (slots : List ThreadSlot) (g : Group) (c : NewCall) (wanted : Opening)
    (copies : Copies) (kept : ℕ × Instance) (came : GroupEvent) → Within about notes slots g c
    → Passes c wanted about.members.app → shared_by c about.members.app ≡ Some kept → is_held kept.1 ≡ true
    → open_event (new.open_waits c wanted about.members.app copies kept).tables
    (new.open_waits c wanted about.members.app copies kept).call copies.params ≡ Some came → HasAll about.members.realm
    → ComesIn about notes slots g c.slot (new.open_waits c wanted about.members.app copies kept) came
open_comes about notes slots g c wanted copies kept came w shown shared held noted all =
    subst (ComesIn about notes slots g c.slot (new.open_waits c wanted about.members.app copies kept)) event_is (record {
      next = machine.open_waits g copies.params opener h.number;
      steps = there_step about.most about.members.app g copies.params opener (h.number, h.instance) true
          (dead_same about notes slots g c w yet ∙ shown.alive) (taken_same about notes slots g c w yet ∙ shown.free) h.there
          (held_alike notes.numbering.in_slots kept.1.holder h.instance.holder h.alike.holders ∙ held);
      tied = λ cpu. record {
        instances = w.instances;
        as_realm = as_all about.members.realm (notes.next_session + 1) w.instances _ all;
        tied = call_waits about.members (with_next_session (names_of about notes w.instances) c.tables.next_session) slots
            (tables_with c.tables c.client wanted.login kept.0) (machine.with_session g wanted.login h.number) cpu call
            at copies.params last registered w.free w.none
            (λ own. record {
              homes = (
                get-insert-same notes.sessions c.tables.next_session notes.next_session
                    ∙ ap (λ (n : ℕ). Some n) w.tied.next_session,
                h.on,
              );
              kinds = refl;
              seen = refl;
              areas = refl;
              buffers = refl;
              phases = (refl, refl);
              flagged = λ no. absurd cc;
            }) h.on refl
            (session_comes about.members (names_of about notes w.instances) slots c.tables g c.client wanted.login kept.0 h.number
            w.from_one w.below h.on
            (members_grow about.members.realm notes.sessions c.tables.next_session notes.next_session
            (grows_all about.members.realm c.tables.next_session notes.next_session all) w.tied.named) w.tied);
      };
    })
  where
    yet : IsOne about.members.realm → g ≡ nobody_there g.key
    yet one = not_one about.members.realm all one

    h : AtShared about notes w.instances g kept
    h = at_shared about notes slots g c kept w shared

    opener : Opener
    opener = record { login = wanted.login; area = is_some c.area }

    call : PendingCall
    call = (new.open_waits c wanted about.members.app copies kept).call

    at : machine.About
    at = about_open g (is_some c.area) h.number

    last : Waiter
    last = record { instance = kept.0; uuid = uuid_of about.members.app; slot = c.slot }

    registered : Registered
    registered = (with_pins c (new.with_session c wanted c.tables kept.0) copies.cookies).registered

    event_is : event.Open (Copied copies.params) wanted.login false (is_some c.area) ≡ came
    event_is =
        some_same (event.Open (Copied copies.params) wanted.login false (is_some c.area)) came
        (sym (ap (λ (o : Option Session). option_map
        (λ (s : Session). event.Open (Copied copies.params) s.login false (is_some c.area)) o)
        (get-insert-same c.tables.sessions c.tables.next_session (reserved_for c.client wanted.login kept.0)))
        ∙ noted)

pub open_waits : (about : About) (notes : Notes) (slots : List ThreadSlot) (g : Group) (c : NewCall) (wanted : Opening)
    (of : Application) (copies : Copies) (kept : ℕ × Instance) → Within about notes slots g c → Passes c wanted of
    → shared_by c of ≡ Some kept → is_held kept.1 ≡ true
    → IfWaits about notes slots g c.slot (new.open_waits c wanted of copies kept)
open_waits about notes slots g c wanted of copies kept w shown shared held params came waiting comes_as noted =
    let taken : Taken = new.open_waits c wanted of copies kept in
    let parts = noted_waits about.members.realm about.members.app of notes taken.tables taken.call copies.params came w.shares
    refl noted in
    let all : HasAll about.members.realm =
    all_of about.members.realm about.members.app w.shares
    (ap is_single (same_app about notes slots g c wanted.uuid of w shown.of_boot parts.uuid)
    ∙ (if_some (is_single of) (find (λ (k : ℕ × Instance). bytes_eq k.1.uuid (uuid_of of)) c.tables.instances) kept
    shared).0) in
    let same : about.members.app ≡ of = same_app about notes slots g c wanted.uuid of w shown.of_boot parts.uuid in
    subst (λ (a : Application). Passes c wanted a → shared_by c a ≡ Some kept
    → open_event (new.open_waits c wanted a copies kept).tables (new.open_waits c wanted a copies kept).call copies.params
    ≡ Some came → ComesIn about notes slots g c.slot (new.open_waits c wanted a copies kept) came) same
    (λ its shares event. open_comes about notes slots g c wanted copies kept came w its shares held event all)
    shown shared parts.event
