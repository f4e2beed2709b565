-- What a new call that isn't the realm's takes its slot for leaves what is the realm's.
use Rattle.std.proofs.Common.{◌≡◌, ℕ, ◌+◌, ◌<◌, true, false, List, [], ◌∷◌, ◌++◌, Option, Some, None, refl, ap, subst, sym}
use Rattle.std.proofs.Common.{◌∙◌, arith}
use Rattle.std.specs.Prelude.{IsSome, bytes_eq, cond, find, if◌then◌else◌, is_some, slice_get}
use Rattle.std.specs.Option.{option_and_then, option_map, option_map_or}
use Rattle.std.proofs.lemmas.List.{append-nil}
use Rattle.std.proofs.lemmas.List.Elements.{All-append, All-cons, All-nil, filter-append}
use Rattle.std.proofs.lemmas.Slice.Eq.{bytes_eq-Decides}
use Rattle.base.specs.NumberMap.{IsRising, NumberMap, get, insert}
use Rattle.base.proofs.MapLemmas.{All-get, All-insert}
use Rattle.job_model.specs.declared.call_kind.CallKind.{CallKind}
use Rattle.job_model.specs.declared.call_kind.CallKind.TheVariants as kind
use Rattle.job_model.specs.declared.entry_point.EntryPoint.{EntryPoint}
use Rattle.job_model.specs.declared.entry_point.EntryPoint.TheVariants as point
use Rattle.job_model.specs.Job.{Job}
use Rattle.param_copy.specs.Copying.{Copies}
use Rattle.session_table.specs.declared.session.Session.{Session}
use Rattle.session_table.specs.declared.waiters.Waiter.{Waiter}
use Rattle.session_table.specs.Session.{reserved_for}
use Rattle.session_table.specs.Waiters.{instance_with}
use Rattle.shm_registry.specs.Registered.{Registered}
use Rattle.shm_registry.specs.declared.page_buffer.PageBuffer.{PageBuffer}
use Rattle.ta_params.specs.declared.copied_params.CopiedParams.{CopiedParams}
use Rattle.ta_params.specs.declared.login.Login.{Login}
use Rattle.kernel_model.specs.Application.{Application, uuid_of}
use Rattle.kernel_model.specs.Argument.{Opening}
use Rattle.kernel_model.specs.Begin.{awaited_number, closing_points, opens_new, with_instance}
use Rattle.kernel_model.specs.Begin as kept_begin
use Rattle.kernel_model.specs.Decision.{Taken}
use Rattle.kernel_model.specs.Instances.{app_of, is_single, held_by, made_for}
use Rattle.kernel_model.specs.Kernel.{CallPhase, Free, Instance, PendingCall, Tables, ThreadSlot}
use Rattle.kernel_model.specs.NewCall.{NewCall, beginner, keeps_buffers, named_session, no_copies, opener, shared_by}
use Rattle.kernel_model.specs.NewCall as new
use Rattle.kernel_model.proofs.Parts.{option_map_some}
use Rattle.kernel_model.proofs.SoundMaps.{find-all, get-inserted as get-put, if_some, named_is}
use Rattle.kernel_model.proofs.SoundNewCalls.{opening_taken, waiting_taken, working_taken}
use Rattle.kernel_model.proofs.SoundRising.{found_there}
use Rattle.own_model.proofs.Maps.{get-insert-other, get-insert-same}
use Rattle.own_model.proofs.Lookups.{app_named}
use Rattle.own_model.proofs.OtherCalls.{less}
use Rattle.own_model.proofs.OwnTaken.{numbered_apart}
use Rattle.own_model.specs.Parameters.{params_of}
use Rattle.own_model.specs.declared.own_event.OwnInput.TheVariants.{Copied}
use Rattle.group_model.specs.Group.{Group}
use Rattle.group_model.specs.Read.{is_open_of, open_event_in}
use Rattle.realm_model.specs.Realm.{AllSessions, OneSession, Realm, number_in, open_of}
use Rattle.realm_model.specs.Reading.{Notes, event_of}
use Rattle.group_model.specs.declared.group_event.GroupEvent.{GroupEvent}
use Rattle.group_model.specs.declared.group_event.GroupEvent.TheVariants as event
use Rattle.own_model.proofs.BelowNumbers.{AreBelow}
use Rattle.own_model.specs.Tied.{call_at}
use Rattle.realm_model.specs.Laws.{About, AsRealm, SharesAs, names_of}
use Rattle.group_model.specs.Line.{AreNames}
use Rattle.group_model.specs.Tied.{IsOther, Names}
use Rattle.realm_model.specs.Tied.{AreMembers, HasAll, IsOfRealm, Members, Tied, waiting_of}
use Rattle.group_model.proofs.Alike.{map_none}
use Rattle.group_model.proofs.GrownNames.{tables_with}
use Rattle.realm_model.proofs.Kept.{KeepsTables}
use Rattle.group_model.proofs.NewForms.{NewForms, Passes}

-- a new call where the realm is tied: what is known of the kernel. It has a free slot
pub record Within (about : About) (notes : Notes) (slots : List ThreadSlot) (g : Group) (c : NewCall) : Type 0 where
  pub of_boot : app_of c.boot (uuid_of about.members.app) ≡ Some about.members.app
  pub shares : SharesAs about.members.realm about.members.app
  pub from_one : 0 < c.tables.next_session
  pub below : (slot : ℕ) (call : PendingCall) → call_at slots slot ≡ Some call → call.session < c.tables.next_session
  pub numbers : AreBelow slots c.tables
  pub sessions_rising : IsRising c.tables.sessions
  pub rising : IsRising c.tables.instances
  pub free : slice_get slots c.slot ≡ Some Free
  pub none : get notes.numbering.in_slots c.slot ≡ None
  pub instances : NumberMap ℕ
  pub tied : Tied about.members (names_of about notes instances) slots c.tables g
  pub as_realm : AsRealm about.members.realm notes.next_session instances g

-- where nothing is noted of the call, it is another's, and the tables keep what is the realm's
pub record TakesOther (members : Members) (names : Names) (before : Tables) (taken : Taken) : Type 0 where
  pub other : IsOther names.sessions names.instances taken.call
  pub kept : KeepsTables members names before taken.tables

abbrev pub IfUnnoted : About → Notes → Names → Tables → Taken → Type 0
IfUnnoted about notes names before taken =
    event_of about.members.realm taken.tables notes taken.call taken.call.kind ≡ None →
    TakesOther about.members names before taken

-- ---- numbers that aren't named

not_some : (names : NumberMap ℕ) (number : ℕ) → ((own : ℕ) → get names number ≡ Some own → ⊥) → get names number ≡ None
not_some names number never = by_found (get names number) refl
  where
    by_found : (found : Option ℕ) → get names number ≡ found → found ≡ None
    by_found None is = refl
    by_found (Some own) is = absurd (never own is)

zero_unnamed : (names : NumberMap ℕ) (next own_next : ℕ) → AreNames names next own_next → get names 0 ≡ None
zero_unnamed names next own_next n = not_some names 0 (λ own has. never ((n.given 0 own has).0.0))
  where
    never : 0 < 0 → ⊥
    never lt = absurd (omega arith)

next_unnamed : (names : NumberMap ℕ) (next own_next : ℕ) → AreNames names next own_next → get names next ≡ None
next_unnamed names next own_next n = not_some names next (λ own has. less next next ((n.given next own has).0.1) refl)

names_rise : (names : NumberMap ℕ) (next own_next : ℕ) → AreNames names next own_next
    → AreNames names (next + 1) own_next
names_rise names next own_next n = record {
  given = λ number own has.
      let given = n.given number own has in ((given.0.0, less_on number next given.0.1), given.1);
  apart = n.apart;
}
  where
    less_on : (m k : ℕ) → m < k → m < k + 1
    less_on m k lt = omega arith

-- who isn't one of the realm's has no number
pub unnumbered : (realm : Realm) (numbers : NumberMap ℕ) (session : ℕ) → AreMembers realm numbers
    → number_in realm numbers session ≡ None → get numbers session ≡ None
unnumbered realm numbers session members none =
    not_some numbers session (λ own has. let no : None ≡ Some own = sym none ∙ members session own has in absurd cc)

-- an instance of another application has no name, and one that has none isn't of an application of which the realm has all
pub none_is_some : {P : Type 0} (o : Option ℕ) → o ≡ None → IsSome o → P
none_is_some None none some = absurd cc
none_is_some (Some own) none some = absurd cc

pub unnamed_of : (members : Members) (names : NumberMap ℕ) (number : ℕ) (uuid : List ℕ)
    → IsOfRealm members names number uuid → (uuid ≡ uuid_of members.app → ⊥) → get names number ≡ None
unnamed_of members names number uuid of apart =
    not_some names number (λ own has. apart (of.of_app (subst (λ (o : Option ℕ). IsSome o) (sym has) refl)))

pub of_another : (members : Members) (names : NumberMap ℕ) (number : ℕ) (uuid : List ℕ) → get names number ≡ None
    → (HasAll members.realm → uuid ≡ uuid_of members.app → ⊥) → IsOfRealm members names number uuid
of_another members names number uuid none apart = record {
  of_app = λ some. none_is_some (get names number) none some;
  named = λ all is. absurd (apart all is);
}

-- ---- one change of the tables

module _ (members : Members) (names : Names) (before tables : Tables) (kept : KeepsTables members names before tables) where
  pub registered_keep : (registered : Registered)
      → KeepsTables members names before (record tables { registered = registered })
  registered_keep registered = record {
    sessions = kept.sessions;
    other_sessions = kept.other_sessions;
    instances = kept.instances;
    of_app = kept.of_app;
    waiting = kept.waiting;
    waiters = kept.waiters;
    session_names = kept.session_names;
    instance_names = kept.instance_names;
  }

  -- a session comes, on an instance that isn't the realm's
  pub session_keeps : (client : ℕ) (login : Login) (instance : ℕ)
      → AreNames names.sessions before.next_session names.next_session → get names.instances instance ≡ None
      → KeepsTables members names before (tables_with tables client login instance)
  session_keeps client login instance were none =
      let now = kept.session_names were in
      let reserved : Session = reserved_for client login instance in
      record {
        sessions = λ number own has.
            get-insert-other tables.sessions tables.next_session reserved number
            (less number tables.next_session ((now.given number own has).0.1)) ∙ kept.sessions number own has;
        other_sessions = λ number session found without.
            get-put tables.sessions tables.next_session reserved number session found
            (λ same is. ap (λ (s : Session). get names.instances s.instance) (sym is) ∙ none)
            (λ apart was. kept.other_sessions number session was without);
        instances = kept.instances;
        of_app = kept.of_app;
        waiting = kept.waiting;
        waiters = kept.waiters;
        session_names = λ were. names_rise names.sessions tables.next_session names.next_session (kept.session_names were);
        instance_names = kept.instance_names;
      }

  -- an instance that isn't the realm's is this from now on
  pub instance_keeps : (number : ℕ) (instance : Instance) → get names.instances number ≡ None
      → IsOfRealm members names.instances number instance.uuid
      → KeepsTables members names before (with_instance tables number instance)
  instance_keeps number instance none of = record {
    sessions = kept.sessions;
    other_sessions = kept.other_sessions;
    instances = λ at own has.
        get-insert-other tables.instances number instance at (numbered_apart names.instances number at own none has)
        ∙ kept.instances at own has;
    of_app = All-insert (λ (one : ℕ × Instance). IsOfRealm members names.instances one.0 one.1.uuid) tables.instances number
        instance kept.of_app of;
    waiting = kept.waiting;
    waiters = kept.waiters;
    session_names = kept.session_names;
    instance_names = kept.instance_names;
  }

  -- the next instance gets a higher number
  pub next_keeps : KeepsTables members names before (record tables { next_instance = tables.next_instance + 1 })
  next_keeps = record {
    sessions = kept.sessions;
    other_sessions = kept.other_sessions;
    instances = kept.instances;
    of_app = kept.of_app;
    waiting = kept.waiting;
    waiters = kept.waiters;
    session_names = kept.session_names;
    instance_names = λ own_next were.
        names_rise names.instances tables.next_instance own_next (kept.instance_names own_next were);
  }

  -- a call waits for an instance that isn't the realm's
  pub waiter_keeps : (last : Waiter) → get names.instances last.instance ≡ None
      → IsOfRealm members names.instances last.instance last.uuid
      → KeepsTables members names before (record tables { waiters = tables.waiters ++ last ∷ [] })
  waiter_keeps last none of = record {
    sessions = kept.sessions;
    other_sessions = kept.other_sessions;
    instances = kept.instances;
    of_app = kept.of_app;
    waiting = filter-append (λ (w : Waiter). is_some (get names.instances w.instance)) tables.waiters (last ∷ [])
        ∙ ap (λ (o : Option ℕ). waiting_of names.instances tables.waiters ++ cond (is_some o) (last ∷ []) []) none
        ∙ append-nil (waiting_of names.instances tables.waiters) ∙ kept.waiting;
    waiters = All-append (λ (w : Waiter). IsOfRealm members names.instances w.instance w.uuid) tables.waiters (last ∷ [])
        kept.waiters
        (All-cons (λ (w : Waiter). IsOfRealm members names.instances w.instance w.uuid) last [] of
        (All-nil (λ (w : Waiter). IsOfRealm members names.instances w.instance w.uuid)));
    session_names = kept.session_names;
    instance_names = kept.instance_names;
  }

-- ---- calls that are settled

module _ (about : About) (notes : Notes) (slots : List ThreadSlot) (g : Group) (c : NewCall)
    (w : Within about notes slots g c) (before : Tables)
    (kept : KeepsTables about.members (names_of about notes w.instances) before c.tables)
    (were : AreNames notes.sessions before.next_session notes.next_session) where
  abbrev TakesAnother : Taken → Type 0
  TakesAnother taken = TakesOther about.members (names_of about notes w.instances) before taken

  abbrev IfNone : Taken → Type 0
  IfNone taken = IfUnnoted about notes (names_of about notes w.instances) before taken

  no_session : get notes.sessions 0 ≡ None
  no_session = zero_unnamed notes.sessions c.tables.next_session notes.next_session w.tied.session_names

  no_instance : get w.instances 0 ≡ None
  no_instance = zero_unnamed w.instances c.tables.next_instance g.next_instance w.tied.instance_names

  -- a session that the realm has no number for has none
  not_noted : number_in about.members.realm notes.sessions c.head.session ≡ None → get notes.sessions c.head.session ≡ None
  not_noted none = unnumbered about.members.realm notes.sessions c.head.session w.tied.named none

  untold : (code : ℕ) → IfNone (new.settles c code)
  untold code none = record { other = record { session = no_session; instance = no_instance }; kept = kept }

  open_stopped : (of : Application) (login : Login) (code : ℕ) → IfNone (new.settles_open c of login code)
  open_stopped of login code none =
      record { other = record { session = no_session; instance = no_instance }; kept = kept }

  buffers_kept : (buffers : NumberMap PageBuffer) → IfNone (keeps_buffers c buffers)
  buffers_kept buffers none = record {
    other = record { session = no_session; instance = no_instance };
    kept = registered_keep about.members (names_of about notes w.instances) before c.tables kept _;
  }

  invoke_stopped : (code : ℕ) → IfNone (new.settles_invoke c code)
  invoke_stopped code none = record {
    other = record {
      session = not_noted (map_none _ (number_in about.members.realm notes.sessions c.head.session) none);
      instance = no_instance;
    };
    kept = kept;
  }

  cancelled : IfNone (new.cancels c)
  cancelled none = record {
    other = record {
      session = not_noted (map_none _ (number_in about.members.realm notes.sessions c.head.session) none);
      instance = no_instance;
    };
    kept = kept;
  }

  -- ---- a call in a session that isn't the realm's

  -- nor is its instance
  elsewhere : (named : Session × Instance) → named_session c ≡ Some named → get notes.sessions c.head.session ≡ None
      → get w.instances named.0.instance ≡ None
  elsewhere named is none = w.tied.sessions.others c.head.session named.0 (named_is c named is).kept none

  of_named : (named : Session × Instance) → named_session c ≡ Some named
      → IsOfRealm about.members w.instances named.0.instance named.1.uuid
  of_named named is =
      All-get (λ (one : ℕ × Instance). IsOfRealm about.members w.instances one.0 one.1.uuid) c.tables.instances
      named.0.instance named.1 w.tied.instances.of_app (named_is c named is).instance

  works : (named : Session × Instance) (call_kind : CallKind) (copies : Copies) (points : List EntryPoint)
      → named_session c ≡ Some named → get notes.sessions c.head.session ≡ None
      → TakesAnother (working_taken c call_kind named copies points)
  works named call_kind copies points is none = record {
    other = record { session = none; instance = elsewhere named is none };
    kept = registered_keep about.members (names_of about notes w.instances) before
        (with_instance c.tables named.0.instance (held_by c.slot named.1))
        (instance_keeps about.members (names_of about notes w.instances) before c.tables kept named.0.instance
        (held_by c.slot named.1) (elsewhere named is none) (of_named named is)) _;
  }

  waits : (named : Session × Instance) (call_kind : CallKind) (copies : Copies) → named_session c ≡ Some named
      → get notes.sessions c.head.session ≡ None → TakesAnother (waiting_taken c call_kind named copies)
  waits named call_kind copies is none =
      let last : Waiter = record { instance = named.0.instance; uuid = named.1.uuid; slot = c.slot } in
      record {
        other = record { session = none; instance = elsewhere named is none };
        kept = registered_keep about.members (names_of about notes w.instances) before
            (record c.tables { waiters = c.tables.waiters ++ last ∷ [] })
            (waiter_keeps about.members (names_of about notes w.instances) before c.tables kept last
            (elsewhere named is none) (of_named named is)) _;
      }

  -- an invoke whose event isn't noted is in one
  unnoted_invoke : (make : ℕ → GroupEvent) (found : Option ℕ) → option_and_then (λ (s : ℕ). Some (make s)) found ≡ None
      → found ≡ None
  unnoted_invoke make None e = refl
  unnoted_invoke make (Some s) e = absurd cc

  -- ---- an open of another application

  -- where the realm has all sessions of its application, an open that isn't noted is of another
  apart_noted : (realm : Realm) (app of : Application) (tables : Tables) (call : PendingCall) (phase : CallPhase)
      (would : GroupEvent) → SharesAs realm app → call.uuid ≡ Some (uuid_of of)
      → open_event_in tables call phase ≡ Some would → open_of realm tables call phase ≡ None
      → HasAll realm → uuid_of of ≡ uuid_of app → ⊥
  apart_noted (OneSession member) app of tables call phase would shares named some none all same = all
  apart_noted (AllSessions its) app of tables call phase would shares named some none all same =
      let ours : is_open_of its call ≡ true =
      ap (λ (o : Option (List ℕ)). option_map_or (λ uuid. bytes_eq uuid (uuid_of its)) o false) named
      ∙ (bytes_eq-Decides (uuid_of of) (uuid_of its)).1 (same ∙ ap (λ (a : Application). uuid_of a) (sym shares.1)) in
      let no : Some would ≡ None =
      sym (ap (λ b. if b then open_event_in tables call phase else None) ours ∙ some) ∙ none in absurd cc

  -- and one that shares an instance is of another in any case, since one session's application shares none
  apart_shared : (realm : Realm) (app of : Application) → SharesAs realm app → is_single of ≡ true
      → (HasAll realm → uuid_of of ≡ uuid_of app → ⊥) → (uuid_of of ≡ uuid_of app → of ≡ app)
      → uuid_of of ≡ uuid_of app → ⊥
  apart_shared (OneSession member) app of shares single apart is same =
      let no : true ≡ false = sym single ∙ ap is_single (is same) ∙ shares in absurd cc
  apart_shared (AllSessions its) app of shares single apart is same = apart tt same

  -- an application of the boot is known by its UUID
  known : (wanted : Opening) (of : Application) → Passes c wanted of → uuid_of of ≡ uuid_of about.members.app
      → of ≡ about.members.app
  known wanted of passes same =
      let one : Some of ≡ Some about.members.app =
      sym passes.of_boot ∙ ap (λ u. app_of c.boot u) (sym (app_named c.boot wanted.uuid of passes.of_boot) ∙ same)
      ∙ w.of_boot in cc

  -- an open that begins on an instance isn't of the application where that has all, nor where it shares one
  all_apart : (wanted : Opening) (of : Application) (taken : Taken) (would : GroupEvent)
      → taken.call.uuid ≡ Some (uuid_of of) → open_event_in taken.tables taken.call taken.call.phase ≡ Some would
      → open_of about.members.realm taken.tables taken.call taken.call.phase ≡ None
      → HasAll about.members.realm → uuid_of of ≡ uuid_of about.members.app → ⊥
  all_apart wanted of taken would named some none =
      apart_noted about.members.realm about.members.app of taken.tables taken.call taken.call.phase would w.shares named
      some none

  one_apart : (wanted : Opening) (of : Application) → Passes c wanted of → is_single of ≡ true
      → (HasAll about.members.realm → uuid_of of ≡ uuid_of about.members.app → ⊥)
      → uuid_of of ≡ uuid_of about.members.app → ⊥
  one_apart wanted of passes single apart =
      apart_shared about.members.realm about.members.app of w.shares single apart (known wanted of passes)

  -- it would be, of the session that it gets
  would_be : (wanted : Opening) (params : CopiedParams) (sessions : NumberMap Session) (instance : ℕ)
      → option_map (λ (s : Session). event.Open (Copied params) s.login false (is_some c.area))
      (get (insert sessions c.tables.next_session (reserved_for c.client wanted.login instance)) c.tables.next_session)
      ≡ Some (event.Open (Copied params) wanted.login false (is_some c.area))
  would_be wanted params sessions instance =
      ap (λ (o : Option Session). option_map
      (λ (s : Session). event.Open (Copied params) s.login false (is_some c.area)) o)
      (get-insert-same sessions c.tables.next_session (reserved_for c.client wanted.login instance))

  session_apart : get notes.sessions c.tables.next_session ≡ None
  session_apart = next_unnamed notes.sessions c.tables.next_session notes.next_session w.tied.session_names

  -- the instance that it shares isn't either
  shared_single : (of : Application) (kept_there : ℕ × Instance) → shared_by c of ≡ Some kept_there → is_single of ≡ true
  shared_single of kept_there shared =
      (if_some (is_single of) (find (λ (k : ℕ × Instance). bytes_eq k.1.uuid (uuid_of of)) c.tables.instances)
      kept_there shared).0

  shared_uuid : (of : Application) (kept_there : ℕ × Instance) → shared_by c of ≡ Some kept_there
      → (get c.tables.instances kept_there.0 ≡ Some kept_there.1) × (kept_there.1.uuid ≡ uuid_of of)
  shared_uuid of kept_there shared =
      let parts = if_some (is_single of) (find (λ (k : ℕ × Instance). bytes_eq k.1.uuid (uuid_of of)) c.tables.instances)
      kept_there shared in
      let found = found_there c.tables.instances (λ (k : ℕ × Instance). bytes_eq k.1.uuid (uuid_of of)) kept_there w.rising
      parts.1 in
      (found.0, (bytes_eq-Decides kept_there.1.uuid (uuid_of of)).0 found.1)

  of_shared : (of : Application) (kept_there : ℕ × Instance) → shared_by c of ≡ Some kept_there
      → IsOfRealm about.members w.instances kept_there.0 kept_there.1.uuid
  of_shared of kept_there shared =
      All-get (λ (one : ℕ × Instance). IsOfRealm about.members w.instances one.0 one.1.uuid) c.tables.instances kept_there.0
      kept_there.1 w.tied.instances.of_app (shared_uuid of kept_there shared).0

  shared_apart : (of : Application) (kept_there : ℕ × Instance) → shared_by c of ≡ Some kept_there
      → (uuid_of of ≡ uuid_of about.members.app → ⊥) → get w.instances kept_there.0 ≡ None
  shared_apart of kept_there shared apart =
      unnamed_of about.members w.instances kept_there.0 kept_there.1.uuid (of_shared of kept_there shared)
      (λ is. apart (sym ((shared_uuid of kept_there shared).1) ∙ is))

  awaited_single : (of : Application) (number : ℕ) → awaited_number c.tables of ≡ Some number → is_single of ≡ true
  awaited_single of number awaited =
      (if_some (is_single of) (instance_with c.tables.waiters (uuid_of of)) number awaited).0

  -- nor is the one for which calls of another application wait
  awaited_apart : (of : Application) (number : ℕ) → awaited_number c.tables of ≡ Some number
      → (uuid_of of ≡ uuid_of about.members.app → ⊥) → get w.instances number ≡ None
  awaited_apart of number awaited apart =
      let parts = if_some (is_single of) (instance_with c.tables.waiters (uuid_of of)) number awaited in
      let first = option_map_some (λ (waiter : Waiter). waiter.instance)
      (find (λ (waiter : Waiter). bytes_eq waiter.uuid (uuid_of of)) c.tables.waiters) number parts.1 in
      let found = find-all (λ (waiter : Waiter). IsOfRealm about.members w.instances waiter.instance waiter.uuid)
      (λ (waiter : Waiter). bytes_eq waiter.uuid (uuid_of of)) c.tables.waiters first.0 w.tied.waiters.of_app first.1 in
      ap (λ (n : ℕ). get w.instances n) (sym first.2)
      ∙ unnamed_of about.members w.instances first.0.instance first.0.uuid found.holds
      (λ is. apart (sym ((bytes_eq-Decides first.0.uuid (uuid_of of)).0 found.passes) ∙ is))

  -- it begins on an instance of this number
  opens : (wanted : Opening) (of : Application) (copies : Copies) (number next : ℕ) (instance : Instance) (job : Job)
      → get w.instances number ≡ None
      → KeepsTables about.members (names_of about notes w.instances) before
      (record c.tables { instances = insert c.tables.instances number instance; next_instance = next })
      → TakesAnother (opening_taken c wanted of copies (record {
        tables = record c.tables { instances = insert c.tables.instances number instance; next_instance = next };
        instance = number;
        job = job;
      }))
  opens wanted of copies number next instance job none holds = record {
    other = record { session = session_apart; instance = none };
    kept = registered_keep about.members (names_of about notes w.instances) before _
        (session_keeps about.members (names_of about notes w.instances) before
        (record c.tables { instances = insert c.tables.instances number instance; next_instance = next }) holds c.client
        wanted.login number were none) _;
  }

  opens_kept : (wanted : Opening) (of : Application) (copies : Copies) (kept_there : ℕ × Instance)
      → Passes c wanted of → shared_by c of ≡ Some kept_there
      → IfNone (opening_taken c wanted of copies (kept_begin.opens_kept (beginner c) (opener wanted of copies) kept_there))
  opens_kept wanted of copies kept_there passes shared none =
      let begun = kept_begin.opens_kept (beginner c) (opener wanted of copies) kept_there in
      let all_of = all_apart wanted of
      (opening_taken c wanted of copies begun) _ refl
      (would_be wanted (params_of begun.job) c.tables.sessions kept_there.0) none in
      let apart = one_apart wanted of passes (shared_single of kept_there shared) all_of in
      opens wanted of copies kept_there.0 c.tables.next_instance (held_by c.slot kept_there.1) begun.job
      (shared_apart of kept_there shared apart)
      (instance_keeps about.members (names_of about notes w.instances) before c.tables kept kept_there.0
      (held_by c.slot kept_there.1) (shared_apart of kept_there shared apart) (of_shared of kept_there shared))

  opens_awaited : (wanted : Opening) (of : Application) (copies : Copies) (number : ℕ)
      → Passes c wanted of → awaited_number c.tables of ≡ Some number
      → IfNone (opening_taken c wanted of copies
      (opens_new (beginner c) (opener wanted of copies) number c.tables.next_instance))
  opens_awaited wanted of copies number passes awaited none =
      let begun = opens_new (beginner c) (opener wanted of copies) number c.tables.next_instance in
      let all_of = all_apart wanted of
      (opening_taken c wanted of copies begun) _ refl
      (would_be wanted (params_of begun.job) c.tables.sessions number) none in
      let apart = one_apart wanted of passes (awaited_single of number awaited) all_of in
      let unnamed = awaited_apart of number awaited apart in
      opens wanted of copies number c.tables.next_instance (made_for (uuid_of of) c.slot) begun.job unnamed
      (instance_keeps about.members (names_of about notes w.instances) before c.tables kept number
      (made_for (uuid_of of) c.slot) unnamed (of_another about.members w.instances number (uuid_of of) unnamed (λ all. apart)))

  opens_next : (wanted : Opening) (of : Application) (copies : Copies)
      → Passes c wanted of → IfNone (opening_taken c wanted of copies
      (opens_new (beginner c) (opener wanted of copies) c.tables.next_instance (c.tables.next_instance + 1)))
  opens_next wanted of copies passes none =
      let next : ℕ = c.tables.next_instance in
      let begun = opens_new (beginner c) (opener wanted of copies) next (next + 1) in
      let all_of = all_apart wanted of
      (opening_taken c wanted of copies begun) _ refl
      (would_be wanted (params_of begun.job) c.tables.sessions next) none in
      let unnamed = next_unnamed w.instances next g.next_instance w.tied.instance_names in
      opens wanted of copies next (next + 1) (made_for (uuid_of of) c.slot) begun.job unnamed
      (next_keeps about.members (names_of about notes w.instances) before
      (with_instance c.tables next (made_for (uuid_of of) c.slot))
      (instance_keeps about.members (names_of about notes w.instances) before c.tables kept next
      (made_for (uuid_of of) c.slot) unnamed (of_another about.members w.instances next (uuid_of of) unnamed all_of)))

  open_waits : (wanted : Opening) (of : Application) (copies : Copies) (kept_there : ℕ × Instance)
      → Passes c wanted of → shared_by c of ≡ Some kept_there → IfNone (new.open_waits c wanted of copies kept_there)
  open_waits wanted of copies kept_there passes shared none =
      let all_of = all_apart wanted of
      (new.open_waits c wanted of copies kept_there) _ refl
      (would_be wanted copies.params c.tables.sessions kept_there.0) none in
      let apart = one_apart wanted of passes (shared_single of kept_there shared) all_of in
      let unnamed = shared_apart of kept_there shared apart in
      let last : Waiter = record { instance = kept_there.0; uuid = uuid_of of; slot = c.slot } in
      let with_it = tables_with c.tables c.client wanted.login kept_there.0 in
      record {
        other = record { session = session_apart; instance = unnamed };
        kept = registered_keep about.members (names_of about notes w.instances) before
            (record with_it { waiters = with_it.waiters ++ last ∷ [] })
            (waiter_keeps about.members (names_of about notes w.instances) before with_it
            (session_keeps about.members (names_of about notes w.instances) before c.tables kept c.client wanted.login
            kept_there.0 were unnamed) last unnamed
            (of_another about.members w.instances kept_there.0 (uuid_of of) unnamed (λ all. apart))) _;
      }

  -- ---- each form

  pub forms_other : NewForms c (IfUnnoted about notes (names_of about notes w.instances) before)
  forms_other = record {
    settled = λ code. untold code;
    registered = λ buffers. buffers_kept buffers;
    open_dead = λ wanted of is dead. open_stopped of wanted.login _;
    open_busy = λ wanted of is alive taken. open_stopped of wanted.login _;
    open_limited = λ wanted of passes. open_stopped of wanted.login _;
    open_faulty = λ wanted of passes. open_stopped of wanted.login _;
    invoke_dead = λ named is dead. invoke_stopped _;
    invoke_faulty = λ named is alive. invoke_stopped _;
    cancels = λ named is. cancelled;
    opens_kept = λ wanted of copies kept_there passes shared free. opens_kept wanted of copies kept_there passes shared;
    opens_awaited = λ wanted of copies number passes shared awaited. opens_awaited wanted of copies number passes awaited;
    opens_next = λ wanted of copies passes shared awaited. opens_next wanted of copies passes;
    open_waits = λ wanted of copies kept_there passes shared held. open_waits wanted of copies kept_there passes shared;
    invokes = λ named copies is alive free none.
        works named (kind.Invoke c.head.func) copies (point.Invoke c.head.func ∷ []) is
        (not_noted (unnoted_invoke _ (number_in about.members.realm notes.sessions c.head.session) none));
    invoke_waits = λ named copies is alive held none.
        waits named (kind.Invoke c.head.func) copies is (not_noted (unnoted_invoke _ (number_in about.members.realm notes.sessions c.head.session) none));
    closes = λ named is free none.
        works named kind.Close no_copies (closing_points (beginner c) c.head.session named.0 named.1) is
        (not_noted (map_none _ (number_in about.members.realm notes.sessions c.head.session) none));
    close_waits = λ named is held none.
        waits named kind.Close no_copies is (not_noted (map_none _ (number_in about.members.realm notes.sessions c.head.session) none));
  }
