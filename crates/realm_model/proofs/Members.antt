-- One session and all sessions of an application: what the two share where a call of theirs comes in.
use Rattle.std.proofs.Common.{◌≡◌, ℕ, ◌+◌, ◌<◌, Bool, true, false, List, [], Option, Some, None, refl, ap, sym}
use Rattle.std.proofs.Common.{◌∙◌, arith}
use Rattle.std.specs.Prelude.{◌==◌, bytes_eq, if◌then◌else◌, is_some}
use Rattle.std.specs.Option.{option_map, option_map_or}
use Rattle.std.proofs.lemmas.Bool.Decides.{Decides-eqb}
use Rattle.std.proofs.lemmas.Slice.Eq.{bytes_eq-Decides}
use Rattle.base.specs.NumberMap.{NumberMap, get, insert}
use Rattle.job_model.specs.declared.call_kind.CallKind.{CallKind}
use Rattle.job_model.specs.declared.call_kind.CallKind.TheVariants as kind
use Rattle.job_model.specs.Job.{Job}
use Rattle.session_table.specs.declared.session.Session.{Session}
use Rattle.ta_params.specs.declared.call_result.CallResult.{CallResult}
use Rattle.ta_params.specs.declared.copied_params.CopiedParams.{CopiedParams}
use Rattle.ta_params.specs.declared.login.Login.{Login}
use Rattle.kernel_model.specs.Application.{Application, uuid_of}
use Rattle.kernel_model.specs.Instances.{is_single}
use Rattle.kernel_model.specs.Kernel.{PendingCall, Runs, Tables, Waits}
use Rattle.kernel_model.proofs.SoundMaps.{if_some}
use Rattle.own_model.proofs.Maps.{get-inserted}
use Rattle.own_model.specs.Parameters.{params_of}
use Rattle.own_model.specs.declared.own_event.OwnInput.TheVariants.{Copied}
use Rattle.group_model.specs.Group.{Group, nobody_there}
use Rattle.group_model.specs.Line.{AreNames}
use Rattle.group_model.specs.Read.{open_event, settled_open_event}
use Rattle.group_model.specs.declared.group_event.GroupEvent.{GroupEvent}
use Rattle.group_model.specs.declared.group_event.GroupEvent.TheVariants.{Open}
use Rattle.realm_model.specs.Realm.{AllSessions, OneSession, Realm, number_in, open_of, settled_open_of}
use Rattle.realm_model.specs.Reading.{Notes}
use Rattle.realm_model.specs.Laws.{AsRealm, ComesAs, IsOne, OpensRun, SharesAs}
use Rattle.realm_model.specs.Tied.{AreMembers, HasAll}

-- ---- one or all

-- where sessions share an instance, the realm has all of them
pub all_of : (realm : Realm) (app : Application) → SharesAs realm app → is_single app ≡ true → HasAll realm
all_of (OneSession member) app shares single = let no : true ≡ false = sym single ∙ shares in absurd cc
all_of (AllSessions of) app shares single = tt

pub not_one : {P : Type 0} (realm : Realm) → HasAll realm → IsOne realm → P
not_one (OneSession member) all one = absurd all
not_one (AllSessions app) all one = absurd one

-- either it has all, which share an instance, or it is one
pub either_realm : {P : Type 0} (realm : Realm) (app : Application) → SharesAs realm app → (IsOne realm → P)
    → (is_single app ≡ true → P) → P
either_realm (OneSession member) app shares on_one on_all = on_one tt
either_realm (AllSessions of) app shares on_one on_all = on_all shares.0

pub as_all : (realm : Realm) (next_session : ℕ) (instances : NumberMap ℕ) (g : Group) → HasAll realm
    → AsRealm realm next_session instances g
as_all (OneSession member) next_session instances g all = absurd all
as_all (AllSessions app) next_session instances g all = tt

-- one session's open never waits
pub opens_of : (realm : Realm) (next_session : ℕ) (instances : NumberMap ℕ) (g : Group)
    → AsRealm realm next_session instances g → IsOne realm → OpensRun g.calls
opens_of (OneSession member) next_session instances g one is_one = one.runs
opens_of (AllSessions app) next_session instances g one is_one = absurd is_one

-- ---- behind the open

-- the open of one session has come
abbrev pub HasCome : Realm → NumberMap ℕ → Type 0
HasCome (OneSession member) sessions = get sessions member ≡ Some 0
HasCome (AllSessions app) sessions = Unit {0}

pub come_before : (realm : Realm) (app : Application) (notes : Notes) (call : PendingCall) (call_kind : CallKind)
    → (call_kind ≡ kind.Open → ⊥) → ComesAs realm app notes call call_kind → HasCome realm notes.sessions
come_before (OneSession member) app notes call kind.Open other comes = absurd (other refl)
come_before (OneSession member) app notes call (kind.Invoke func) other comes = comes
come_before (OneSession member) app notes call kind.Close other comes = comes
come_before (OneSession member) app notes call kind.Settled other comes = comes
come_before (AllSessions of) app notes call call_kind other comes = tt

-- so whoever is a member has its number
pub number_named : (realm : Realm) (sessions : NumberMap ℕ) (session number : ℕ) → HasCome realm sessions
    → number_in realm sessions session ≡ Some number → get sessions session ≡ Some number
number_named (OneSession member) sessions session number has is = by_test (session == member) refl is
  where
    by_test : (test : Bool) → (session == member) ≡ test → (if test then Some 0 else None) ≡ Some number
        → get sessions session ≡ Some number
    by_test true here same = ap (λ n. get sessions n) ((Decides-eqb session member).0 here) ∙ has ∙ same
    by_test false here same = absurd cc
number_named (AllSessions app) sessions session number has is = is

-- and the machine may change
pub as_come : (realm : Realm) (sessions : NumberMap ℕ) (next next_session : ℕ) (instances : NumberMap ℕ) (g after_it : Group)
    → HasCome realm sessions → AreNames sessions next next_session → AsRealm realm next_session instances g
    → (IsOne realm → OpensRun after_it.calls) → AsRealm realm next_session instances after_it
as_come (OneSession member) sessions next next_session instances g after_it has names one runs = record {
  runs = runs tt;
  lone = one.lone;
  fresh = λ none. absurd (positive next_session (names.given member 0 has).1 none);
}
  where
    positive : (n : ℕ) → 0 < n → n ≡ 0 → ⊥
    positive n some none = absurd (omega arith)
as_come (AllSessions app) sessions next next_session instances g after_it has names one runs = tt

-- ---- at the open

-- of one session nobody is there yet
pub yet_nobody : (realm : Realm) (app : Application) (notes : Notes) (call : PendingCall) (instances : NumberMap ℕ) (g : Group)
    → ComesAs realm app notes call kind.Open → AsRealm realm notes.next_session instances g → IsOne realm
    → (g ≡ nobody_there g.key) × (instances ≡ [])
yet_nobody (OneSession member) app notes call instances g comes one is_one = one.fresh comes.1
yet_nobody (AllSessions of) app notes call instances g comes one is_one = absurd is_one

-- it gets one instance
pub as_next : (realm : Realm) (next_session : ℕ) (instances : NumberMap ℕ) (after_it : Group) (next own : ℕ)
    → (IsOne realm → instances ≡ []) → (IsOne realm → OpensRun after_it.calls)
    → AsRealm realm (next_session + 1) (insert instances next own) after_it
as_next (OneSession member) next_session instances after_it next own none runs = record {
  runs = runs tt;
  lone = λ first second a b one two. is_next first a one ∙ sym (is_next second b two);
  fresh = λ zero. absurd (more next_session zero);
}
  where
    is_next : (at a : ℕ) → get (insert instances next own) at ≡ Some a → at ≡ next
    is_next at a has =
        get-inserted instances next own at a has (λ same is. same)
        (λ was. let no : None ≡ Some a = sym (ap (λ (m : NumberMap ℕ). get m at) (none tt)) ∙ was in absurd cc)

    more : (n : ℕ) → n + 1 ≡ 0 → ⊥
    more n zero = absurd (omega arith)
as_next (AllSessions app) next_session instances after_it next own none runs = tt

-- its session is the member, with number 0
abbrev pub GrowsAs : Realm → ℕ → ℕ → Type 0
GrowsAs (OneSession member) session number = (session ≡ member) × (number ≡ 0)
GrowsAs (AllSessions app) session number = Unit {0}

pub grows_all : (realm : Realm) (session number : ℕ) → HasAll realm → GrowsAs realm session number
grows_all (OneSession member) session number all = absurd all
grows_all (AllSessions app) session number all = tt

pub members_grow : (realm : Realm) (numbers : NumberMap ℕ) (next own : ℕ) → GrowsAs realm next own → AreMembers realm numbers
    → AreMembers realm (insert numbers next own)
members_grow (OneSession member) numbers next own grows members = λ session number has.
    get-inserted numbers next own session number has
    (λ same is.
    ap (λ b. if b then Some 0 else None) ((Decides-eqb session member).1 (same ∙ grows.0))
    ∙ ap (λ (n : ℕ). Some n) (sym grows.1 ∙ is))
    (λ was. members session number was)
members_grow (AllSessions app) numbers next own grows members = λ session number has. has

-- ---- the event of an open

-- an open of this application whose event is noted: it is of the realm's application, and its session is a member
pub record NotedOpen (realm : Realm) (app of : Application) (call : PendingCall) (number : ℕ) (tables : Tables)
    (params : CopiedParams) (came : GroupEvent) : Type 0 where
  pub uuid : bytes_eq (uuid_of of) (uuid_of app) ≡ true
  pub event : open_event tables call params ≡ Some came
  pub grows : GrowsAs realm call.session number

same_uuid : (a b : List ℕ) → Some a ≡ Some b → a ≡ b
same_uuid a b e = cc

some_event : (a b : GroupEvent) → Some a ≡ Some b → a ≡ b
some_event a b e = cc

-- of all sessions
of_all : (its app of : Application) (call : PendingCall) (number : ℕ) (tables : Tables) (params : CopiedParams)
    (came : GroupEvent) → its ≡ app → call.uuid ≡ Some (uuid_of of)
    → (if option_map_or (λ u. bytes_eq u (uuid_of its)) call.uuid false then open_event tables call params else None)
    ≡ Some came → NotedOpen (AllSessions its) app of call number tables params came
of_all its app of call number tables params came same named noted =
    let parts = if_some (option_map_or (λ u. bytes_eq u (uuid_of its)) call.uuid false) (open_event tables call params) came
    noted in
    record {
      uuid = ap (λ (a : Application). bytes_eq (uuid_of of) (uuid_of a)) (sym same)
          ∙ sym (ap (λ (o : Option (List ℕ)). option_map_or (λ u. bytes_eq u (uuid_of its)) o false) named) ∙ parts.0;
      event = parts.1;
      grows = tt;
    }

-- one that begins
pub noted_runs : (realm : Realm) (app of : Application) (notes : Notes) (tables : Tables) (call : PendingCall) (job : Job)
    (came : GroupEvent) (session : Session) → SharesAs realm app → ComesAs realm app notes call kind.Open
    → call.uuid ≡ Some (uuid_of of) → get tables.sessions call.session ≡ Some session → session.login ≡ job.login
    → open_of realm tables call (Runs job) ≡ Some came
    → NotedOpen realm app of call notes.next_session tables (params_of job) came
noted_runs (OneSession member) app of notes tables call job came session shares comes named there login noted =
    by_test (call.session == member) refl noted
  where
    by_test : (test : Bool) → (call.session == member) ≡ test
        → (if test then Some (Open (Copied (params_of job)) job.login false (is_some call.area)) else None) ≡ Some came
        → NotedOpen (OneSession member) app of call notes.next_session tables (params_of job) came
    by_test true here is = record {
      uuid = (bytes_eq-Decides (uuid_of of) (uuid_of app)).1
          (same_uuid (uuid_of of) (uuid_of app) (sym named ∙ comes.0));
      event = ap (λ (o : Option Session). option_map
          (λ (s : Session). Open (Copied (params_of job)) s.login false (is_some call.area)) o) there
          ∙ ap (λ (l : Login). Some (Open (Copied (params_of job)) l false (is_some call.area))) login ∙ is;
      grows = ((Decides-eqb call.session member).0 here, comes.1);
    }
    by_test false here is = absurd cc
noted_runs (AllSessions its) app of notes tables call job came session shares comes named there login noted =
    of_all its app of call notes.next_session tables (params_of job) came shares.1 named noted

-- one that waits: of one session none does
pub noted_waits : (realm : Realm) (app of : Application) (notes : Notes) (tables : Tables) (call : PendingCall)
    (params : CopiedParams) (came : GroupEvent) → SharesAs realm app → call.uuid ≡ Some (uuid_of of)
    → open_of realm tables call (Waits params) ≡ Some came
    → NotedOpen realm app of call notes.next_session tables params came
noted_waits (OneSession member) app of notes tables call params came shares named noted = absurd cc
noted_waits (AllSessions its) app of notes tables call params came shares named noted =
    of_all its app of call notes.next_session tables params came shares.1 named noted

-- and one that a test has stopped: nor is any of these
pub record NotedStop (realm : Realm) (app of : Application) (call : PendingCall) (login : Login) (result : CallResult)
    (came : GroupEvent) : Type 0 where
  pub uuid : bytes_eq (uuid_of of) (uuid_of app) ≡ true
  pub event : settled_open_event login result (is_some call.area) ≡ came
  pub all : HasAll realm

pub noted_stops : (realm : Realm) (app of : Application) (call : PendingCall) (login : Login) (result : CallResult)
    (came : GroupEvent) → SharesAs realm app → call.uuid ≡ Some (uuid_of of)
    → settled_open_of realm call login result ≡ Some came → NotedStop realm app of call login result came
noted_stops (OneSession member) app of call login result came shares named noted = absurd cc
noted_stops (AllSessions its) app of call login result came shares named noted =
    let event : GroupEvent = settled_open_event login result (is_some call.area) in
    let parts = if_some (option_map_or (λ u. bytes_eq u (uuid_of its)) call.uuid false) (Some event) came noted in
    record {
      uuid = ap (λ (a : Application). bytes_eq (uuid_of of) (uuid_of a)) (sym shares.1)
          ∙ sym (ap (λ (o : Option (List ℕ)). option_map_or (λ u. bytes_eq u (uuid_of its)) o false) named) ∙ parts.0;
      event = some_event event came parts.1;
      all = tt;
    }
