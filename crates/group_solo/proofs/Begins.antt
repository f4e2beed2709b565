-- A call that begins holds the instance, and runs.
use Rattle.std.proofs.Common.{◌≡◌, ℕ, Bool, List, [], Option, Some, None, refl, sym, ap, subst, ◌∙◌}
use Rattle.std.specs.Prelude.{is_some, if◌then◌else◌}
use Rattle.std.specs.Option.{option_map}
use Rattle.base.specs.NumberMap.{NumberMap, get}
use Rattle.begin_call.specs.Begins.{begun_from}
use Rattle.group_model.specs.Group.{Group, GroupSession, Start, job_on, start_at}
use Rattle.job_model.specs.Beginning.{begun_job}
use Rattle.job_model.specs.Job.{Job}
use Rattle.job_model.specs.declared.entry_point.EntryPoint.{EntryPoint}
use Rattle.kernel_model.specs.Application.{Application, program_of, uuid_of}
use Rattle.kernel_model.specs.Instances.{held_by}
use Rattle.kernel_model.specs.Kernel.{Instance, Runs}
use Rattle.kernel_state.specs.Calls.{IsInPhase, IsWaiting, bytes_of}
use Rattle.kernel_state.specs.Setup.{application_of}
use Rattle.rpc_cont.specs.Beginning.{beginning_on}
use Rattle.rpc_cont.specs.Conts.{kept_memory}
use Rattle.rpc_cont.specs.declared.cont.Cont.{Cont}
use Rattle.rpc_cont.specs.declared.held.Held.{Held}
use Rattle.solo.specs.Beginning.{beginning_with}
use Rattle.solo.specs.declared.beginning.Ready.{Ready}
use Rattle.group_solo.specs.Beginning.{Beginner, HasStart, begun, from_start}
use Rattle.group_solo.specs.Calls.{IsGroupCall}
use Rattle.group_solo.specs.Standing.{ComesTo, IsBeside, app_in, session_of, sessions_of, shared_of, without_calls}
use Rattle.group_solo.specs.declared.group.GroupSolo.{GroupSolo}
use Rattle.group_solo.specs.declared.kept_call.KeptCall.{KeptCall}
use Rattle.group_solo.specs.declared.kept_session.KeptSession.{KeptSession}
use Rattle.group_solo.specs.declared.shared.Shared.{Shared}
use Rattle.tee_storage.specs.declared.handle.Handle.{Handle}

-- ---- what it finds

-- the code stands for a machine in which this call begins
pub record CanFind (s : GroupSolo) (g : Group) (call : KeptCall) (b : Beginner) : Type 0 where
  pub beside : IsBeside s g
  pub is : IsGroupCall call b.call
  pub session : get g.sessions b.call.session ≡ Some b.session
  pub there : g.instance ≡ Some b.there

-- its session, by the machine's map
own_session : (s : GroupSolo) (g : Group) (call : KeptCall) (b : Beginner) (found : Option GroupSession) → CanFind s g call b →
    found ≡ get (sessions_of s.sessions.items) call.session → found ≡ Some b.session
own_session s g call b found can is =
    is ∙ ap (λ (number : ℕ). get (sessions_of s.sessions.items) number) can.is.session
    ∙ ap (λ (base : Group). get base.sessions b.call.session) (sym can.beside) ∙ can.session

pub is_session : (s : GroupSolo) (g : Group) (call : KeptCall) (b : Beginner) (session : KeptSession) → CanFind s g call b →
    Some (session_of session) ≡ get (sessions_of s.sessions.items) call.session → session_of session ≡ b.session
is_session s g call b session can is =
    let found : Some (session_of session) ≡ Some b.session = own_session s g call b (Some (session_of session)) can is in cc

-- the instance is there
pub kept_there : (s : GroupSolo) (g : Group) (call : KeptCall) (b : Beginner) → CanFind s g call b → (without_calls s).instance ≡ Some b.there
kept_there s g call b can = sym (ap (λ (base : Group). base.instance) can.beside) ∙ can.there

some_there : {A B : Type 0} (f : A → B) (found : Option A) (a : A) (b : B) → found ≡ Some a → option_map f found ≡ Some b → f a ≡ b
some_there f None a b is e = absurd cc
some_there f (Some c) a b is e = let same : c ≡ a = cc in ap f (sym same) ∙ cc

pub is_dead : (s : GroupSolo) (g : Group) (call : KeptCall) (b : Beginner) (shared : Shared) → CanFind s g call b → s.instance ≡ Some shared →
    shared.kept.dead ≡ b.there.1.dead
is_dead s g call b shared can is =
    ap (λ (at : ℕ × Instance). at.1.dead) (some_there (shared_of (uuid_of (app_in s))) s.instance shared b.there is (kept_there s g call b can))

-- ---- what it begins with

-- the call with the login and the context of the session, and the machine's key
abbrev pub told_session : GroupSolo → KeptCall → KeptSession → Cont (List ℕ)
told_session s call session = record call.cont { login = session.login; context = session.context; key = s.key }

-- who begins
abbrev pub start_of : Group → Beginner → Start
start_of g b = start_at g b.number b.session b.params b.call.seen

pub has_start : (s : GroupSolo) (g : Group) (call : KeptCall) (b : Beginner) (session : KeptSession) (kept : NumberMap Handle) →
    CanFind s g call b → session_of session ≡ b.session → IsWaiting call.cont b.params → kept ≡ b.there.1.objects →
    HasStart (told_session s call session) kept (start_of g b) b.there.1
has_start s g call b session kept can found waits same = record {
  login = ap (λ (own : GroupSession). own.login) (sym found);
  context = ap (λ (own : GroupSession). own.context) (sym found);
  objects = sym same;
  params = sym waits.params;
  key = ap (λ (base : Group). base.key) can.beside;
}

-- what it begins on is what it finds
pub fits_start : (s : GroupSolo) (g : Group) (call : KeptCall) (b : Beginner) (ready : Ready) (dead : Bool) (memory : Option (List ℕ)) (held : Held (List ℕ)) →
    CanFind s g call b → dead ≡ b.there.1.dead → application_of ready.app ≡ app_in s → kept_memory bytes_of memory ≡ b.there.1.memory →
    ((seen : Bool) (job : Job) (points : List EntryPoint) → begun_job (beginning_on bytes_of held seen) job points
    ≡ begun_job (beginning_with ready dead memory seen) job points) → (job : Job) (points : List EntryPoint) →
    begun_job (beginning_on bytes_of held call.cont.cancelled) job points ≡ begun_job (from_start (app_in s) (start_of g b) b.there.1) job points
fits_start s g call b ready dead memory held can alike app same begins job points =
    begins call.cont.cancelled job points
    ∙ ap (λ (dead : Bool). begun_job (beginning_with ready dead memory call.cont.cancelled) job points) alike
    ∙ ap (λ (bytes : List ℕ). begun_job (record {
      program = if b.there.1.dead then None else Some (program_of (application_of ready.app));
      memory = bytes;
      seen = call.cont.cancelled;
    }) job points) same
    ∙ ap (λ (own : Application). begun_job (record {
      program = if b.there.1.dead then None else Some (program_of own);
      memory = b.there.1.memory;
      seen = call.cont.cancelled;
    }) job points) app
    ∙ ap (λ (seen : Bool). begun_job (record {
      program = if b.there.1.dead then None else Some (program_of (app_in s));
      memory = b.there.1.memory;
      seen = seen;
    }) job points) can.is.alone.seen

-- ---- it begins

-- all but the calls, with another instance
pub with_instance : (s held : GroupSolo) (g : Group) (there : ℕ × Instance) → held ≡ record s { instance = held.instance } →
    (without_calls held).instance ≡ Some there → IsBeside s g → record g { instance = Some there; calls = [] } ≡ without_calls held
with_instance s held g there stays is beside =
    ap (λ (base : Group). record base { instance = Some there }) beside
    ∙ ap (λ (found : Option (ℕ × Instance)). record (without_calls s) { instance = found }) (sym is)
    ∙ sym (subst (λ (h : GroupSolo). without_calls h ≡ record (without_calls s) { instance = (without_calls h).instance }) (sym stays) refl)

pub begun_so : (s held : GroupSolo) (call new : KeptCall) (g : Group) (b : Beginner) (session : KeptSession) (points : List EntryPoint) →
    CanFind s g call b → held ≡ record s { instance = held.instance } →
    (without_calls held).instance ≡ Some (b.there.0, held_by b.number b.there.1) →
    new ≡ record call { cont = new.cont } → new.cont ≡ begun_from (told_session s call session) new.cont →
    IsInPhase new.cont (Runs (job_on (app_in s) (start_of g b) b.there.1 points)) →
    ComesTo held new b.number g (begun (app_in s) g b points)
begun_so s held call new g b session points can stays holds same becomes runs = record {
  beside = with_instance s held g (b.there.0, held_by b.number b.there.1) stays holds can.beside;
  call = record b.call { phase = Runs (job_on (app_in s) (start_of g b) b.there.1 points) };
  is = record {
    alone = record {
      kind = ap (λ (c : Cont (List ℕ)). c.kind) becomes ∙ can.is.alone.kind;
      seen = ap (λ (c : Cont (List ℕ)). c.cancelled) becomes ∙ can.is.alone.seen;
      steps = ap (λ (c : Cont (List ℕ)). c.steps) becomes ∙ can.is.alone.steps;
      area = ap (λ (c : Cont (List ℕ)). is_some c.area) becomes ∙ can.is.alone.area;
      buffer = ap (λ (c : Cont (List ℕ)). is_some c.buffer) becomes ∙ can.is.alone.buffer;
      phase = runs;
    };
    session = ap (λ (k : KeptCall). k.session) same ∙ can.is.session;
    instance = ap (λ (k : KeptCall). k.instance) same ∙ can.is.instance;
    room = ap (λ (k : KeptCall). k.room) same ∙ can.is.room;
  };
  calls = refl;
}
