-- A call that begins holds the instance, and runs.
use Rattle.std.proofs.Common.{◌≡◌, ℕ, Bool, List, [], Option, Some, None, refl, sym, ap, subst, ◌∙◌}
use Rattle.std.specs.Prelude.{is_some, if◌then◌else◌}
use Rattle.std.specs.Option.{option_map}
use Rattle.base.specs.NumberMap.{NumberMap}
use Rattle.begin_call.specs.Begins.{begun_from}
use Rattle.job_model.specs.Beginning.{begun_job}
use Rattle.job_model.specs.Job.{Job}
use Rattle.job_model.specs.declared.call_kind.CallKind.{CallKind}
use Rattle.job_model.specs.declared.entry_point.EntryPoint.{EntryPoint}
use Rattle.kernel_model.specs.Application.{Application, program_of}
use Rattle.kernel_model.specs.Instances.{held_by}
use Rattle.kernel_model.specs.Kernel.{Instance, Runs}
use Rattle.kernel_state.specs.Calls.{IsInPhase, IsWaiting, bytes_of}
use Rattle.kernel_state.specs.Setup.{application_of}
use Rattle.own_model.specs.Solo.{OwnCall, OwnSession, Solo, begins, home, job_of}
use Rattle.rpc_cont.specs.Beginning.{beginning_on}
use Rattle.rpc_cont.specs.Conts.{kept_memory}
use Rattle.rpc_cont.specs.declared.cont.Cont.{Cont}
use Rattle.rpc_cont.specs.declared.held.Held.{Held}
use Rattle.solo.proofs.Starting.{at_home}
use Rattle.solo.specs.Beginning.{HasStart, beginning_with, from_start, start_of}
use Rattle.solo.specs.Calls.{IsCall}
use Rattle.solo.specs.Standing.{ComesTo, IsBeside, app_in, instance_of, session_of, without_calls}
use Rattle.solo.specs.declared.beginning.Ready.{Ready}
use Rattle.solo.specs.declared.kept_instance.KeptInstance.{KeptInstance}
use Rattle.solo.specs.declared.kept_session.KeptSession.{KeptSession}
use Rattle.solo.specs.declared.solo_session.SoloSession.{SoloSession}
use Rattle.ta_params.specs.declared.copied_params.CopiedParams.{CopiedParams}
use Rattle.tee_storage.specs.declared.handle.Handle.{Handle}

-- ---- home

-- the session and the instance that are at home are those of the code
pub kept_home : (s : SoloSession) (solo : Solo) (at : OwnSession × Instance) → IsBeside s solo → home solo ≡ Some at →
    ((without_calls s).session ≡ Some at.0) × ((without_calls s).instance ≡ Some at.1)
kept_home s solo at beside e =
    let both = at_home solo at e in
    (sym (ap (λ (base : Solo). base.session) beside) ∙ both.0, sym (ap (λ (base : Solo). base.instance) beside) ∙ both.1)

some_there : {A B : Type 0} (f : A → B) (found : Option A) (a : A) (b : B) → found ≡ Some a → option_map f found ≡ Some b → f a ≡ b
some_there f None a b is e = absurd cc
some_there f (Some c) a b is e = let same : c ≡ a = cc in ap f (sym same) ∙ cc

-- ---- what it begins with

-- the session and the instance that it finds
pub record Finds (s : SoloSession) (session : KeptSession) (instance : KeptInstance) (at : OwnSession × Instance) : Type 0 where
  pub own : session_of session ≡ at.0
  pub alike : instance.dead ≡ at.1.dead
  pub kept : (without_calls s).instance ≡ Some at.1

pub finds : (s : SoloSession) (solo : Solo) (session : KeptSession) (instance : KeptInstance) (at : OwnSession × Instance) → s.session ≡ Some session →
    s.instance ≡ Some instance → IsBeside s solo → home solo ≡ Some at → Finds s session instance at
finds s solo session instance at is found beside e =
    let both = kept_home s solo at beside e in record {
      own = some_there session_of s.session session at.0 is both.0;
      alike = ap (λ (i : Instance). i.dead) (some_there (instance_of _) s.instance instance at.1 found both.1);
      kept = both.1;
    }

-- the call with the login and the context of the session, and the machine's key
abbrev pub told_session : SoloSession → Cont (List ℕ) → KeptSession → Cont (List ℕ)
told_session s cont session = record cont { login = session.login; context = session.context; key = s.key }

pub has_start : (s : SoloSession) (solo : Solo) (cont : Cont (List ℕ)) (session : KeptSession) (instance : KeptInstance) (at : OwnSession × Instance) (params : CopiedParams)
    (kept : NumberMap Handle) → IsBeside s solo → Finds s session instance at → IsWaiting cont params → kept ≡ at.1.objects →
    HasStart (told_session s cont session) kept (start_of solo at params cont)
has_start s solo cont session instance at params kept beside found waits same = record {
  login = ap (λ (own : OwnSession). own.login) (sym found.own);
  context = ap (λ (own : OwnSession). own.context) (sym found.own);
  objects = sym same;
  params = sym waits.params;
  key = ap (λ (base : Solo). base.key) beside;
}

-- what it begins on is what it finds
pub fits_start : (s : SoloSession) (solo : Solo) (cont : Cont (List ℕ)) (session : KeptSession) (instance : KeptInstance) (at : OwnSession × Instance) (params : CopiedParams)
    (ready : Ready) (memory : Option (List ℕ)) (held : Held (List ℕ)) → Finds s session instance at → application_of ready.app ≡ app_in s →
    kept_memory bytes_of memory ≡ at.1.memory →
    ((seen : Bool) (job : Job) (points : List EntryPoint) → begun_job (beginning_on bytes_of held seen) job points
    ≡ begun_job (beginning_with ready instance.dead memory seen) job points) → (job : Job) (points : List EntryPoint) →
    begun_job (beginning_on bytes_of held cont.cancelled) job points ≡ begun_job (from_start (app_in s) (start_of solo at params cont)) job points
fits_start s solo cont session instance at params ready memory held found app same begins job points =
    begins cont.cancelled job points
    ∙ ap (λ (dead : Bool). begun_job (beginning_with ready dead memory cont.cancelled) job points) found.alike
    ∙ ap (λ (bytes : List ℕ). begun_job (record {
      program = if at.1.dead then None else Some (program_of (application_of ready.app));
      memory = bytes;
      seen = cont.cancelled;
    }) job points) same
    ∙ ap (λ (own : Application). begun_job (record {
      program = if at.1.dead then None else Some (program_of own);
      memory = at.1.memory;
      seen = cont.cancelled;
    }) job points) app

-- ---- it begins

-- all but the calls, with another instance
with_instance : (s held : SoloSession) (solo : Solo) (instance : Instance) → held ≡ record s { instance = held.instance } →
    (without_calls held).instance ≡ Some instance → IsBeside s solo → record solo { instance = Some instance; calls = [] } ≡ without_calls held
with_instance s held solo instance stays is beside =
    ap (λ (base : Solo). record base { instance = Some instance }) beside
    ∙ ap (λ (found : Option Instance). record (without_calls s) { instance = found }) (sym is)
    ∙ sym (subst (λ (h : SoloSession). without_calls h ≡ record (without_calls s) { instance = (without_calls h).instance }) (sym stays) refl)

pub begun_so : (s held : SoloSession) (cont new : Cont (List ℕ)) (solo : Solo) (call : OwnCall) (session : KeptSession) (at : OwnSession × Instance)
    (params : CopiedParams) (number : ℕ) → IsBeside s solo → IsCall cont call → held ≡ record s { instance = held.instance } →
    (without_calls held).instance ≡ Some (held_by number at.1) → new ≡ begun_from (told_session s cont session) new →
    IsInPhase new (Runs (job_of (app_in s) cont.kind (start_of solo at params cont))) →
    ComesTo held new number solo (begins (app_in s) solo number call (start_of solo at params cont))
begun_so s held cont new solo call session at params number beside is stays holds becomes runs = record {
  beside = with_instance s held solo (held_by number at.1) stays holds beside;
  call = record call { phase = Runs (job_of (app_in s) call.kind (start_of solo at params cont)) };
  is = record {
    kind = ap (λ (c : Cont (List ℕ)). c.kind) becomes ∙ is.kind;
    seen = ap (λ (c : Cont (List ℕ)). c.cancelled) becomes ∙ is.seen;
    steps = ap (λ (c : Cont (List ℕ)). c.steps) becomes ∙ is.steps;
    area = ap (λ (c : Cont (List ℕ)). is_some c.area) becomes ∙ is.area;
    buffer = ap (λ (c : Cont (List ℕ)). is_some c.buffer) becomes ∙ is.buffer;
    phase = subst (λ (kind : CallKind). IsInPhase new (Runs (job_of (app_in s) kind (start_of solo at params cont)))) is.kind runs;
  };
  calls = refl;
}
