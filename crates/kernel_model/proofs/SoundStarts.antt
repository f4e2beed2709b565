-- What holds of the body of a job that begins, by the program and the memory that it begins on.
use Rattle.std.proofs.Common.{◌≡◌, ℕ, Bool, List, [], ◌∷◌, Option, Some, None, refl, subst, sym}
use Rattle.job_model.specs.Beginning.{Program, begun_job}
use Rattle.job_model.specs.Beginning as program
use Rattle.job_model.specs.Job.{Body, Job, Machine, Native, Nothing, idle_job}
use Rattle.job_model.specs.declared.entry_point.EntryPoint.{EntryPoint}
use Rattle.job_model.specs.declared.entry_point.EntryPoint.TheVariants.{Create, Open, Invoke, Close, Destroy}
use Rattle.job_model.specs.Owner.{owner_of}
use Rattle.native_tas.specs.declared.relation.Relation.{Relation}
use Rattle.session_table.specs.declared.session.Session.{Session}
use Rattle.ta_params.specs.declared.copied_params.CopiedParams.{CopiedParams}
use Rattle.ta_step.specs.State.{State}
use Rattle.kernel_model.specs.Application.{pages_in, program_of, uuid_of}
use Rattle.kernel_model.specs.Begin.{Beginner, Opener, begins_on, opens_kept, opens_new}
use Rattle.kernel_model.specs.Instances.{fresh_memory, program_on}
use Rattle.kernel_model.specs.Kernel.{Instance}

abbrev pub OfBody : Type 1
OfBody = Body → Type 0

-- it holds of each body that begins on this program and this memory
abbrev pub Starts : OfBody → Option Program → List ℕ → Type 0
Starts So None memory = So Nothing
Starts So (Some (program.OfImage image)) memory = (point : EntryPoint) (machine : State) → machine.memory ≡ memory → So (Machine image point machine)
Starts So (Some (program.OfRelation relation)) memory = So Nothing × ((func : ℕ) → So (Native relation func))

module _ (So : OfBody) where
  native_starts : (relation : Relation) (job : Job) (first : EntryPoint) (behind : List EntryPoint) (memory : List ℕ) (seen : Bool) → job.body ≡ Nothing
      → Starts So (Some (program.OfRelation relation)) memory
      → So (begun_job (record { program = Some (program.OfRelation relation); memory = memory; seen = seen }) job (first ∷ behind)).body
  native_starts relation job Create behind memory seen idle starts = subst So (sym idle) starts.0
  native_starts relation job Open behind memory seen idle starts = subst So (sym idle) starts.0
  native_starts relation job (Invoke func) behind memory seen idle starts = starts.1 func
  native_starts relation job Close behind memory seen idle starts = subst So (sym idle) starts.0
  native_starts relation job Destroy behind memory seen idle starts = subst So (sym idle) starts.0

  begun_starts : (found : Option Program) (memory : List ℕ) (seen : Bool) (job : Job) (first : EntryPoint) (behind : List EntryPoint) → job.body ≡ Nothing
      → Starts So found memory → So (begun_job (record { program = found; memory = memory; seen = seen }) job (first ∷ behind)).body
  begun_starts None memory seen job first behind idle starts = subst So (sym idle) starts
  begun_starts (Some (program.OfImage image)) memory seen job first behind idle starts = starts first _ refl
  begun_starts (Some (program.OfRelation relation)) memory seen job first behind idle starts =
      native_starts relation job first behind memory seen idle starts

  pub kept_starts : (who : Beginner) (brought : Opener) (kept : ℕ × Instance) → Starts So (Some (program_of brought.app)) kept.1.memory
      → So (opens_kept who brought kept).job.body
  kept_starts who brought kept starts =
      begun_starts (Some (program_of brought.app)) kept.1.memory who.seen (idle_job (owner_of (uuid_of brought.app) who.boot.key) brought.login 0 kept.1.objects brought.params)
      Open _ refl starts

  pub made_starts : (who : Beginner) (brought : Opener) (number next : ℕ) → Starts So (Some (program_of brought.app)) (fresh_memory (pages_in brought.app))
      → So (opens_new who brought number next).job.body
  made_starts who brought number next starts =
      begun_starts (Some (program_of brought.app)) (fresh_memory (pages_in brought.app)) who.seen (idle_job (owner_of (uuid_of brought.app) who.boot.key) brought.login 0 [] brought.params)
      Create _ refl starts

  pub session_starts : (who : Beginner) (session : Session) (instance : Instance) (params : CopiedParams) (first : EntryPoint) (behind : List EntryPoint)
      → Starts So (program_on who.boot instance) instance.memory → So (begins_on who session instance params (first ∷ behind)).job.body
  session_starts who session instance params first behind starts =
      begun_starts (program_on who.boot instance) instance.memory who.seen (idle_job (owner_of instance.uuid who.boot.key) session.login session.context instance.objects params)
      first behind refl starts
