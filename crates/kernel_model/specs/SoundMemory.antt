-- The memory of instances and of the jobs on them, in every kernel that a legal history comes to. This project's own.
use Rattle.std.specs.Prelude.{◌≡◌, ℕ, ◌*◌, ◌≤◌, if◌then◌else◌, [], length, Option, Some, None, IsSome, All, sum_by}
use Rattle.base.specs.NumberMap.{NumberMap, get}
use Rattle.job_model.specs.Job.{Body, Machine, Native, Nothing, Job}
use Rattle.kernel_model.specs.Application.{Booted}
use Rattle.kernel_model.specs.Instances.{app_of, pages_of}
use Rattle.kernel_model.specs.Kernel.{Instance, PendingCall, Tables}
use Rattle.kernel_model.specs.Sound.{Calls}
use Rattle.kernel_model.specs.SoundCalls.{job_in}

-- how many bytes of memory a job has
abbrev pub memory_in : Body → ℕ
memory_in (Machine image point machine) = length machine.memory
memory_in (Native relation func) = 0
memory_in Nothing = 0

-- how many an instance has: a dead one none
abbrev pub memory_of : Booted → Instance → ℕ
memory_of boot instance = if instance.dead then 0 else 4096 * pages_of boot instance.uuid

-- its memory is kept with it while no call holds it
abbrev pub KeepsMemory : Booted → Instance → Option ℕ → Type 0
KeepsMemory boot instance None = length instance.memory ≡ memory_of boot instance
KeepsMemory boot instance (Some slot) = instance.memory ≡ []

-- an instance of an application of the boot, with its memory
pub record IsInMemory (boot : Booted) (instance : Instance) : Type 0 where
  pub application : IsSome (app_of boot instance.uuid)
  pub memory : KeepsMemory boot instance instance.holder

-- the pages of all instances that aren't dead
abbrev pub pages_used : Booted → NumberMap Instance → ℕ
pages_used boot instances = sum_by (λ kept. if kept.1.dead then 0 else pages_of boot kept.1.uuid) instances

-- the memory of instances, and of the calls that work
pub record AreInMemory (boot : Booted) (calls : Calls) (tables : Tables) : Type 0 where
  pub instances : All (λ (kept : ℕ × Instance). IsInMemory boot kept.1) tables.instances
  -- the job of a call that works has the memory of its instance
  pub jobs : (slot : ℕ) (call : PendingCall) (job : Job) (instance : Instance) → calls slot ≡ Some call →
      job_in call.phase ≡ Some job → get tables.instances call.instance ≡ Some instance →
      memory_in job.body ≡ memory_of boot instance
  -- there are frames for all pages
  pub frames : pages_used boot tables.instances ≤ boot.frames
