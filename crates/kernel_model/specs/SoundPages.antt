-- The pages of machines, in every kernel that a legal history comes to. This project's own.
use Rattle.std.specs.Prelude.{◌≡◌, ℕ, ◌*◌, length, Some}
use Rattle.job_model.specs.Job.{Body, Machine, Native, Nothing, Job}
use Rattle.kernel_model.specs.Kernel.{PendingCall}
use Rattle.kernel_model.specs.Sound.{Calls}
use Rattle.kernel_model.specs.SoundCalls.{job_in}

-- a machine's memory is the pages of its image
abbrev pub HasItsPages : Body → Type 0
HasItsPages (Machine image point machine) = length machine.memory ≡ 4096 * image.pages
HasItsPages (Native relation func) = Unit {0}
HasItsPages Nothing = Unit {0}

-- of each call that works
abbrev pub HaveTheirPages : Calls → Type 0
HaveTheirPages calls = (slot : ℕ) (call : PendingCall) (job : Job) → calls slot ≡ Some call →
    job_in call.phase ≡ Some job → HasItsPages job.body
