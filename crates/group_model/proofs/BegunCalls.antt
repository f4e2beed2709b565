-- What an open that begins takes its slot for, and the machine then: the same job, on an instance of these numbers.
use Rattle.std.proofs.Common.{ℕ}
use Rattle.std.specs.Prelude.{is_some}
use Rattle.base.specs.NumberMap.{NumberMap, insert}
use Rattle.job_model.specs.Job.{Job}
use Rattle.kernel_model.specs.Argument.{Opening}
use Rattle.kernel_model.specs.Begin.{Begun, with_instance}
use Rattle.kernel_model.specs.Kernel.{Instance, Tables}
use Rattle.kernel_model.specs.NewCall.{NewCall, opener}
use Rattle.group_model.specs.Group.{Group, Opener}
use Rattle.group_model.specs.Group.{open_begins}
use Rattle.group_model.specs.Group as machine

-- ---- an open

-- it has begun so, on an instance of this number
abbrev pub begun_on : NewCall → NumberMap Instance → ℕ → ℕ → Job → Begun
begun_on c instances next number job =
    record { tables = record c.tables { instances = instances; next_instance = next }; instance = number; job = job }

abbrev pub opener_of : NewCall → Opening → Opener
opener_of c wanted = record { login = wanted.login; area = is_some c.area }

-- the numbers as they are when it begins: of the kernel's and the machine's next instance
pub record Numbers : Type 0 where
  pub next : ℕ
  pub own_next : ℕ

abbrev pub tables_at : NewCall → Numbers → Tables
tables_at c numbers = record c.tables { next_instance = numbers.next }

abbrev pub group_at : Group → Numbers → Group
group_at g numbers = record g { next_instance = numbers.own_next }

-- the instance on which it begins, the kernel's and the machine's, with the jobs
pub record On : Type 0 where
  pub number : ℕ
  pub own_number : ℕ
  pub kept : Instance
  pub own : Instance
  pub job : Job
  pub own_job : Job

-- what it has begun, and the machine then
abbrev pub begun_with : NewCall → Numbers → On → Begun
begun_with c numbers on =
    begun_on c (insert c.tables.instances on.number on.kept) numbers.next on.number on.job

abbrev pub own_begun : Group → Opener → Numbers → On → Group
own_begun g opener numbers on =
    open_begins (group_at g numbers) opener (record {
      group = machine.with_instance (group_at g numbers) on.own_number on.own;
      instance = on.own_number;
      job = on.own_job;
    })
