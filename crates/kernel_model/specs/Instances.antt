-- Instances of applications: their pages, who holds one, and the job that a call begins on one. By the instance
-- properties of the TEE Internal Core API; pages and numbers are own.
use Rattle.std.specs.Prelude.{ℕ, ◌-◌, ◌*◌, ◌==◌, Bool, true, false, not, ◌||◌, ◌&&◌, if◌then◌else◌, List, [], ◌∷◌}
use Rattle.std.specs.Prelude.{Option, Some, None, find, sum_by, bytes_eq, is_some}
use Rattle.std.specs.Int.{bit_at}
use Rattle.std.specs.Option.{option_map, option_map_or}
use Rattle.base.specs.NumberMap.{NumberMap, insert, remove}
use Rattle.base.specs.Zeros.{zeros}
use Rattle.job_model.specs.Beginning.{Program}
use Rattle.job_model.specs.declared.entry_point.EntryPoint.{EntryPoint}
use Rattle.job_model.specs.declared.entry_point.EntryPoint.TheVariants.{Destroy}
use Rattle.session_table.specs.declared.session.Session.{Session}
use Rattle.kernel_model.specs.Application.{Application, Booted, uuid_of, flags_of, pages_in, program_of}
use Rattle.tee_storage.specs.declared.handle.Handle.{Handle}
use Rattle.kernel_model.specs.Kernel.{Instance}
use Rattle.kernel_model.specs.Sessions.{has_opened}

-- ---- instance flags

-- an instance flag of the application, by its bit
abbrev pub has_flag : Application → ℕ → Bool
has_flag app bit = bit_at (flags_of app) bit == 1

-- all sessions of the application share one instance
abbrev pub is_single : Application → Bool
is_single app = has_flag app 2

-- several sessions may be open on it; without effect where it isn't shared
abbrev pub is_multi_session : Application → Bool
is_multi_session app = has_flag app 3

-- the shared instance outlives its last session
abbrev pub keeps_alive : Application → Bool
keeps_alive app = is_single app && has_flag app 4

-- ---- applications and pages

-- the application of a UUID, where the boot names one
abbrev pub app_of : Booted → List ℕ → Option Application
app_of boot uuid = find (λ app. bytes_eq (uuid_of app) uuid) boot.apps

-- how many pages an instance of the UUID's application has
abbrev pub pages_of : Booted → List ℕ → ℕ
pages_of boot uuid = option_map_or pages_in (app_of boot uuid) 0

-- the frames that no instance has; a dead one has none
abbrev pub free_pages : Booted → NumberMap Instance → ℕ
free_pages boot instances =
    boot.frames - sum_by (λ kept. if kept.1.dead then 0 else pages_of boot kept.1.uuid) instances

-- the memory of a new instance of so many pages
abbrev pub fresh_memory : ℕ → List ℕ
fresh_memory pages = zeros (4096 * pages)

-- ---- one instance

-- a new one, held by the call of this slot
abbrev pub made_for : List ℕ → ℕ → Instance
made_for uuid slot = record { uuid = uuid; dead = false; holder = Some slot; memory = []; objects = [] }

-- held by the call of this slot, whose job has memory and objects
abbrev pub held_by : ℕ → Instance → Instance
held_by slot instance = record instance { holder = Some slot; memory = []; objects = [] }

-- as its call gives it back
abbrev pub given_back : List ℕ → NumberMap Handle → Instance → Instance
given_back memory objects instance = record instance { holder = None; memory = memory; objects = objects }

-- after a panic
abbrev pub killed : Instance → Instance
killed instance = record instance { dead = true; holder = None; memory = []; objects = [] }

-- a call holds it
abbrev pub is_held : Instance → Bool
is_held instance = is_some instance.holder

-- the instance that an open of the application shares, with its number: of a single-instance one, the first kept
abbrev pub shared_instance : NumberMap Instance → Application → Option (ℕ × Instance)
shared_instance instances app =
    if is_single app then find (λ kept. bytes_eq kept.1.uuid (uuid_of app)) instances else None

-- ---- the entry points of a call

-- what a call begins on on a kept instance: of a dead one nothing runs
abbrev pub program_on : Booted → Instance → Option Program
program_on boot instance = if instance.dead then None else option_map program_of (app_of boot instance.uuid)

-- destroy, where none of these sessions of the instance is opened, and it isn't kept alive
abbrev pub destroy_after : Application → NumberMap Session → ℕ → List EntryPoint
destroy_after app sessions instance = if has_opened sessions instance || keeps_alive app then [] else Destroy ∷ []

-- the same of the UUID's application
abbrev pub destroy_of : Booted → List ℕ → NumberMap Session → ℕ → List EntryPoint
destroy_of boot uuid sessions instance =
    option_map_or (λ app. destroy_after app sessions instance) (app_of boot uuid) []

-- ---- the end of a call

-- the instances after a call has given this one back: it is removed at its end, and where it is dead and none of these
-- sessions of it is opened
abbrev pub instances_after : NumberMap Session → NumberMap Instance → ℕ → Bool → Instance → NumberMap Instance
instances_after sessions instances number is_last instance =
    if is_last || (instance.dead && not (has_opened sessions number))
    then remove instances number
    else insert instances number instance
