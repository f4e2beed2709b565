-- What a call on an object comes to. This project's own, after the persistent objects of the GlobalPlatform TEE
-- Internal Core API.
use Rattle.std.specs.Prelude.{ℕ, List, Option, Some, None, is_none, if◌then◌else◌}
use Rattle.std.specs.Option.{option_map}
use Rattle.base.specs.NumberMap.{NumberMap, get}
use Rattle.rpc_msgs.specs.Answer.{RpcAnswer}
use Rattle.ta_params.specs.declared.object_call.ObjectCall.{ObjectCall}
use Rattle.ta_params.specs.declared.object_call.ObjectCall.TheVariants.{Create, Opened, Read, Write, Seek, Close, Delete}
use Rattle.tee_storage.specs.declared.handle.Handle.{Handle}
use Rattle.tee_storage.specs.declared.step.StorageStep.{StorageStep}
use Rattle.tee_storage.specs.declared.step.StorageStep.TheVariants.{Ask, Done, Panic}
use Rattle.tee_storage.specs.declared.opening.FileCall.TheVariants as file
use Rattle.tee_storage.specs.Opening.{on_file}
use Rattle.tee_storage.specs.OpenObjects.{read, write, seek, close, delete}
use Rattle.tee_storage.specs.Program.{Now, now_at, Program, Asks, Ends, after}

-- the next step of a call, with the bytes of the memory range that it names and the open objects as they then are
pub record Serving : Type 0 where
  pub step : StorageStep
  pub range : List ℕ
  pub objects : NumberMap Handle

-- how many bytes the range of a call has
abbrev pub range_len : ObjectCall → ℕ
range_len (Create id len) = len
range_len (Opened id len) = len
range_len (Read handle addr len) = len
range_len (Write handle addr len) = len
range_len (Seek handle position) = 0
range_len (Close handle) = 0
range_len (Delete handle) = 0

-- what the call of an application of this UUID does, under this key of tags
abbrev pub program_of : ObjectCall → List ℕ → List ℕ → Now → Program
program_of (Create id len) uuid key now = on_file file.Create uuid key len now
program_of (Opened id len) uuid key now = on_file file.Open uuid key len now
program_of (Read handle addr len) uuid key now = read key handle len now
program_of (Write handle addr len) uuid key now = write key handle len now
program_of (Seek handle position) uuid key now = seek handle position now
program_of (Close handle) uuid key now = close handle now
program_of (Delete handle) uuid key now = delete handle now

-- the step that a program is at
abbrev pub shown : Program → Serving
shown (Asks rpc payload now onward) = record { step = Ask rpc payload; range = now.range; objects = now.objects }
shown (Ends step now) = record { step = step; range = now.range; objects = now.objects }

-- what is left of a call after these answers to its requests, by the range and the objects at the call
abbrev pub left_of : ObjectCall → List ℕ → List ℕ → List ℕ → NumberMap Handle → List RpcAnswer → Option Program
left_of call uuid key range objects answers = after (Some (program_of call uuid key (now_at range objects))) answers

-- the step of a call after these answers, by the range and the objects at the call; none where the answers go on
-- behind the end
abbrev pub serving : ObjectCall → List ℕ → List ℕ → List ℕ → NumberMap Handle → List RpcAnswer → Option Serving
serving call uuid key range objects answers = option_map shown (left_of call uuid key range objects answers)

-- ---- panics

-- the code with which the application panics, if it does
abbrev pub panic_code : StorageStep → Option ℕ
panic_code (Ask rpc payload) = None
panic_code (Done result value) = None
panic_code (Panic code) = Some code

-- a call that names a handle panics, with 5, exactly where no object is open of it
abbrev pub panic_at : NumberMap Handle → ℕ → Option ℕ
panic_at objects handle = if is_none (get objects handle) then Some 5 else None

abbrev pub panic_of : ObjectCall → NumberMap Handle → Option ℕ
panic_of (Create id len) objects = None
panic_of (Opened id len) objects = None
panic_of (Read handle addr len) objects = panic_at objects handle
panic_of (Write handle addr len) objects = panic_at objects handle
panic_of (Seek handle position) objects = panic_at objects handle
panic_of (Close handle) objects = panic_at objects handle
panic_of (Delete handle) objects = panic_at objects handle
