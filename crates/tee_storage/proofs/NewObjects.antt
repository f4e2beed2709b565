-- What the tests at a create or an open lead to.
use Rattle.std.proofs.Common.{◌≡◌, ℕ, Bool, true, false, List, Option, Some, None, Result, Ok, Err, refl}
use Rattle.std.specs.Prelude.{if◌then◌else◌}
use Rattle.tee_storage.specs.declared.opening.FileCall.{FileCall}
use Rattle.tee_storage.specs.declared.waits.NewObject.{NewObject}
use Rattle.tee_storage.specs.Handles.{lowest_free}
use Rattle.tee_storage.specs.ObjectFiles.{file_name, is_id_length}
use Rattle.tee_storage.specs.Opening.{asking, on_file, with_number}
use Rattle.tee_storage.specs.Program.{Now, Program, fails}
use Rattle.tee_storage.specs.States.{new_object, numbered}

-- the request for the file, or the result that the tests give
abbrev pub asked : FileCall → List ℕ → Now → Result NewObject ℕ → Program
asked call key now (Ok new) = asking call key new.name now new.number
asked call key now (Err code) = fails code now

by_tests : (call : FileCall) (key name : List ℕ) (now : Now) (fits : Bool) (free : Option ℕ)
    → (if fits then with_number free now (asking call key name now) else fails 0xffff0006 now)
    ≡ asked call key now (if fits then numbered name free else Err 0xffff0006)
by_tests call key name now true None = refl
by_tests call key name now true (Some number) = refl
by_tests call key name now false free = refl

pub on_file_asks : (call : FileCall) (uuid key : List ℕ) (len : ℕ) (now : Now) → on_file call uuid key len now ≡ asked call key now (new_object uuid len now)
on_file_asks call uuid key len now = by_tests call key (file_name uuid now.range) now (is_id_length len) (lowest_free now.objects)
