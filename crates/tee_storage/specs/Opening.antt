-- The creating and opening of an object. This project's own.
use Rattle.std.specs.Prelude.{ℕ, List, [], ◌++◌, Option, Some, None, if◌then◌else◌}
use Rattle.base.specs.NumberMap.{insert}
use Rattle.rpc_msgs.specs.declared.rpc.Rpc.TheVariants.{FsOpen, FsCreate, FsRead, FsWrite}
use Rattle.rpc_msgs.specs.declared.rpc.RpcReply.{RpcReply}
use Rattle.tee_storage.specs.declared.handle.FileFormat.TheVariants.{Tagged}
use Rattle.tee_storage.specs.declared.handle.Handle.{Handle}
use Rattle.tee_storage.specs.declared.object_file.Header.{Header}
use Rattle.tee_storage.specs.declared.opening.FileCall.{FileCall}
use Rattle.tee_storage.specs.declared.opening.FileCall.TheVariants.{Create, Open}
use Rattle.tee_storage.specs.Handles.{lowest_free}
use Rattle.tee_storage.specs.ObjectFiles.{is_id_length, file_name, header, header_of}
use Rattle.tee_storage.specs.Program.{Now, Program, ends_with, fails}
use Rattle.tee_storage.specs.Replies.{asks, is_whole}
use Rattle.tee_storage.specs.Tags.{first_tag}

-- the call's own tests: BAD_PARAMETERS by the length of the id, then BAD_STATE where no handle is free
abbrev pub with_number : Option ℕ → Now → (ℕ → Program) → Program
with_number None now onward = fails 0xffff0007 now
with_number (Some number) now onward = onward number

abbrev pub with_handle : ℕ → Now → (ℕ → Program) → Program
with_handle len now onward =
    if is_id_length len then with_number (lowest_free now.objects) now onward else fails 0xffff0006 now

-- the object is open
abbrev pub opened : List ℕ → ℕ → ℕ → Header → Now → Program
opened name number fd header now =
    let object : Handle =
    record { name = name; fd = fd; length = header.length; position = 0; format = header.format } in
    ends_with number (record now { objects = insert now.objects number object })

-- ---- the file of a create

-- the header of length 0, and the tag
abbrev pub first_bytes : List ℕ → List ℕ → List ℕ
first_bytes key name = header 0 ++ first_tag key name

abbrev pub empty_object : Header
empty_object = record { format = Tagged; length = 0 }

abbrev pub writing_first : List ℕ → List ℕ → ℕ → ℕ → Now → Program
writing_first key name number fd now =
    asks (FsWrite fd 0 40) (first_bytes key name) now (λ written. opened name number fd empty_object now)

abbrev pub creating : List ℕ → List ℕ → Now → ℕ → Program
creating key name now number = asks (FsCreate name) name now (λ created. writing_first key name number created.v now)

-- ---- the file of an open

-- the header that was read, if it is one, and else CORRUPT_OBJECT
abbrev pub header_in : RpcReply → Option Header
header_in reply = if is_whole reply 8 then header_of reply.bytes else None

abbrev pub opened_as : Option Header → List ℕ → ℕ → ℕ → Now → Program
opened_as None name number fd now = fails 0xf0100001 now
opened_as (Some header) name number fd now = opened name number fd header now

abbrev pub reading_header : List ℕ → ℕ → ℕ → Now → Program
reading_header name number fd now = asks (FsRead fd 0 8) [] now (λ reply. opened_as (header_in reply) name number fd now)

abbrev pub opening : List ℕ → Now → ℕ → Program
opening name now number = asks (FsOpen name) name now (λ reply. reading_header name number reply.v now)

-- ---- both calls, which differ in what they ask of the file alone

abbrev pub asking : FileCall → List ℕ → List ℕ → Now → ℕ → Program
asking Create key name now number = creating key name now number
asking Open key name now number = opening name now number

abbrev pub on_file : FileCall → List ℕ → List ℕ → ℕ → Now → Program
on_file call uuid key len now = with_handle len now (asking call key (file_name uuid now.range) now)
