-- The calls on an open object: to read, write, seek, close and delete it. This project's own.
use Rattle.std.specs.Prelude.{ℕ, ◌+◌, ◌-◌, ◌==◌, ◌&&◌, ◌||◌, not, nat_lt, min, max, List, [], ◌∷◌, length, take, Option, Some, None, if◌then◌else◌}
use Rattle.base.specs.NumberMap.{get, insert, remove}
use Rattle.rpc_msgs.specs.declared.rpc.Rpc.TheVariants.{FsClose, FsRead, FsWrite, FsRemove}
use Rattle.tee_storage.specs.declared.handle.FileFormat.TheVariants.{Tagged}
use Rattle.tee_storage.specs.declared.handle.Handle.{Handle}
use Rattle.tee_storage.specs.declared.step.StorageStep.TheVariants.{Panic}
use Rattle.base.specs.Bytes.{overwritten}
use Rattle.tee_storage.specs.KeptData.{Storing, storing_none, storing_between, reading_data}
use Rattle.tee_storage.specs.ObjectFiles.{Piece, pieces, bytes_of, header, offset_of}
use Rattle.tee_storage.specs.Program.{Now, Program, Asks, Ends, ends_with, fails}
use Rattle.tee_storage.specs.Replies.{asks, is_whole, unless_failed}
use Rattle.tee_storage.specs.Tags.{checking, is_tagged, kept_tag, tag_of, tag_offset}

-- a call on an object panics with 5 where none is open of its handle
abbrev pub on_found : Option Handle → Now → (Handle → Program) → Program
on_found None now onward = Ends (Panic 5) now
on_found (Some object) now onward = onward object

abbrev pub on_object : ℕ → Now → (Handle → Program) → Program
on_object handle now onward = on_found (get now.objects handle) now onward

-- the object of the handle is now this
abbrev pub with_object : Now → ℕ → Handle → Now
with_object now handle object = record now { objects = insert now.objects handle object }

-- ---- read

-- where the object is read next
abbrev pub read_to : Handle → ℕ → Handle
read_to object len = record object { position = object.position + len }

-- the bytes are read, and the position moves behind them
abbrev pub all_read : ℕ → Handle → ℕ → Now → Program
all_read handle object len now = ends_with len (with_object now handle (read_to object len))

-- without a tag one piece after the other, of so many bytes in all; each piece stands in the range as soon as it is read.
-- One of another size is CORRUPT_OBJECT
abbrev pub reading : ℕ → Handle → ℕ → List Piece → Now → Program
reading handle object len [] now = all_read handle object len now
reading handle object len (piece ∷ others) now =
    asks (FsRead object.fd (offset_of (object.position + piece.start)) piece.len) [] now (λ reply.
    if is_whole reply piece.len
    then reading handle object len others (record now { range = overwritten now.range piece.start reply.bytes })
    else fails 0xf0100001 now)

-- with a tag, what follows behind all of the data
abbrev pub read_checked : List ℕ → ℕ → Handle → ℕ → List ℕ → Now → Program
read_checked key handle object len content now =
    checking object (kept_tag key object content) now (all_read handle object len now)

-- what a read stores of the data
abbrev pub storing_read : Handle → ℕ → Storing
storing_read object len = storing_between object.position (object.position + len)

-- and with a tag the whole data, and the tag
abbrev pub reading_checked : List ℕ → ℕ → Handle → ℕ → Now → Program
reading_checked key handle object len now =
    reading_data object (storing_read object len) (pieces object.length) [] now (read_checked key handle object len)

-- no more than stands behind the position
abbrev pub readable : Handle → ℕ → ℕ
readable object len = min len (object.length - object.position)

-- so many bytes; where they are none, nothing is asked
abbrev pub read_some : List ℕ → ℕ → Handle → ℕ → Now → Program
read_some key handle object len now =
    if is_tagged object && nat_lt 0 len
    then reading_checked key handle object len now
    else reading handle object len (pieces len) now

abbrev pub read : List ℕ → ℕ → ℕ → Now → Program
read key handle len now = on_object handle now (λ object. read_some key handle object (readable object len) now)

-- ---- write

-- how many bytes the object has after so many were written
abbrev pub new_length : Handle → ℕ → ℕ
new_length object len = max object.length (object.position + len)

-- the object after that: its file has a tag
abbrev pub written_to : Handle → ℕ → Handle
written_to object len =
    record object { length = new_length object len; position = object.position + len; format = Tagged }

abbrev pub written : ℕ → Handle → ℕ → Now → Program
written handle object len now = ends_with 0 (with_object now handle (written_to object len))

-- where the object has become longer, or had no tag, its header is written last
abbrev pub writing_header : ℕ → Handle → ℕ → Now → Program
writing_header handle object len now =
    if nat_lt object.length (object.position + len) || not (is_tagged object)
    then asks (FsWrite object.fd 0 8) (header (new_length object len)) now (λ reply. written handle object len now)
    else written handle object len now

-- before it the tag
abbrev pub writing_tag : ℕ → Handle → ℕ → List ℕ → Now → Program
writing_tag handle object len tag now =
    asks (FsWrite object.fd (tag_offset (new_length object len)) 32) tag now (λ reply. writing_header handle object len now)

-- before that the bytes
abbrev pub writing : ℕ → Handle → ℕ → List ℕ → List Piece → Now → Program
writing handle object len tag [] now = writing_tag handle object len tag now
writing handle object len tag (piece ∷ others) now =
    asks (FsWrite object.fd (offset_of (object.position + piece.start)) piece.len) (bytes_of now.range piece) now (λ reply.
    writing handle object len tag others now)

-- the tag of the data with the written bytes put in at the position
abbrev pub new_tag : List ℕ → Handle → List ℕ → List ℕ → List ℕ
new_tag key object content bytes =
    tag_of key object.name (new_length object (length bytes)) (overwritten content object.position bytes)

abbrev pub writing_over : List ℕ → ℕ → Handle → ℕ → List ℕ → Now → Program
writing_over key handle object len content now =
    writing handle object len (new_tag key object content (take len now.range)) (pieces len) now

-- what follows behind all of the old data: their tag, where there is one, and then what is written
abbrev pub write_checked : List ℕ → ℕ → Handle → ℕ → List ℕ → Now → Program
write_checked key handle object len content now =
    let onward = writing_over key handle object len content now in
    if is_tagged object then checking object (kept_tag key object content) now onward else onward

abbrev pub write_some : List ℕ → ℕ → Handle → ℕ → Now → Program
write_some key handle object len now =
    if len == 0 then ends_with 0 now
    else reading_data object storing_none (pieces object.length) [] now (write_checked key handle object len)

-- no object may have more than 32768 bytes: that is BAD_PARAMETERS
abbrev pub write : List ℕ → ℕ → ℕ → Now → Program
write key handle len now =
    on_object handle now (λ object.
    if nat_lt 32768 (object.position + len) then fails 0xffff0006 now
    else write_some key handle object len now)

-- ---- seek

-- to the end at most: past it is BAD_PARAMETERS
abbrev pub seek : ℕ → ℕ → Now → Program
seek handle position now =
    on_object handle now (λ object.
    if nat_lt object.length position then fails 0xffff0006 now
    else ends_with 0 (with_object now handle (record object { position = position })))

-- ---- close and delete

-- the handle is given back
abbrev pub without : Now → ℕ → Now
without now handle = record now { objects = remove now.objects handle }

-- it is given back with the reply, whatever its ret is
abbrev pub close : ℕ → Now → Program
close handle now =
    on_object handle now (λ object.
    Asks (FsClose object.fd) [] now (λ reply. let gone = without now handle in unless_failed reply.ret gone (ends_with 0 gone)))

-- and then the file is removed
abbrev pub removing : List ℕ → Now → Program
removing name now = asks (FsRemove name) name now (λ reply. ends_with 0 now)

abbrev pub delete : ℕ → Now → Program
delete handle now =
    on_object handle now (λ object. Asks (FsClose object.fd) [] now (λ reply. removing object.name (without now handle)))
