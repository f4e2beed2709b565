-- What the supplicant of the normal world answers to each request, and how it then stands (own).
use Rattle.std.specs.Prelude.{◌≡◌, ℕ, ◌+◌, nat_le, false, is_some, if◌then◌else◌, List, length, take, drop, min, Option, Some, None, Result, Ok, Err}
use Rattle.rpc_msgs.specs.declared.rpc.Rpc.{Rpc}
use Rattle.rpc_msgs.specs.declared.rpc.Rpc.TheVariants.{Time, Sleep, Wake, Suspend, FsOpen, FsCreate, FsClose, FsRead, FsWrite, FsRemove}
use Rattle.rpc_msgs.specs.declared.rpc.RpcReply.{RpcReply}
use Rattle.rpc_msgs.specs.Answer.{nothing_read}
use Rattle.supplicant.specs.Files.{Descriptors, Files, bytes_of, file_after, lowest_free, name_of, with_bytes, with_descriptor, with_empty, without_descriptor, without_file}

-- the files, the descriptors of those that are open, and how many requests for the time came before
pub record Storage : Type 0 where
  pub files : Files
  pub descriptors : Descriptors
  pub times : ℕ

-- a reply, and the storage after it
pub record Answered : Type 0 where
  pub reply : RpcReply
  pub after : Storage

-- the codes of the GlobalPlatform API
abbrev pub ACCESS_CONFLICT : ℕ
ACCESS_CONFLICT = 0xffff0003

abbrev pub BAD_PARAMETERS : ℕ
BAD_PARAMETERS = 0xffff0006

abbrev pub ITEM_NOT_FOUND : ℕ
ITEM_NOT_FOUND = 0xffff0008

-- success, of which nothing else is read
abbrev pub done : Storage → Answered
done after = record { reply = nothing_read; after = after }

-- a refusal, which changes nothing
abbrev pub refused : Storage → ℕ → Answered
refused storage ret = record { reply = record nothing_read { ret = ret }; after = storage }

-- ---- the time

-- how many requests for it came before, and 0. A count that has come to 2^64 - 1 stays there
abbrev pub time : Storage → Answered
time storage =
    record {
      reply = record nothing_read { v = storage.times };
      after = record storage { times = min (storage.times + 1) 18446744073709551615 };
    }

-- ---- files by their names

-- the lowest free descriptor stands for the name now
abbrev pub opened : Storage → List ℕ → Answered
opened storage name =
    let fd = lowest_free storage.descriptors in
    record {
      reply = record nothing_read { v = fd };
      after = record storage { descriptors = with_descriptor storage.descriptors fd name };
    }

abbrev pub open_file : Storage → List ℕ → Answered
open_file storage name =
    if is_some (bytes_of storage.files name) then opened storage name else refused storage ITEM_NOT_FOUND

abbrev pub create_file : Storage → List ℕ → Answered
create_file storage name =
    if is_some (bytes_of storage.files name) then refused storage ACCESS_CONFLICT
    else opened (record storage { files = with_empty storage.files name }) name

-- descriptors that stand for the name stay
abbrev pub remove_file : Storage → List ℕ → Answered
remove_file storage name =
    if is_some (bytes_of storage.files name) then done (record storage { files = without_file storage.files name })
    else refused storage ITEM_NOT_FOUND

-- ---- files by their descriptors

-- the name and the bytes of the file of a name, where there is one, and of the name that a descriptor stands for, where
-- it stands for one
abbrev pub there : List ℕ → Option (List ℕ) → Result (List ℕ × List ℕ) ℕ
there name None = Err ITEM_NOT_FOUND
there name (Some bytes) = Ok (name, bytes)

abbrev pub known : Files → Option (List ℕ) → Result (List ℕ × List ℕ) ℕ
known files None = Err BAD_PARAMETERS
known files (Some name) = there name (bytes_of files name)

-- the name and the bytes of the file of a descriptor: BAD_PARAMETERS where there is no such descriptor,
-- ITEM_NOT_FOUND where its name is gone
abbrev pub file_at : Storage → ℕ → Result (List ℕ × List ℕ) ℕ
file_at storage fd = known storage.files (name_of storage.descriptors fd)

-- what is done with that file, or the refusal
abbrev pub done_with : Storage → (List ℕ → List ℕ → Answered) → Result (List ℕ × List ℕ) ℕ → Answered
done_with storage act (Ok (name, bytes)) = act name bytes
done_with storage act (Err ret) = refused storage ret

abbrev pub on_file : Storage → ℕ → (List ℕ → List ℕ → Answered) → Answered
on_file storage fd act = done_with storage act (file_at storage fd)

abbrev pub close_file : Storage → ℕ → Answered
close_file storage fd =
    on_file storage fd (λ name bytes. done (record storage { descriptors = without_descriptor storage.descriptors fd }))

-- the bytes that are there of those asked for
abbrev pub piece : List ℕ → ℕ → ℕ → List ℕ
piece bytes offset len = take len (drop offset bytes)

abbrev pub read_file : Storage → ℕ → ℕ → ℕ → Answered
read_file storage fd offset len =
    on_file storage fd (λ name bytes.
    record {
      reply = record nothing_read { size = length (piece bytes offset len); bytes = piece bytes offset len };
      after = storage;
    })

-- a file has at most 2^20 bytes
abbrev pub write_file : Storage → ℕ → ℕ → List ℕ → Answered
write_file storage fd offset new =
    on_file storage fd (λ name bytes.
    if nat_le (offset + length new) 0x100000 then done (record storage { files = with_bytes storage.files name (file_after bytes offset new) })
    else refused storage BAD_PARAMETERS)

-- ---- all requests, each with its payload

abbrev pub answered : Storage → Rpc → List ℕ → Answered
answered storage Time payload = time storage
answered storage (Sleep key) payload = done storage
answered storage (Wake key) payload = done storage
answered storage (Suspend ms) payload = done storage
answered storage (FsOpen name) payload = open_file storage name
answered storage (FsCreate name) payload = create_file storage name
answered storage (FsClose fd) payload = close_file storage fd
answered storage (FsRead fd offset len) payload = read_file storage fd offset len
answered storage (FsWrite fd offset len) payload = write_file storage fd offset payload
answered storage (FsRemove name) payload = remove_file storage name

-- ---- what a reply gives

-- a descriptor that was free, unless it says of a refusal
abbrev pub GaveFree : Storage → RpcReply → Type 0
GaveFree storage reply = reply.ret ≡ 0 → is_some (name_of storage.descriptors reply.v) ≡ false

abbrev pub GivesFree : Storage → Rpc → RpcReply → Type 0
GivesFree storage (FsOpen name) reply = GaveFree storage reply
GivesFree storage (FsCreate name) reply = GaveFree storage reply
GivesFree storage _ reply = Unit {0}
