-- The tag at the end of an object's file of format 2, by which changed data of a file that is read as one of format 2 are
-- found out: an HMAC (RFC 2104) with SHA-256 under the key of the boot. An older file that is given back has a tag as well. This
-- project's own.
use Rattle.std.specs.Prelude.{ℕ, Bool, true, false, ◌&&◌, List, [], ◌∷◌, ◌++◌, if◌then◌else◌}
use Rattle.std.specs.Int.{w32, to_le_bytes}
use Rattle.std.specs.Str.{bytes_eq}
use Rattle.hmac.specs.Hmac.{hmac}
use Rattle.rpc_msgs.specs.declared.rpc.Rpc.TheVariants.{FsRead}
use Rattle.rpc_msgs.specs.declared.rpc.RpcReply.{RpcReply}
use Rattle.tee_storage.specs.declared.handle.FileFormat.{FileFormat}
use Rattle.tee_storage.specs.declared.handle.FileFormat.TheVariants.{Untagged, Tagged}
use Rattle.tee_storage.specs.declared.handle.Handle.{Handle}
use Rattle.tee_storage.specs.ObjectFiles.{offset_of}
use Rattle.tee_storage.specs.Program.{Now, Program, fails}
use Rattle.tee_storage.specs.Replies.{asks, is_whole}

-- files of format 2 end with a tag
abbrev pub ends_with_tag : FileFormat → Bool
ends_with_tag Untagged = false
ends_with_tag Tagged = true

-- the object's file has a tag
abbrev pub is_tagged : Handle → Bool
is_tagged object = ends_with_tag object.format

-- what stands before the data in what the tag is of: the file's name, a zero, and the length
abbrev pub tag_front : List ℕ → ℕ → List ℕ
tag_front name len = name ++ 0 ∷ to_le_bytes w32 len

-- the tag of a file of this name with so many bytes of data, which are these
abbrev pub tag_of : List ℕ → List ℕ → ℕ → List ℕ → List ℕ
tag_of key name len content = hmac key (tag_front name len ++ content)

-- of an object without data
abbrev pub first_tag : List ℕ → List ℕ → List ℕ
first_tag key name = tag_of key name 0 []

-- where the tag stands in the file: behind so many bytes of data
abbrev pub tag_offset : ℕ → ℕ
tag_offset len = offset_of len

-- the reply brings just this tag
abbrev pub brings : RpcReply → List ℕ → Bool
brings reply tag = is_whole reply 32 && bytes_eq reply.bytes tag

-- the rest of a call, if the reply brings this tag, and else CORRUPT_OBJECT
abbrev pub if_brought : RpcReply → List ℕ → Now → Program → Program
if_brought reply tag now onward = if brings reply tag then onward else fails 0xf0100001 now

-- the tag of the file is read, and has to be this one
abbrev pub checking : Handle → List ℕ → Now → Program → Program
checking object tag now onward =
    asks (FsRead object.fd (tag_offset object.length) 32) [] now (λ reply. if_brought reply tag now onward)

-- the tag that a file should have whose data are these
abbrev pub kept_tag : List ℕ → Handle → List ℕ → List ℕ
kept_tag key object content = tag_of key object.name object.length content
