-- What the normal world has brought where a call on an object whose file has a tag goes on. This project's own.
use Rattle.std.specs.Prelude.{◌≡◌, ℕ, ◌<◌, ◌≤◌, true, List, [], ◌∷◌, ◌++◌, length, map, take, Option, Some}
use Rattle.std.specs.List.{flat_map}
use Rattle.std.specs.Option.{option_map}
use Rattle.base.specs.NumberMap.{NumberMap, get}
use Rattle.rpc_msgs.specs.Answer.{RpcAnswer, Replied}
use Rattle.rpc_msgs.specs.declared.rpc.Rpc.TheVariants.{FsWrite}
use Rattle.rpc_msgs.specs.declared.rpc.RpcReply.{RpcReply}
use Rattle.ta_params.specs.declared.object_call.ObjectCall.TheVariants.{Read, Write}
use Rattle.tee_storage.specs.declared.handle.Handle.{Handle}
use Rattle.tee_storage.specs.declared.step.StorageStep.{StorageStep}
use Rattle.tee_storage.specs.declared.step.StorageStep.TheVariants.{Ask, Done}
use Rattle.tee_storage.specs.ObjectCalls.{Serving, serving}
use Rattle.tee_storage.specs.OpenObjects.{new_length, new_tag}
use Rattle.tee_storage.specs.Tags.{is_tagged, tag_of, tag_offset}

-- ---- a read or a write

-- so many bytes of an open object, from its position on, and the range of the application's memory that they go to or come from
pub record Access : Type 0 where
  pub uuid : List ℕ
  -- that of the tags
  pub key : List ℕ
  pub objects : NumberMap Handle
  pub handle : ℕ
  pub addr : ℕ
  pub len : ℕ
  -- the bytes of the range at the call
  pub range : List ℕ

-- the step of a call, which is none behind its end
abbrev pub step_of : Option Serving → Option StorageStep
step_of served = option_map (λ (now : Serving). now.step) served

-- the step at which a read or a write is after these answers to its requests
abbrev pub read_step : Access → List RpcAnswer → Option StorageStep
read_step at answers = step_of (serving (Read at.handle at.addr at.len) at.uuid at.key at.range at.objects answers)

abbrev pub write_step : Access → List RpcAnswer → Option StorageStep
write_step at answers = step_of (serving (Write at.handle at.addr at.len) at.uuid at.key at.range at.objects answers)

-- it is of this object, whose file has a tag
pub record IsOfTagged (at : Access) (object : Handle) : Type 0 where
  pub found : get at.objects at.handle ≡ Some object
  pub tagged : is_tagged object ≡ true

-- ---- what was brought

-- the bytes that replies bring, one reply's behind the other's
abbrev pub data_in : List RpcReply → List ℕ
data_in replies = flat_map (λ (reply : RpcReply). reply.bytes) replies

-- the answers are replies with these data, as many as the object has, and then one with the HMAC of its name, its length and the data
pub record BringWithTag (key : List ℕ) (object : Handle) (content : List ℕ) (answers : List RpcAnswer) : Type 0 where
  pub pieces : List RpcReply
  pub last : RpcReply
  pub are : answers ≡ map Replied (pieces ++ last ∷ [])
  pub content_is : data_in pieces ≡ content
  pub all : length content ≡ object.length
  pub tag : last.bytes ≡ tag_of key object.name object.length content

-- the answers begin so
pub record BeginWithTag (key : List ℕ) (object : Handle) (content : List ℕ) (answers : List RpcAnswer) : Type 0 where
  pub first : List RpcAnswer
  pub later : List RpcAnswer
  pub are : answers ≡ first ++ later
  pub bring : BringWithTag key object content first

-- the tag of an object's new data, where these are the old
abbrev pub tag_after : Access → Handle → List ℕ → List ℕ
tag_after at object content = new_tag at.key object content (take at.len at.range)

-- where the write asks for it to be written: behind the new data, of which there are so many
abbrev pub tag_place : Access → Handle → ℕ
tag_place at object = tag_offset (new_length object at.len)

-- the first of the answers after which it asked for that
pub record HasTagged (at : Access) (object : Handle) (content : List ℕ) (answers : List RpcAnswer) : Type 0 where
  pub before : List RpcAnswer
  pub later : List RpcAnswer
  pub are : answers ≡ before ++ later
  pub asked : write_step at before ≡ Some (Ask (FsWrite object.fd (tag_place at object) 32) (tag_after at object content))

-- ---- the laws

-- a read that ends with SUCCESS and some bytes has been brought all the data and then their tag, by the last of the answers
abbrev pub ReadsEndBehindTheirTag : Type 0
ReadsEndBehindTheirTag =
    (at : Access) (object : Handle) (answers : List RpcAnswer) (count : ℕ)
    → IsOfTagged at object → read_step at answers ≡ Some (Done 0 count) → 0 < count
    → (content : List ℕ) × BringWithTag at.key object content answers

-- a write that asks for anything to be written has been brought all the old data and then their tag
abbrev pub WritesWaitForTheTag : Type 0
WritesWaitForTheTag =
    (at : Access) (object : Handle) (answers : List RpcAnswer) (fd offset count : ℕ) (payload : List ℕ)
    → IsOfTagged at object → write_step at answers ≡ Some (Ask (FsWrite fd offset count) payload)
    → (content : List ℕ) × BeginWithTag at.key object content answers

-- what it asks to be written behind the new data is their tag
abbrev pub WrittenTagsAreOfTheNewData : Type 0
WrittenTagsAreOfTheNewData =
    (at : Access) (object : Handle) (answers : List RpcAnswer) (fd offset count : ℕ) (payload : List ℕ)
    → IsOfTagged at object → write_step at answers ≡ Some (Ask (FsWrite fd offset count) payload)
    → tag_place at object ≤ offset
    → (content : List ℕ) × BeginWithTag at.key object content answers × (payload ≡ tag_after at object content)

-- a write of some bytes that ends with SUCCESS has asked for their tag
abbrev pub WritesThatEndWellHaveTagged : Type 0
WritesThatEndWellHaveTagged =
    (at : Access) (object : Handle) (answers : List RpcAnswer) (count : ℕ)
    → IsOfTagged at object → write_step at answers ≡ Some (Done 0 count) → 0 < at.len
    → (content : List ℕ) × BeginWithTag at.key object content answers × HasTagged at object content answers
