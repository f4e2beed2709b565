-- What is left of a call, by the state that waits for the reply to its request.
use Rattle.std.specs.Prelude.{◌≡◌, ℕ, ◌+◌, ◌<◌, ◌&&◌, nat_lt, Bool, true, false, List, ◌++◌, length, Option, Some, None, Result, Ok, Err, if◌then◌else◌}
use Rattle.base.specs.NumberMap.{NumberMap}
use Rattle.hmac.specs.declared.hasher.HmacSha256.{HmacSha256}
use Rattle.hmac.specs.Hashing.{Holds}
use Rattle.rpc_msgs.specs.declared.rpc.RpcReply.{RpcReply}
use Rattle.rpc_msgs.specs.Answer.{RpcAnswer}
use Rattle.ta_params.specs.declared.object_call.ObjectCall.{ObjectCall}
use Rattle.tee_storage.specs.declared.handle.Handle.{Handle}
use Rattle.tee_storage.specs.declared.state.ObjectState.{ObjectState}
use Rattle.tee_storage.specs.declared.step.StorageStep.{StorageStep}
use Rattle.tee_storage.specs.declared.step.StorageStep.TheVariants.{Ask, Done, Panic}
use Rattle.tee_storage.specs.declared.turn.Turn.{Turn}
use Rattle.tee_storage.specs.declared.waits.DataRead.{DataRead}
use Rattle.tee_storage.specs.declared.waits.NewObject.{NewObject}
use Rattle.tee_storage.specs.declared.waits.Tagging.{Tagging}
use Rattle.tee_storage.specs.declared.waits.Tagging.TheVariants.{Check, Make, Replace}
use Rattle.tee_storage.specs.declared.waits.Transfer.{Transfer}
use Rattle.tee_storage.specs.declared.waits.Waits.{Waits}
use Rattle.tee_storage.specs.declared.waits.Waits.TheVariants as waiting
use Rattle.tee_storage.specs.declared.waits.Waits.TheVariants.{Nothing, Created, HeaderWritten, Opened, HeaderRead, PieceRead, ReadChecked, WriteChecked, PieceWritten, TagWritten, NewHeaderWritten, Closed, ClosedToDelete, Removed}
use Rattle.tee_storage.specs.Handles.{lowest_free}
use Rattle.tee_storage.specs.ObjectCalls.{Serving, left_of, serving}
use Rattle.base.specs.Bytes.{overwritten}
use Rattle.tee_storage.specs.KeptData.{Storing, reading_data, storing_none}
use Rattle.tee_storage.specs.ObjectFiles.{Piece, is_id_length, file_name, pieces_from}
use Rattle.tee_storage.specs.OpenObjects.{all_read, new_length, read_checked, reading, removing, storing_read, without, write_checked, writing, writing_header, written}
use Rattle.tee_storage.specs.Opening.{empty_object, writing_first, opened, header_in, opened_as, reading_header}
use Rattle.tee_storage.specs.Program.{Now, Program, Asks, Ends, ends_with, fails}
use Rattle.tee_storage.specs.Replies.{brings_piece, is_whole, unless_failed}
use Rattle.tee_storage.specs.Tags.{if_brought, is_tagged, tag_front}
use Rattle.tee_storage.specs.Transfers.{data_len, other_data, put_so_far, this_len, other_pieces, IsDataRead, IsRead, IsWrite, IsWritten}

-- under which key a call makes its tags, and the data that it has read for them so far
pub record Taken : Type 0 where
  pub key : List ℕ
  pub content : List ℕ

-- the rest of a read after a piece
abbrev pub piece_read : Transfer → Now → RpcReply → Program
piece_read t now reply =
    if is_whole reply (this_len t)
    then reading t.handle t.object t.len (other_pieces t) (record now { range = overwritten now.range t.done reply.bytes })
    else fails 0xf0100001 now

-- what a piece of the data changes at once, and what follows behind all of the data: by the tags that they go into
abbrev pub storing_by : Tagging → Transfer → Storing
storing_by (Check kept) t = storing_read t.object t.len
storing_by (Make new) t = storing_none
storing_by (Replace kept new) t = storing_none

abbrev pub checked_by : Tagging → List ℕ → Transfer → List ℕ → Now → Program
checked_by (Check kept) key t = read_checked key t.handle t.object t.len
checked_by (Make new) key t = write_checked key t.handle t.object t.len
checked_by (Replace kept new) key t = write_checked key t.handle t.object t.len

-- the rest of a call whose data are being read, from these pieces on
abbrev pub reading_on : DataRead → List Piece → List ℕ → List ℕ → Now → Program
reading_on read others key content now =
    reading_data read.transfer.object (storing_by read.tagging read.transfer) others content now
    (checked_by read.tagging key read.transfer)

-- and after a piece
abbrev pub data_read : DataRead → Taken → Now → RpcReply → Program
data_read read taken now reply =
    if is_whole reply (data_len read)
    then reading_on read (other_data read) taken.key (taken.content ++ reply.bytes)
    (storing_by read.tagging read.transfer now read.start reply.bytes)
    else fails 0xf0100001 now

-- what a reply to the request goes on with
abbrev pub onward : Waits → Taken → Now → RpcReply → Program
onward Nothing taken now reply = ends_with 0 now
onward (Created new key) taken now reply = unless_failed reply.ret now (writing_first key new.name new.number reply.v now)
onward (HeaderWritten new fd) taken now reply = unless_failed reply.ret now (opened new.name new.number fd empty_object now)
onward (Opened new) taken now reply = unless_failed reply.ret now (reading_header new.name new.number reply.v now)
onward (HeaderRead new fd) taken now reply = unless_failed reply.ret now (opened_as (header_in reply) new.name new.number fd now)
onward (PieceRead t) taken now reply = unless_failed reply.ret now (piece_read t now reply)
onward (waiting.DataRead read) taken now reply = unless_failed reply.ret now (data_read read taken now reply)
onward (ReadChecked t tag) taken now reply =
    unless_failed reply.ret now (if_brought reply tag now (all_read t.handle t.object t.len now))
onward (WriteChecked t tag new) taken now reply =
    unless_failed reply.ret now (if_brought reply tag now (writing t.handle t.object t.len new (pieces_from t.done t.len) now))
onward (PieceWritten t tag) taken now reply =
    unless_failed reply.ret now (writing t.handle t.object t.len tag (other_pieces t) now)
onward (TagWritten t) taken now reply = unless_failed reply.ret now (writing_header t.handle t.object t.len now)
onward (NewHeaderWritten t) taken now reply = unless_failed reply.ret now (written t.handle t.object t.len now)
onward (Closed handle) taken now reply = let gone = without now handle in unless_failed reply.ret gone (ends_with 0 gone)
onward (ClosedToDelete handle name) taken now reply = removing name (without now handle)
onward Removed taken now reply = unless_failed reply.ret now (ends_with 0 now)

-- the reply brings a piece of what a call reads, and another one follows
abbrev pub goes_on_reading : Waits → RpcReply → Bool
goes_on_reading (PieceRead t) reply = brings_piece reply (this_len t) && nat_lt (t.done + this_len t) t.len
goes_on_reading (waiting.DataRead read) reply =
    brings_piece reply (data_len read) && nat_lt (read.start + data_len read) read.transfer.object.length
goes_on_reading _ reply = false

-- what is left of a call that is at this step
abbrev pub left_in : Waits → Taken → StorageStep → Now → Program
left_in waits taken (Ask rpc payload) now = Asks rpc payload now (onward waits taken now)
left_in waits taken (Done result value) now = Ends (Done result value) now
left_in waits taken (Panic code) now = Ends (Panic code) now

abbrev pub left_at : Turn → Taken → Now → Program
left_at turn taken now = left_in turn.waits taken turn.step now

-- ---- what its tags have taken in

-- the tag that the file should have
abbrev pub KeepsTag : HmacSha256 → DataRead → Taken → Type 0
KeepsTag kept read taken = let object = read.transfer.object in
    Holds kept taken.key (tag_front object.name object.length ++ taken.content)

-- the tag that the file is to have
abbrev pub MakesTag : HmacSha256 → DataRead → Taken → List ℕ → Type 0
MakesTag new read taken range = let t = read.transfer in
    Holds new taken.key (tag_front t.object.name (new_length t.object t.len) ++ put_so_far t taken.content range)

abbrev pub HoldTags : Tagging → DataRead → Taken → List ℕ → Type 0
HoldTags (Check kept) read taken range = KeepsTag kept read taken
HoldTags (Make new) read taken range = MakesTag new read taken range
HoldTags (Replace kept new) read taken range = KeepsTag kept read taken × MakesTag new read taken range

-- a file without a tag has none to check
abbrev pub FitsFormat : Tagging → Handle → Type 0
FitsFormat (Check kept) object = is_tagged object ≡ true
FitsFormat (Make new) object = is_tagged object ≡ false
FitsFormat (Replace kept new) object = is_tagged object ≡ true

pub record HasTaken (read : DataRead) (taken : Taken) (range : List ℕ) : Type 0 where
  pub count : length taken.content ≡ read.start
  pub tags : HoldTags read.tagging read taken range
  pub format : FitsFormat read.tagging read.transfer.object

-- the state has taken in what it has read
abbrev pub Hashes : Waits → Taken → List ℕ → Type 0
Hashes Nothing taken range = Unit {0}
Hashes (Created new key) taken range = Unit {0}
Hashes (HeaderWritten new fd) taken range = Unit {0}
Hashes (Opened new) taken range = Unit {0}
Hashes (HeaderRead new fd) taken range = Unit {0}
Hashes (PieceRead t) taken range = Unit {0}
Hashes (waiting.DataRead read) taken range = HasTaken read taken range
Hashes (ReadChecked t tag) taken range = Unit {0}
Hashes (WriteChecked t tag new) taken range = Unit {0}
Hashes (PieceWritten t tag) taken range = Unit {0}
Hashes (TagWritten t) taken range = Unit {0}
Hashes (NewHeaderWritten t) taken range = Unit {0}
Hashes (Closed handle) taken range = Unit {0}
Hashes (ClosedToDelete handle name) taken range = Unit {0}
Hashes Removed taken range = Unit {0}

-- no data that such a state would have to take in
abbrev pub TakesNothing : Waits → Type 0
TakesNothing waits = (taken : Taken) (range : List ℕ) → Hashes waits taken range

-- this program is what is left at a turn, by what its tags have then taken in
pub record IsLeft (program : Program) (turn : Turn) (key : List ℕ) (now : Now) : Type 0 where
  pub content : List ℕ
  pub is : program ≡ left_at turn (record { key = key; content = content }) now
  pub hashes : Hashes turn.waits (record { key = key; content = content }) now.range

-- the new object of a create or an open, after the tests at the call; or the result that they give
abbrev pub numbered : List ℕ → Option ℕ → Result NewObject ℕ
numbered name None = Err 0xffff0007
numbered name (Some number) = Ok (record { name = name; number = number })

abbrev pub new_object : List ℕ → ℕ → Now → Result NewObject ℕ
new_object uuid len now =
    if is_id_length len then numbered (file_name uuid now.range) (lowest_free now.objects) else Err 0xffff0006

-- ---- what a state can go on with

abbrev pub IsReady : Waits → List ℕ → Type 0
IsReady Nothing range = Unit {0}
IsReady (Created new key) range = new.number < 8
IsReady (HeaderWritten new fd) range = new.number < 8
IsReady (Opened new) range = new.number < 8
IsReady (HeaderRead new fd) range = new.number < 8
IsReady (PieceRead t) range = IsRead t range
IsReady (waiting.DataRead read) range = IsDataRead read range
IsReady (ReadChecked t tag) range = IsRead t range
IsReady (WriteChecked t tag new) range = IsWrite t range
IsReady (PieceWritten t tag) range = IsWrite t range
IsReady (TagWritten t) range = IsWritten t
IsReady (NewHeaderWritten t) range = IsWritten t
IsReady (Closed handle) range = Unit {0}
IsReady (ClosedToDelete handle name) range = Unit {0}
IsReady Removed range = Unit {0}

-- the state can go on with a reply, over this range
abbrev pub CanGoOn : ObjectState → List ℕ → Type 0
CanGoOn state range = IsReady state.waits range

-- the reply brings a piece of an object that is read, and another piece follows
abbrev pub reads_on : ObjectState → RpcReply → Bool
reads_on state reply = goes_on_reading state.waits reply

-- ---- what a state stands for

-- after these answers the call is at this step, and the state has what is left of it
pub record StandsFor (state : ObjectState) (call : ObjectCall) (uuid key range : List ℕ) (objects : NumberMap Handle) (answers : List RpcAnswer) (now : Serving) : Type 0 where
  pub serves : serving call uuid key range objects answers ≡ Some now
  -- the data that its tags have taken in
  pub content : List ℕ
  pub left : left_of call uuid key range objects answers
      ≡ Some (left_in state.waits (record { key = key; content = content }) now.step (record { range = now.range; objects = now.objects }))
  pub hashes : Hashes state.waits (record { key = key; content = content }) now.range
  pub ready : CanGoOn state now.range
