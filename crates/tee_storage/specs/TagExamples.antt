-- Reads and writes of objects with a tag, answered by hand.
use Rattle.std.specs.Prelude.{◌≡◌, ℕ, List, [], ◌∷◌, ◌++◌, Option, Some, replicate}
use Rattle.std.specs.Option.{option_map}
use Rattle.base.specs.NumberMap.{NumberMap}
use Rattle.rpc_msgs.specs.declared.rpc.Rpc.TheVariants.{FsRead, FsWrite}
use Rattle.rpc_msgs.specs.Answer.{RpcAnswer, NoBuffer}
use Rattle.ta_params.specs.declared.object_call.ObjectCall.{ObjectCall}
use Rattle.ta_params.specs.declared.object_call.ObjectCall.TheVariants.{Read, Write}
use Rattle.tee_storage.specs.declared.step.StorageStep.TheVariants.{Ask, Done, Panic}
use Rattle.tee_storage.specs.declared.handle.Handle.{Handle}
use Rattle.tee_storage.specs.KeptData.{reading_data, part_between}
use Rattle.tee_storage.specs.ObjectFiles.{pieces}
use Rattle.tee_storage.specs.ObjectCalls.{Serving, serving, shown}
use Rattle.tee_storage.specs.OpeningExamples.{application, file, key, object, tagged, replied, brought, at}
use Rattle.tee_storage.specs.OpenObjectExamples.{range, two_pieces}
use Rattle.tee_storage.specs.OpenObjects.{all_read, new_tag, read_checked, storing_read, writing}
use Rattle.tee_storage.specs.Program.{now_at, after}
use Rattle.tee_storage.specs.Tags.{checking, tag_of}

-- an object of six bytes at its third, under the handle 2, with a tag and without one
abbrev pub six : List ℕ
six = 1 ∷ 2 ∷ 3 ∷ 4 ∷ 5 ∷ 6 ∷ []

abbrev pub kept : NumberMap Handle
kept = (2, tagged 7 6 2) ∷ []

abbrev pub untagged : NumberMap Handle
untagged = (2, object 7 6 2) ∷ []

abbrev pub after_it : ℕ → ℕ → NumberMap Handle
after_it len position = (2, tagged 7 len position) ∷ []

abbrev pub calls : ObjectCall → NumberMap Handle → List RpcAnswer → Option Serving
calls call objects answers = serving call application key range objects answers

-- a tag, and another one
abbrev pub right : List ℕ
right = replicate 32 9

abbrev pub wrong : List ℕ
wrong = replicate 31 9 ++ 8 ∷ []

-- the new data of a write of four bytes, which ends with the object, and of one that makes it longer by two
abbrev pub replaced : List ℕ
replaced = 1 ∷ 2 ∷ 60 ∷ 61 ∷ 62 ∷ 63 ∷ []

abbrev pub lengthened : List ℕ
lengthened = 1 ∷ 2 ∷ 3 ∷ 4 ∷ 60 ∷ 61 ∷ 62 ∷ 63 ∷ []

abbrev pub done : RpcAnswer
done = replied 0 0

-- the header of so many bytes
abbrev pub header_of : ℕ → List ℕ
header_of len = 0x4f ∷ 0x54 ∷ 0x4f ∷ 0x32 ∷ len ∷ 0 ∷ 0 ∷ 0 ∷ []

-- four bytes of an object of seven are read, from its third on, whose data come in pieces of two and one
abbrev pub reads_in_two : List RpcAnswer → Option Serving
reads_in_two answers =
    option_map shown (after (Some (reading_data (tagged 7 3 1) (storing_read (tagged 7 3 1) 2) two_pieces [] (now_at range kept)
    (read_checked key 2 (tagged 7 3 1) 2))) answers)

-- a read of three bytes behind all of the data, whose tag has to be this one
abbrev pub checks : List ℕ → List RpcAnswer → Option Serving
checks tag answers =
    let now = now_at range kept in
    let object = tagged 7 6 2 in
    option_map shown (after (Some (checking object tag now (all_read 2 object 3 now))) answers)

-- a write of the whole range to this object, with this new tag
abbrev pub writes : Handle → List ℕ → List RpcAnswer → Option Serving
writes object tag answers =
    option_map shown (after (Some (writing 2 object 4 tag (pieces 4) (now_at range ((2, object) ∷ [])))) answers)

pub record TagExamples : Type 0 where
  -- a read: the whole data, and then the tag. What was asked for is stored as it comes
  pub data_asked : calls (Read 2 0 3) kept [] ≡ at (Ask (FsRead 7 8 6) []) range kept
  pub tag_asked : calls (Read 2 0 3) kept (brought six ∷ []) ≡ at (Ask (FsRead 7 14 32) []) (3 ∷ 4 ∷ 5 ∷ 63 ∷ []) kept
  pub short_data : calls (Read 2 0 3) kept (brought (1 ∷ 2 ∷ []) ∷ []) ≡ at (Done 0xf0100001 0) range kept
  pub short_tag : calls (Read 2 0 3) kept (brought six ∷ brought (replicate 31 9) ∷ [])
      ≡ at (Done 0xf0100001 0) (3 ∷ 4 ∷ 5 ∷ 63 ∷ []) kept
  pub tag_failed : calls (Read 2 0 3) kept (brought six ∷ replied 0xffff0008 0 ∷ [])
      ≡ at (Done 0xffff0008 0) (3 ∷ 4 ∷ 5 ∷ 63 ∷ []) kept
  pub tag_without_buffer : calls (Read 2 0 3) kept (brought six ∷ NoBuffer ∷ [])
      ≡ at (Done 0xffff000c 0) (3 ∷ 4 ∷ 5 ∷ 63 ∷ []) kept
  pub read_nothing : calls (Read 2 0 0) kept [] ≡ at (Done 0 0) range kept
  pub without_tag : calls (Read 2 0 3) untagged [] ≡ at (Ask (FsRead 7 10 3) []) range untagged
  -- a tag that is the right one, and one that differs in its last byte
  pub checked : checks right (brought right ∷ []) ≡ at (Done 0 3) range (after_it 6 5)
  pub differs : checks right (brought wrong ∷ []) ≡ at (Done 0xf0100001 0) range kept
  -- parts of two pieces
  pub first_part : reads_in_two (brought (1 ∷ 2 ∷ []) ∷ []) ≡ at (Ask (FsRead 7 10 1) []) (2 ∷ 61 ∷ 62 ∷ 63 ∷ []) kept
  pub both_parts : reads_in_two (brought (1 ∷ 2 ∷ []) ∷ brought (3 ∷ []) ∷ [])
      ≡ at (Ask (FsRead 7 11 32) []) (2 ∷ 3 ∷ 62 ∷ 63 ∷ []) kept
  pub part_before : part_between 4 6 0 (1 ∷ 2 ∷ []) ≡ []
  pub part_behind : part_between 0 2 2 (1 ∷ 2 ∷ []) ≡ []
  -- a write: the whole data and the tag before all that is written
  pub old_asked : calls (Write 2 0 4) kept [] ≡ at (Ask (FsRead 7 8 6) []) range kept
  pub old_tag_asked : calls (Write 2 0 4) kept (brought six ∷ []) ≡ at (Ask (FsRead 7 14 32) []) range kept
  pub bytes_asked : writes (tagged 7 6 2) right [] ≡ at (Ask (FsWrite 7 10 4) range) range kept
  pub new_tag_asked : writes (tagged 7 6 2) right (done ∷ []) ≡ at (Ask (FsWrite 7 14 32) right) range kept
  pub replaced_whole : writes (tagged 7 6 2) right (done ∷ done ∷ []) ≡ at (Done 0 0) range (after_it 6 6)
  pub tag_of_replaced : new_tag key (tagged 7 6 2) six range ≡ tag_of key file 6 replaced
  -- one that makes the object longer: its header is last
  pub longer_tag : writes (tagged 7 6 4) right (done ∷ []) ≡ at (Ask (FsWrite 7 16 32) right) range (after_it 6 4)
  pub longer_header : writes (tagged 7 6 4) right (done ∷ done ∷ []) ≡ at (Ask (FsWrite 7 0 8) (header_of 8)) range (after_it 6 4)
  pub lengthened_whole : writes (tagged 7 6 4) right (done ∷ done ∷ done ∷ []) ≡ at (Done 0 0) range (after_it 8 8)
  pub tag_of_lengthened : new_tag key (tagged 7 6 4) six range ≡ tag_of key file 8 lengthened
  pub header_failed : writes (tagged 7 6 4) right (done ∷ done ∷ replied 1 0 ∷ []) ≡ at (Done 0xf0100003 0) range (after_it 6 4)
  -- one of format 1: no tag is read, and the header is written
  pub no_old_tag : calls (Write 2 0 4) untagged (brought six ∷ []) ≡ at (Ask (FsWrite 7 10 4) range) range untagged
  pub new_header : calls (Write 2 0 4) untagged (brought six ∷ done ∷ done ∷ [])
      ≡ at (Ask (FsWrite 7 0 8) (header_of 6)) range untagged
  pub becomes_tagged : calls (Write 2 0 4) untagged (brought six ∷ done ∷ done ∷ done ∷ []) ≡ at (Done 0 0) range (after_it 6 6)
  -- objects without data: of format 1 nothing is read first, and of format 2 the tag alone
  pub nothing_to_read : calls (Write 2 0 4) ((2, object 7 0 0) ∷ []) [] ≡ at (Ask (FsWrite 7 8 4) range) range ((2, object 7 0 0) ∷ [])
  pub tag_alone : calls (Write 2 0 4) (after_it 0 0) [] ≡ at (Ask (FsRead 7 8 32) []) range (after_it 0 0)
  pub write_nothing : calls (Write 2 0 0) kept [] ≡ at (Done 0 0) range kept
  pub write_too_long : calls (Write 2 0 32767) kept [] ≡ at (Done 0xffff0006 0) range kept
  pub write_unknown : calls (Write 1 0 4) kept [] ≡ at (Panic 5) range kept
