-- Objects with a tag at their limits: of the length, the tag, the format and the position; answered by hand.
use Rattle.std.specs.Prelude.{◌≡◌, ℕ, List, [], ◌∷◌, ◌++◌, Option, Some, drop, length, replicate}
use Rattle.std.specs.Option.{option_map}
use Rattle.base.specs.NumberMap.{NumberMap}
use Rattle.rpc_msgs.specs.declared.rpc.Rpc.TheVariants.{FsRead, FsWrite}
use Rattle.rpc_msgs.specs.Answer.{RpcAnswer, Replied, NoBuffer}
use Rattle.ta_params.specs.declared.object_call.ObjectCall.TheVariants.{Read, Seek, Write}
use Rattle.tee_storage.specs.declared.step.StorageStep.TheVariants.{Ask, Done}
use Rattle.tee_storage.specs.declared.handle.Handle.{Handle}
use Rattle.tee_storage.specs.ObjectFiles.{pieces}
use Rattle.tee_storage.specs.ObjectCalls.{Serving, shown}
use Rattle.tee_storage.specs.OpeningExamples.{at, brought, file, id, key, object, opens, replied, tagged}
use Rattle.tee_storage.specs.OpenObjectExamples.{piece, range}
use Rattle.tee_storage.specs.OpenObjects.{all_read, new_tag, writing}
use Rattle.tee_storage.specs.Program.{after, now_at}
use Rattle.tee_storage.specs.TagExamples.{after_it, calls, checks, done, header_of, kept, right, six, untagged, writes, wrong}
use Rattle.tee_storage.specs.Tags.{checking, tag_front, tag_of}

-- the headers of format 2 of the longest object and of one byte more
abbrev pub longest_tagged : List ℕ
longest_tagged = 0x4f ∷ 0x54 ∷ 0x4f ∷ 0x32 ∷ 0 ∷ 0x80 ∷ 0 ∷ 0 ∷ []

abbrev pub too_long_tagged : List ℕ
too_long_tagged = 0x4f ∷ 0x54 ∷ 0x4f ∷ 0x32 ∷ 1 ∷ 0x80 ∷ 0 ∷ 0 ∷ []

-- a reply that says so many bytes and brings these
abbrev pub says : ℕ → List ℕ → RpcAnswer
says size bytes = Replied (record { ret = 0; v = 0; w = 0; size = size; bytes = bytes })

-- a read of so many bytes behind all of the data of this object, whose tag has to be `right`
abbrev pub checks_of : Handle → ℕ → List RpcAnswer → Option Serving
checks_of object len answers =
    let now = now_at range ((2, object) ∷ []) in
    option_map shown (after (Some (checking object right now (all_read 2 object len now))) answers)

-- a write of the whole range behind all of the old data, whose tag has to be `right`
abbrev pub replaces : List RpcAnswer → Option Serving
replaces answers =
    let now = now_at range kept in
    let object = tagged 7 6 2 in
    option_map shown (after (Some (checking object right now (writing 2 object 4 wrong (pieces 4) now))) answers)

pub record TagBorders : Type 0 where
  -- what a tag is of: the name, a zero and the length, the lowest byte first; then the data
  pub front : tag_front file 0x8000 ≡ file ++ 0 ∷ 0 ∷ 0x80 ∷ 0 ∷ 0 ∷ []
  -- the length in a header of format 2
  pub opened_empty : opens (replied 0 7 ∷ brought (header_of 0) ∷ []) ≡ at (Done 0 0) id ((0, tagged 7 0 0) ∷ [])
  pub opened_longest : opens (replied 0 7 ∷ brought longest_tagged ∷ []) ≡ at (Done 0 0) id ((0, tagged 7 32768 0) ∷ [])
  pub corrupt_length : opens (replied 0 7 ∷ brought too_long_tagged ∷ []) ≡ at (Done 0xf0100001 0) id []
  -- 32,768 bytes: ten pieces and the tag behind them; at the end nothing is left to read, and no byte can be written
  pub ten_pieces : length (pieces 32768) ≡ 10
  pub last_piece : drop 9 (pieces 32768) ≡ piece 32256 512 ∷ []
  pub last_byte_read : calls (Read 2 0 4) (after_it 32768 32767) [] ≡ at (Ask (FsRead 7 8 3584) []) range (after_it 32768 32767)
  pub last_tag_read : checks_of (tagged 7 32768 32767) 1 [] ≡ at (Ask (FsRead 7 32776 32) []) range (after_it 32768 32767)
  pub whole_read : checks_of (tagged 7 32768 32767) 1 (brought right ∷ []) ≡ at (Done 0 1) range (after_it 32768 32768)
  pub nothing_left : calls (Read 2 0 4) (after_it 32768 32768) [] ≡ at (Done 0 0) range (after_it 32768 32768)
  pub over_the_end : calls (Write 2 0 4) (after_it 32768 32764) [] ≡ at (Ask (FsRead 7 8 3584) []) range (after_it 32768 32764)
  pub past_the_limit : calls (Write 2 0 4) (after_it 32768 32765) [] ≡ at (Done 0xffff0006 0) range (after_it 32768 32765)
  pub up_to_the_limit : writes (tagged 7 32764 32764) right [] ≡ at (Ask (FsWrite 7 32772 4) range) range (after_it 32764 32764)
  pub limit_tag : writes (tagged 7 32764 32764) right (done ∷ []) ≡ at (Ask (FsWrite 7 32776 32) right) range (after_it 32764 32764)
  pub limit_header : writes (tagged 7 32764 32764) right (done ∷ done ∷ [])
      ≡ at (Ask (FsWrite 7 0 8) longest_tagged) range (after_it 32764 32764)
  pub limit_written : writes (tagged 7 32764 32764) right (done ∷ done ∷ done ∷ []) ≡ at (Done 0 0) range (after_it 32768 32768)
  -- a tag of another size, and one that says 32 bytes and brings fewer
  pub no_tag : checks right (brought [] ∷ []) ≡ at (Done 0xf0100001 0) range kept
  pub cut_tag : checks right (brought (replicate 31 9) ∷ []) ≡ at (Done 0xf0100001 0) range kept
  pub long_tag : checks right (says 33 (replicate 33 9) ∷ []) ≡ at (Done 0xf0100001 0) range kept
  pub missing_byte : checks right (says 32 (replicate 31 9) ∷ []) ≡ at (Done 0xf0100001 0) range kept
  -- a write: the old tag is compared before anything is written, and ret decides before it
  pub old_tag_right : replaces (brought right ∷ []) ≡ at (Ask (FsWrite 7 10 4) range) range kept
  pub old_tag_wrong : replaces (brought wrong ∷ []) ≡ at (Done 0xf0100001 0) range kept
  pub old_tag_cut : replaces (brought (replicate 31 9) ∷ []) ≡ at (Done 0xf0100001 0) range kept
  pub old_tag_failed : replaces (replied 0xffff0003 0 ∷ []) ≡ at (Done 0xffff0003 0) range kept
  pub old_tag_without_buffer : replaces (NoBuffer ∷ []) ≡ at (Done 0xffff000c 0) range kept
  pub new_tag_behind_it : replaces (brought right ∷ done ∷ []) ≡ at (Ask (FsWrite 7 14 32) wrong) range kept
  pub old_data_short : calls (Write 2 0 4) kept (brought (1 ∷ 2 ∷ []) ∷ []) ≡ at (Done 0xf0100001 0) range kept
  -- a write that fails behind its first request leaves format, length and position
  pub new_tag_failed : writes (tagged 7 6 2) right (done ∷ replied 9 0 ∷ []) ≡ at (Done 0xf0100003 0) range kept
  pub new_tag_without_buffer : writes (tagged 7 6 2) right (done ∷ NoBuffer ∷ []) ≡ at (Done 0xffff000c 0) range kept
  pub stays_untagged : calls (Write 2 0 4) untagged (brought six ∷ done ∷ done ∷ replied 0xffff0008 0 ∷ [])
      ≡ at (Done 0xffff0008 0) range untagged
  -- no data: a read asks for nothing in either format; what is written has its tag and its header behind it
  pub empty_read : calls (Read 2 0 4) (after_it 0 0) [] ≡ at (Done 0 0) range (after_it 0 0)
  pub empty_untagged_read : calls (Read 2 0 4) ((2, object 7 0 0) ∷ []) [] ≡ at (Done 0 0) range ((2, object 7 0 0) ∷ [])
  pub first_tag : writes (tagged 7 0 0) right (done ∷ []) ≡ at (Ask (FsWrite 7 12 32) right) range (after_it 0 0)
  pub first_header : writes (tagged 7 0 0) right (done ∷ done ∷ []) ≡ at (Ask (FsWrite 7 0 8) (header_of 4)) range (after_it 0 0)
  pub first_written : writes (tagged 7 0 0) right (done ∷ done ∷ done ∷ []) ≡ at (Done 0 0) range (after_it 4 4)
  pub untagged_written : writes (object 7 0 0) right (done ∷ done ∷ done ∷ []) ≡ at (Done 0 0) range (after_it 4 4)
  -- a write that ends before an object of format 1 does writes the header, though the length stays
  pub same_length : writes (object 7 6 1) right (done ∷ done ∷ []) ≡ at (Ask (FsWrite 7 0 8) (header_of 6)) range ((2, object 7 6 1) ∷ [])
  -- a seek past the data leaves the position, so what is written then goes over the data; one to the end, behind them
  pub seek_past : calls (Seek 2 7) kept [] ≡ at (Done 0xffff0006 0) range kept
  pub seek_to_the_end : calls (Seek 2 6) kept [] ≡ at (Done 0 0) range (after_it 6 6)
  pub append_begins : calls (Write 2 0 4) (after_it 6 6) [] ≡ at (Ask (FsRead 7 8 6) []) range (after_it 6 6)
  pub append_bytes : writes (tagged 7 6 6) right [] ≡ at (Ask (FsWrite 7 14 4) range) range (after_it 6 6)
  pub append_tag : writes (tagged 7 6 6) right (done ∷ []) ≡ at (Ask (FsWrite 7 18 32) right) range (after_it 6 6)
  pub append_header : writes (tagged 7 6 6) right (done ∷ done ∷ []) ≡ at (Ask (FsWrite 7 0 8) (header_of 10)) range (after_it 6 6)
  pub appended : writes (tagged 7 6 6) right (done ∷ done ∷ done ∷ []) ≡ at (Done 0 0) range (after_it 10 10)
  -- new data: behind all of the old, one byte within, and where there were none
  pub tag_of_appended : new_tag key (tagged 7 6 6) six range
      ≡ tag_of key file 10 (1 ∷ 2 ∷ 3 ∷ 4 ∷ 5 ∷ 6 ∷ 60 ∷ 61 ∷ 62 ∷ 63 ∷ [])
  pub tag_of_one_byte : new_tag key (tagged 7 6 1) six (60 ∷ []) ≡ tag_of key file 6 (1 ∷ 60 ∷ 3 ∷ 4 ∷ 5 ∷ 6 ∷ [])
  pub tag_of_first : new_tag key (tagged 7 0 0) [] range ≡ tag_of key file 4 range
  -- data of 3,585 bytes: a read of the last two asks for a full piece and one byte, and stores one of each
  pub rest_asked : calls (Read 2 0 2) (after_it 3585 3583) (brought (replicate 3584 1) ∷ [])
      ≡ at (Ask (FsRead 7 3592 1) []) (1 ∷ 61 ∷ 62 ∷ 63 ∷ []) (after_it 3585 3583)
  pub tag_behind_both : calls (Read 2 0 2) (after_it 3585 3583) (brought (replicate 3584 1) ∷ brought (2 ∷ []) ∷ [])
      ≡ at (Ask (FsRead 7 3593 32) []) (1 ∷ 2 ∷ 62 ∷ 63 ∷ []) (after_it 3585 3583)
