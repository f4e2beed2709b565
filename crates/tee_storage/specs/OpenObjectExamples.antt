-- Calls on an open object, answered by hand.
use Rattle.std.specs.Prelude.{◌≡◌, ℕ, List, [], ◌∷◌, Option, Some}
use Rattle.std.specs.Option.{option_map}
use Rattle.base.specs.NumberMap.{NumberMap}
use Rattle.rpc_msgs.specs.declared.rpc.Rpc.TheVariants.{FsClose, FsRead, FsRemove}
use Rattle.rpc_msgs.specs.Answer.{RpcAnswer, Replied, NoBuffer}
use Rattle.ta_params.specs.declared.object_call.ObjectCall.{ObjectCall}
use Rattle.ta_params.specs.declared.object_call.ObjectCall.TheVariants.{Read, Write, Seek, Close, Delete}
use Rattle.tee_storage.specs.declared.handle.Handle.{Handle}
use Rattle.tee_storage.specs.declared.step.StorageStep.TheVariants.{Ask, Done, Panic}
use Rattle.tee_storage.specs.ObjectCalls.{Serving, serving, shown}
use Rattle.tee_storage.specs.ObjectFiles.{Piece, pieces}
use Rattle.tee_storage.specs.OpeningExamples.{application, file, key, object, replied, brought, at}
use Rattle.tee_storage.specs.OpenObjects.{reading}
use Rattle.tee_storage.specs.Program.{now_at, after}

-- an object of ten bytes at its fourth, under the handle 2, and no other
abbrev pub one : NumberMap Handle
one = (2, object 7 10 3) ∷ []

-- the same at another position, and with another length
abbrev pub moved : ℕ → ℕ → NumberMap Handle
moved len position = (2, object 7 len position) ∷ []

-- a call over this range
abbrev pub calls : ObjectCall → List ℕ → List RpcAnswer → Option Serving
calls call range answers = serving call application key range one answers

abbrev pub range : List ℕ
range = 60 ∷ 61 ∷ 62 ∷ 63 ∷ []

abbrev pub piece : ℕ → ℕ → Piece
piece start len = record { start = start; len = len }

-- three bytes in pieces of two and one
abbrev pub two_pieces : List Piece
two_pieces = piece 0 2 ∷ piece 2 1 ∷ []

abbrev pub reads_in_two : List RpcAnswer → Option Serving
reads_in_two answers = option_map shown (after (Some (reading 2 (object 7 10 3) 3 two_pieces (now_at range one))) answers)

pub record OpenObjectExamples : Type 0 where
  -- pieces
  pub one_piece : pieces 3584 ≡ piece 0 3584 ∷ []
  pub one_byte_more : pieces 7169 ≡ piece 0 3584 ∷ piece 3584 3584 ∷ piece 7168 1 ∷ []
  pub no_piece : pieces 0 ≡ []
  -- a read: no more than stands behind the position
  pub read_asked : calls (Read 2 0 4) range [] ≡ at (Ask (FsRead 7 11 4) []) range one
  pub read : calls (Read 2 0 4) range (brought (1 ∷ 2 ∷ 3 ∷ 4 ∷ []) ∷ []) ≡ at (Done 0 4) (1 ∷ 2 ∷ 3 ∷ 4 ∷ []) (moved 10 7)
  pub read_rest : serving (Read 2 0 4) application key range (moved 10 8) [] ≡ at (Ask (FsRead 7 16 2) []) range (moved 10 8)
  pub read_at_end : serving (Read 2 0 4) application key range (moved 10 10) [] ≡ at (Done 0 0) range (moved 10 10)
  pub read_nothing : calls (Read 2 0 0) [] [] ≡ at (Done 0 0) [] one
  pub short_piece : calls (Read 2 0 4) range (brought (1 ∷ 2 ∷ 3 ∷ []) ∷ []) ≡ at (Done 0xf0100001 0) range one
  pub long_piece : calls (Read 2 0 1) (60 ∷ []) (Replied (record { ret = 0; v = 0; w = 0; size = 2; bytes = [] }) ∷ []) ≡ at (Done 0xf0100001 0) (60 ∷ []) one
  -- ret decides before the size
  pub failed_piece : calls (Read 2 0 4) range (replied 0xffff0003 0 ∷ []) ≡ at (Done 0xffff0003 0) range one
  pub second_asked : reads_in_two (brought (1 ∷ 2 ∷ []) ∷ []) ≡ at (Ask (FsRead 7 13 1) []) (1 ∷ 2 ∷ 62 ∷ 63 ∷ []) one
  pub both_read : reads_in_two (brought (1 ∷ 2 ∷ []) ∷ brought (3 ∷ []) ∷ []) ≡ at (Done 0 3) (1 ∷ 2 ∷ 3 ∷ 63 ∷ []) (moved 10 6)
  pub second_failed : reads_in_two (brought (1 ∷ 2 ∷ []) ∷ replied 9 0 ∷ []) ≡ at (Done 0xf0100003 0) (1 ∷ 2 ∷ 62 ∷ 63 ∷ []) one
  pub second_without_buffer : reads_in_two (brought (1 ∷ 2 ∷ []) ∷ NoBuffer ∷ []) ≡ at (Done 0xffff000c 0) (1 ∷ 2 ∷ 62 ∷ 63 ∷ []) one
  -- a seek to the end, and past it
  pub to_the_end : calls (Seek 2 10) [] [] ≡ at (Done 0 0) [] (moved 10 10)
  pub past_the_end : calls (Seek 2 11) [] [] ≡ at (Done 0xffff0006 0) [] one
  -- a close: the handle is given back whatever ret is, but not without a buffer
  pub close_asked : calls (Close 2) [] [] ≡ at (Ask (FsClose 7) []) [] one
  pub closed : calls (Close 2) [] (replied 0 0 ∷ []) ≡ at (Done 0 0) [] []
  pub close_failed : calls (Close 2) [] (replied 5 0 ∷ []) ≡ at (Done 0xf0100003 0) [] []
  pub close_without_buffer : calls (Close 2) [] (NoBuffer ∷ []) ≡ at (Done 0xffff000c 0) [] one
  -- a delete: the ret of the first reply is ignored
  pub delete_asked : calls (Delete 2) [] [] ≡ at (Ask (FsClose 7) []) [] one
  pub remove_asked : calls (Delete 2) [] (replied 5 0 ∷ []) ≡ at (Ask (FsRemove file) file) [] []
  pub deleted : calls (Delete 2) [] (replied 5 0 ∷ replied 0 0 ∷ []) ≡ at (Done 0 0) [] []
  pub remove_failed : calls (Delete 2) [] (replied 0 0 ∷ replied 0xffff0008 0 ∷ []) ≡ at (Done 0xffff0008 0) [] []
  pub delete_without_buffer : calls (Delete 2) [] (NoBuffer ∷ []) ≡ at (Done 0xffff000c 0) [] one
  pub remove_without_buffer : calls (Delete 2) [] (replied 0 0 ∷ NoBuffer ∷ []) ≡ at (Done 0xffff000c 0) [] []
  -- no object is open of the handle
  pub read_unknown : calls (Read 1 0 4) range [] ≡ at (Panic 5) range one
  pub write_unknown : calls (Write 1 0 4) range [] ≡ at (Panic 5) range one
  pub seek_unknown : calls (Seek 8 0) [] [] ≡ at (Panic 5) [] one
  pub close_unknown : calls (Close 3) [] [] ≡ at (Panic 5) [] one
  pub delete_unknown : calls (Delete 0) [] [] ≡ at (Panic 5) [] one
