-- The definitions on small inputs: files a and b, of one byte each in their names.
use Rattle.std.specs.Prelude.{◌≡◌, ℕ, List, [], ◌∷◌}
use Rattle.rpc_msgs.specs.declared.rpc.Rpc.{Rpc}
use Rattle.rpc_msgs.specs.declared.rpc.Rpc.TheVariants.{Time, Sleep, FsOpen, FsCreate, FsClose, FsRead, FsWrite, FsRemove}
use Rattle.rpc_msgs.specs.declared.rpc.RpcReply.{RpcReply}
use Rattle.rpc_msgs.specs.Answer.{nothing_read}
use Rattle.supplicant.specs.Files.{Descriptors, Files, file_after, lowest_free}
use Rattle.supplicant.specs.Supplicant.{Storage, answered}

abbrev pub a : List ℕ
a = 97 ∷ []

abbrev pub b : List ℕ
b = 98 ∷ []

-- files and descriptors, and no request for the time
abbrev pub storage : Files → Descriptors → Storage
storage files descriptors = record { files = files; descriptors = descriptors; times = 0 }

-- a is a file of three bytes, open twice; b is open, and its file is gone
abbrev pub some : Storage
some = storage ((a, 1 ∷ 2 ∷ 3 ∷ []) ∷ []) ((0, a) ∷ (1, b) ∷ (3, a) ∷ [])

-- a reply to a request without payload, or with one, and what is there then
abbrev pub Gives : Storage → Rpc → RpcReply → Storage → Type 0
Gives old rpc reply after = answered old rpc [] ≡ record { reply = reply; after = after }

abbrev pub Writes : Storage → Rpc → List ℕ → RpcReply → Storage → Type 0
Writes old rpc payload reply after = answered old rpc payload ≡ record { reply = reply; after = after }

abbrev pub with_ret : ℕ → RpcReply
with_ret ret = record nothing_read { ret = ret }

abbrev pub with_v : ℕ → RpcReply
with_v v = record nothing_read { v = v }

abbrev pub piece_is : ℕ → List ℕ → RpcReply
piece_is size bytes = record nothing_read { size = size; bytes = bytes }

pub record Examples : Type 0 where
  pub first_time : Gives some Time (with_v 0) (record some { times = 1 })
  pub second_time : Gives (record some { times = 1 }) Time (with_v 1) (record some { times = 2 })
  pub sleeps : Gives some (Sleep 9) nothing_read some
  -- by names
  pub creates : Gives (storage [] []) (FsCreate a) (with_v 0) (storage ((a, []) ∷ []) ((0, a) ∷ []))
  pub creates_in_order : Gives (storage ((b, []) ∷ []) []) (FsCreate a) (with_v 0) (storage ((a, []) ∷ (b, []) ∷ []) ((0, a) ∷ []))
  pub is_there : Gives some (FsCreate a) (with_ret 0xffff0003) some
  pub opens_lowest : Gives some (FsOpen a) (with_v 2) (record some { descriptors = (0, a) ∷ (1, b) ∷ (2, a) ∷ (3, a) ∷ [] })
  pub opens_none : Gives some (FsOpen b) (with_ret 0xffff0008) some
  pub creates_again : Gives some (FsCreate b) (with_v 2)
      (storage ((a, 1 ∷ 2 ∷ 3 ∷ []) ∷ (b, []) ∷ []) ((0, a) ∷ (1, b) ∷ (2, b) ∷ (3, a) ∷ []))
  pub removes : Gives some (FsRemove a) nothing_read (record some { files = [] })
  pub removes_none : Gives some (FsRemove b) (with_ret 0xffff0008) some
  -- by descriptors
  pub closes : Gives some (FsClose 0) nothing_read (record some { descriptors = (1, b) ∷ (3, a) ∷ [] })
  pub closes_unknown : Gives some (FsClose 2) (with_ret 0xffff0006) some
  pub closes_gone : Gives some (FsClose 1) (with_ret 0xffff0008) some
  pub reads : Gives some (FsRead 3 1 2) (piece_is 2 (2 ∷ 3 ∷ [])) some
  pub reads_to_the_end : Gives some (FsRead 3 2 8) (piece_is 1 (3 ∷ [])) some
  pub reads_behind_it : Gives some (FsRead 3 4 8) (piece_is 0 []) some
  pub reads_gone : Gives some (FsRead 1 0 8) (with_ret 0xffff0008) some
  pub writes : Writes some (FsWrite 0 1 1) (9 ∷ []) nothing_read (record some { files = (a, 1 ∷ 9 ∷ 3 ∷ []) ∷ [] })
  pub writes_past_the_end : Writes some (FsWrite 0 5 1) (9 ∷ []) nothing_read (record some { files = (a, 1 ∷ 2 ∷ 3 ∷ 0 ∷ 0 ∷ 9 ∷ []) ∷ [] })
  pub writes_too_far : Writes some (FsWrite 0 0xfffff 2) (8 ∷ 9 ∷ []) (with_ret 0xffff0006) some
  pub unknown_first : Writes some (FsWrite 2 0xfffff 2) (8 ∷ 9 ∷ []) (with_ret 0xffff0006) some
  pub gone_first : Writes some (FsWrite 1 0xfffff 2) (8 ∷ 9 ∷ []) (with_ret 0xffff0008) some
  -- parts
  pub lowest_of_none : lowest_free [] ≡ 0
  pub lowest_behind_all : lowest_free ((0, a) ∷ (1, a) ∷ []) ≡ 2
  pub gap : file_after (1 ∷ []) 3 (9 ∷ []) ≡ 1 ∷ 0 ∷ 0 ∷ 9 ∷ []
