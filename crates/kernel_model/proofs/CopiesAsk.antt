-- What the copying of parameters asks for lies in RAM.
use Rattle.std.proofs.Common.{ℕ, suc, List, [], ◌∷◌, Option, Some, None, Ok, Err}
use Rattle.std.specs.Prelude.{◌+◌, ◌-◌, ◌%◌, ◌==◌, nat_lt}
use Rattle.std.specs.Option.{option_map_or}
use Rattle.base.specs.NumberMap.{NumberMap, get}
use Rattle.kernel_model.proofs.Asking.{AsksRam, asks_done, asks_if, asks_on, asks_taken, asks_walk, passes_on, passes_so}
use Rattle.kernel_model.proofs.Asking.{reads_so}
use Rattle.kernel_model.proofs.Copied.{ArePieces, AreOfRam, HaveGoodPages, Passed}
use Rattle.kernel_model.proofs.Copied.{named as named_of_ram, registered as registered_of_ram}
use Rattle.msg_args.specs.declared.kind.ParamKind.{ParamKind}
use Rattle.msg_args.specs.declared.kind.ParamKind.TheVariants.{Empty as NoParam, ValueIn, ValueOut, ValueInout, RmemIn}
use Rattle.msg_args.specs.declared.kind.ParamKind.TheVariants.{RmemOut, RmemInout, TmemIn, TmemOut, TmemInout}
use Rattle.msg_args.specs.declared.param.MsgParam.{MsgParam}
use Rattle.ns_ram.specs.Attempt.{Attempt, refuses}
use Rattle.ns_ram.specs.Lane.{is_in_ram}
use Rattle.ns_ram.specs.Pages.{Walk, walk}
use Rattle.ns_ram.specs.Reader.{take_bytes}
use Rattle.param_copy.specs.Copying.{bytes_of, copied_as, copied_param, copied_params, copies, copying, memory}
use Rattle.param_copy.specs.Memory.{chained_pieces, contiguous_pieces, cut_at_pages, part_of_buffer, registered_pieces}
use Rattle.param_copy.specs.Memory.{rmem_pieces, take_pieces, tmem_pieces, within_limit}
use Rattle.param_copy.specs.declared.fault.CopyFault.{CopyFault}
use Rattle.param_copy.specs.declared.fault.CopyFault.TheVariants.{Cookie}
use Rattle.shm_registry.specs.Pieces.{page_count}
use Rattle.shm_registry.specs.declared.page_buffer.PageBuffer.{PageBuffer}
use Rattle.shm_registry.specs.declared.piece.Piece.{Piece}
use Rattle.ta_params.specs.declared.copied_params.Way.{Way}
use Rattle.ta_params.specs.declared.copied_params.Way.TheVariants.{In, Out, Inout}

-- ---- the pieces of one parameter

limited : (number : ℕ) (param : MsgParam) (located : Attempt CopyFault (List Piece)) → AsksRam located
    → AsksRam (within_limit number param located)
limited number param located gives = asks_if (nat_lt 65536 param.q) _ located (λ long. asks_done _)
    (λ short. gives)

chained : (number : ℕ) (param : MsgParam) → AsksRam (chained_pieces number param)
chained number param =
    asks_on (walk (param.p - param.p % 4096) (page_count (param.p % 4096) param.q)) (cut_at_pages number param)
    (asks_walk (param.p - param.p % 4096) (page_count (param.p % 4096) param.q)) cut
  where
    cut : (walked : Walk) → AsksRam (cut_at_pages number param walked)
    cut (Ok pages) = asks_done _
    cut (Err page) = asks_done _

contiguous : (number : ℕ) (param : MsgParam) → AsksRam (contiguous_pieces number param)
contiguous number param = asks_if (is_in_ram param.p param.q) _ _ (λ inside. asks_done _)
    (λ outside. asks_done _)

registered : (buffers : NumberMap PageBuffer) (number : ℕ) (param : MsgParam) → AsksRam (rmem_pieces buffers number param)
registered buffers number param =
    limited number param (registered_pieces buffers number param) (found (get buffers param.s))
  where
    found : (o : Option PageBuffer) → AsksRam (option_map_or (part_of_buffer number param) o (refuses (Cookie number)))
    found None = asks_done _
    found (Some buffer) = asks_if (nat_lt buffer.size (param.p + param.q)) _ _ (λ outside. asks_done _)
        (λ inside. asks_done _)

named : (number : ℕ) (param : MsgParam) → AsksRam (tmem_pieces number param)
named number param =
    asks_if param.noncontig _ _
    (λ lists. limited number param (chained_pieces number param) (chained number param))
    (λ plain. asks_if (param.p == 0) _ _ (λ null. asks_done _)
    (λ some. limited number param (contiguous_pieces number param) (contiguous number param)))

-- ---- one parameter

pieces_taken : (pieces : List Piece) → AreOfRam pieces → AsksRam (take_pieces pieces)
pieces_taken [] all = asks_done []
pieces_taken (piece ∷ pieces) all =
    asks_on (take_bytes piece.addr piece.len) _ (asks_taken piece.addr piece.len all.0) (λ bytes.
    asks_on (take_pieces pieces) _ (pieces_taken pieces all.1) (λ others. asks_done _))

bytes_taken : (way : Way) (pieces : List Piece) → AreOfRam pieces → AsksRam (bytes_of way pieces)
bytes_taken Out pieces all = asks_done _
bytes_taken In pieces all = pieces_taken pieces all
bytes_taken Inout pieces all = pieces_taken pieces all

module _ (number : ℕ) where
  memory_copied : (P : List Piece → Type 0) (way : Way) (cookie : Option ℕ)
      (located : Attempt CopyFault (List Piece)) → AsksRam located → Passed P located
      → ((pieces : List Piece) → P pieces → AreOfRam pieces) → AsksRam (memory number way cookie located)
  memory_copied P way cookie located asks all of_ram =
      passes_so P located _ asks all (λ pieces holds.
      passes_on _ _ (reads_so (bytes_of way pieces) (bytes_taken way pieces (of_ram pieces holds)))
      (λ bytes. asks_done _))

  module _ (buffers : NumberMap PageBuffer) (param : MsgParam) where
    of_buffer : (way : Way) → HaveGoodPages buffers
        → AsksRam (memory number way (Some param.s) (rmem_pieces buffers number param))
    of_buffer way good =
        memory_copied (ArePieces buffers (Some param.s)) way (Some param.s) _ (registered buffers number param)
        (registered_of_ram buffers number param) (λ pieces fine. fine.1 good)

    at_address : (way : Way) → AsksRam (memory number way None (tmem_pieces number param))
    at_address way = memory_copied AreOfRam way None _ (named number param) (named_of_ram number param)
        (λ pieces fine. fine)

    one_copied : (kind : ParamKind) → HaveGoodPages buffers → AsksRam (copied_as kind buffers number param)
    one_copied NoParam good = asks_done _
    one_copied ValueIn good = asks_done _
    one_copied ValueOut good = asks_done _
    one_copied ValueInout good = asks_done _
    one_copied RmemIn good = of_buffer In good
    one_copied RmemOut good = of_buffer Out good
    one_copied RmemInout good = of_buffer Inout good
    one_copied TmemIn good = at_address In
    one_copied TmemOut good = at_address Out
    one_copied TmemInout good = at_address Inout

-- ---- all of them

all_copied : (buffers : NumberMap PageBuffer) (number : ℕ) (params : List MsgParam) → HaveGoodPages buffers
    → AsksRam (copied_params buffers number params)
all_copied buffers number [] good = asks_done _
all_copied buffers number (param ∷ params) good =
    passes_on (copied_param buffers number param) _ (one_copied number buffers param param.kind good)
    (λ copy.
    passes_on (copied_params buffers (suc number) params) _ (all_copied buffers (suc number) params good)
    (λ others. asks_done _))

pub asks_copies : (buffers : NumberMap PageBuffer) (params : List MsgParam) (first : ℕ) → HaveGoodPages buffers
    → AsksRam (copying buffers params first)
asks_copies buffers params first good =
    passes_on (copied_params buffers first params) _ (all_copied buffers first params good)
    (λ all. asks_done (Ok (copies all)))
