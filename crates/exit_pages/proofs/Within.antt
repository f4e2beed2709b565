-- Where what is told of a call is written.
use Rattle.std.proofs.Common.{◌≡◌, ℕ, ◌+◌, ◌≤◌, Bool, true, false, not, cond, nat_le, List, [], ◌∷◌, ◌++◌, length, take, drop, Option, Some, None, IsTrue, inl, inr, refl, sym, ap, subst, ◌∙◌, arith}
use Rattle.std.specs.Prelude.{◌==◌, IsSome, if◌then◌else◌}
use Rattle.std.specs.List.{AllByRecursion}
use Rattle.std.proofs.lemmas.List.{length-take}
use Rattle.exit_pages.specs.Covering.{CoversBytes, CoversPiece, CoversPlace}
use Rattle.job_model.specs.declared.call_kind.CallKind.{CallKind}
use Rattle.job_model.specs.declared.call_kind.CallKind.TheVariants as kind
use Rattle.kernel_model.specs.Codes.{success}
use Rattle.kernel_model.specs.Exit.{output_writes, result_writes, session_writes, word32}
use Rattle.kernel_model.specs.Kernel.{PendingCall}
use Rattle.msg_args.specs.Layout.{param_place, q_at}
use Rattle.ns_ram.specs.Lane.{IsInRam}
use Rattle.ns_ram.specs.Writes.{Write}
use Rattle.page_set.specs.Pages.{IsWriteTo}
use Rattle.page_set.proofs.Stays.{write_within}
use Rattle.param_copy.specs.Places.{IsWritable}
use Rattle.param_copy.specs.WritingBack.{bytes_to, memory_to, param_writes, params_of, values_to, word_to, writes_of}
use Rattle.param_copy.specs.declared.copied.Place.{Place}
use Rattle.rpc_msgs.specs.Place.{IsWithin, IsWithinPlaces}
use Rattle.shm_registry.specs.Pieces.{IsPieceOfRam}
use Rattle.shm_registry.specs.declared.piece.Piece.{Piece}
use Rattle.ta_params.specs.declared.call_result.CallResult.{CallResult}
use Rattle.ta_params.specs.declared.copied_params.CopiedParams.{CopiedParams}
use Rattle.ta_params.specs.declared.copied_params.GpParam.{GpParam}
use Rattle.ta_params.specs.declared.copied_params.GpParam.TheVariants.{Empty, Value, Memref}
use Rattle.ta_params.specs.declared.copied_params.Way.TheVariants.{In, Out, Inout}

module _ (pages : List Bool) where
  -- within bytes of RAM
  pub within : (addr len : ℕ) (write : Write) → IsInRam addr len → CoversBytes pages addr len → IsWithin addr len write → IsWriteTo pages write
  within addr len write inside covers lies =
      write_within pages addr len write inside (covers inside) lies.0 lies.1

  pub both : (some others : List Write) → AllByRecursion (IsWriteTo pages) some → AllByRecursion (IsWriteTo pages) others
      → AllByRecursion (IsWriteTo pages) (some ++ others)
  both [] others p q = q
  both (write ∷ some) others p q = (p.0, both some others p.1 q)

  chosen : (test : Bool) (writes : List Write) → AllByRecursion (IsWriteTo pages) writes → AllByRecursion (IsWriteTo pages) (if test then writes else [])
  chosen true writes all = all
  chosen false writes all = tt

  -- ---- parameters

  bytes_in : (pieces : List Piece) (bytes : List ℕ) → AllByRecursion IsPieceOfRam pieces → AllByRecursion (CoversPiece pages) pieces
      → AllByRecursion (IsWriteTo pages) (bytes_to pieces bytes)
  bytes_in [] [] ram covers = tt
  bytes_in (piece ∷ pieces) [] ram covers = tt
  bytes_in [] (byte ∷ bytes) ram covers = tt
  bytes_in (piece ∷ pieces) (byte ∷ bytes) ram covers =
      let few : length (take piece.len (byte ∷ bytes)) ≤ piece.len = omega (arith, length-take piece.len (byte ∷ bytes)) in (
        within piece.addr piece.len (record { addr = piece.addr; bytes = take piece.len (byte ∷ bytes) }) ram.0 covers.0 (omega arith, omega (arith, few)),
        bytes_in pieces (drop piece.len (byte ∷ bytes)) ram.1 covers.1,
      )

  word_in : (addr offset number : ℕ) → IsInRam addr 32 → CoversBytes pages addr 32 → offset ≤ 24 → IsWriteTo pages (word_to (addr + offset) number)
  word_in addr offset number ram covers few = within addr 32 (word_to (addr + offset) number) ram covers (omega arith, omega (arith, few))

  values_in : (arg : ℕ) (place : Place) (a b : ℕ) → IsWritable arg place → CoversPlace arg pages place
      → AllByRecursion (IsWriteTo pages) (values_to arg place a b)
  values_in arg place a b ram covers = (
    word_in (param_place arg place.number) 8 a ram.argument covers.argument (omega arith),
    (word_in (param_place arg place.number) 16 b ram.argument covers.argument (omega arith), tt),
  )

  memory_in : (arg : ℕ) (place : Place) (bytes : List ℕ) (size : ℕ) → IsWritable arg place → CoversPlace arg pages place
      → AllByRecursion (IsWriteTo pages) (memory_to (q_at arg place.number) place.pieces bytes size)
  memory_in arg place bytes size ram covers = (
    word_in (param_place arg place.number) 16 size ram.argument covers.argument (omega arith),
    chosen (nat_le size (length bytes)) (bytes_to place.pieces (take size bytes)) (bytes_in place.pieces (take size bytes) ram.pieces covers.pieces),
  )

  param_in : (arg : ℕ) (place : Place) (param : GpParam) → IsWritable arg place → CoversPlace arg pages place
      → AllByRecursion (IsWriteTo pages) (param_writes arg place param)
  param_in arg place Empty ram covers = tt
  param_in arg place (Value In a b) ram covers = tt
  param_in arg place (Value Out a b) ram covers = values_in arg place a b ram covers
  param_in arg place (Value Inout a b) ram covers = values_in arg place a b ram covers
  param_in arg place (Memref In bytes size) ram covers = tt
  param_in arg place (Memref Out bytes size) ram covers = memory_in arg place bytes size ram covers
  param_in arg place (Memref Inout bytes size) ram covers = memory_in arg place bytes size ram covers

  params_in : (arg : ℕ) (places : List Place) (params : List GpParam) → AllByRecursion (IsWritable arg) places
      → AllByRecursion (CoversPlace arg pages) places → AllByRecursion (IsWriteTo pages) (writes_of arg places params)
  params_in arg [] params ram covers = tt
  params_in arg (place ∷ places) [] ram covers = tt
  params_in arg (place ∷ places) (param ∷ params) ram covers =
      both (param_writes arg place param) (writes_of arg places params) (param_in arg place param ram.0 covers.0)
      (params_in arg places params ram.1 covers.1)

  -- ---- a result

  result_word : (arg offset number : ℕ) → IsInRam arg 32 → CoversBytes pages arg 32 → offset ≤ 28 → IsWriteTo pages (word32 (arg + offset) number)
  result_word arg offset number ram covers few = within arg 32 (word32 (arg + offset) number) ram covers (omega arith, omega (arith, few))

  session_in : (call : PendingCall) (of : CallKind) (result : CallResult) → IsInRam call.arg 32 → CoversBytes pages call.arg 32
      → AllByRecursion (IsWriteTo pages) (session_writes call of result)
  session_in call kind.Open result ram covers =
      chosen (result.result == success) (word32 (call.arg + 8) call.session ∷ [])
      (result_word call.arg 8 call.session ram covers (omega arith), tt)
  session_in call (kind.Invoke func) result ram covers = tt
  session_in call kind.Close result ram covers = tt
  session_in call kind.Settled result ram covers = tt

  pub result_in : (call : PendingCall) (result : CallResult) (params : CopiedParams) → IsInRam call.arg 32
      → AllByRecursion (IsWritable call.arg) call.places → CoversBytes pages call.arg 32 → AllByRecursion (CoversPlace call.arg pages) call.places
      → AllByRecursion (IsWriteTo pages) (result_writes call result params)
  result_in call result params ram places covers covered =
      let outputs = output_writes call result params in
      let session = session_writes call call.kind result in
      let last = word32 (call.arg + 20) result.result ∷ word32 (call.arg + 24) result.origin ∷ [] in
      both (outputs ++ session) last
      (both outputs session
      (chosen (result.origin == 4) (writes_of call.arg call.places (params_of params)) (params_in call.arg call.places (params_of params) places covered))
      (session_in call call.kind result ram covers))
      (result_word call.arg 20 result.result ram covers (omega arith), (result_word call.arg 24 result.origin ram covers (omega arith), tt))

  -- ---- a request

  -- within its places
  within_places : (at : ℕ) (buffer : Option (ℕ × ℕ)) (write : Write) → IsInRam at 160 → CoversBytes pages at 160
      → ((there : ℕ × ℕ) → buffer ≡ Some there → IsInRam there.0 4096 × CoversBytes pages there.0 4096) → IsWithinPlaces at buffer write
      → IsWriteTo pages write
  within_places at None write ram covers buffers lies = within at 160 write ram covers lies
  within_places at (Some there) write ram covers buffers lies = elim lies [
    | inl argument ↦ within at 160 write ram covers argument
    | inr payload ↦ within there.0 4096 write (buffers there refl).0 (buffers there refl).1 payload
  ]

  pub all_within : (at : ℕ) (buffer : Option (ℕ × ℕ)) (writes : List Write) → IsInRam at 160 → CoversBytes pages at 160
      → ((there : ℕ × ℕ) → buffer ≡ Some there → IsInRam there.0 4096 × CoversBytes pages there.0 4096)
      → AllByRecursion (IsWithinPlaces at buffer) writes → AllByRecursion (IsWriteTo pages) writes
  all_within at buffer [] ram covers buffers all = tt
  all_within at buffer (write ∷ writes) ram covers buffers all =
      (within_places at buffer write ram covers buffers all.0, all_within at buffer writes ram covers buffers all.1)
