-- What the kernel copies of the parameters that a client has written: their places are those where the client looks for the outputs,
-- and each buffer has as many bytes as the client's.
use Rattle.std.proofs.Common.{◌≡◌, ℕ, zero, suc, ◌+◌, ◌≤◌, Bool, false, List, [], ◌∷◌, length, map, take, drop, None, Result, Ok, Err, refl, ap, subst, sym, ◌∙◌, arith}
use Rattle.std.specs.Prelude.{◌==◌, if◌then◌else◌, nat_lt}
use Rattle.std.specs.List.{AllByRecursion, flat_map}
use Rattle.std.specs.Simd.{first_chunks}
use Rattle.std.proofs.lemmas.Bool.Decides.{nat_tests}
use Rattle.std.proofs.lemmas.List.{length-append, length-replicate, length-take}
use Rattle.std.proofs.lemmas.Nat.{from_le_bytes-to_le_bytes_8}
use Rattle.base.specs.NumberMap.{NumberMap}
use Rattle.kernel_model.proofs.Parts.{if-both}
use Rattle.msg_args.specs.Reading.{param_at}
use Rattle.msg_args.specs.Spelling.{param_bytes}
use Rattle.msg_args.specs.declared.param.MsgParam.{MsgParam}
use Rattle.ns_ram.specs.Attempt.{Attempt, passes, read, refuses, ◌>>=◌}
use Rattle.ns_ram.specs.Lane.{IsInRam, bytes_at, is_in_ram}
use Rattle.ns_ram.specs.Reader.{done, want_bytes, want_words}
use Rattle.param_copy.specs.Copying.{Copies, bytes_of, copied_param, copied_params, copies, copying, four, memory}
use Rattle.param_copy.specs.Memory.{bytes_in, one_piece}
use Rattle.param_copy.specs.declared.fault.CopyFault.{CopyFault}
use Rattle.param_copy.specs.declared.fault.CopyFault.TheVariants.{Range, TooLong}
use Rattle.param_copy.specs.declared.copied.Place.{Place}
use Rattle.shm_registry.specs.declared.page_buffer.PageBuffer.{PageBuffer}
use Rattle.shm_registry.specs.declared.piece.Piece.{Piece}
use Rattle.ta_params.specs.CopiedParams.{way_bits}
use Rattle.ta_params.specs.declared.copied_params.CopiedParams.{CopiedParams}
use Rattle.ta_params.specs.declared.copied_params.GpParam.{GpParam}
use Rattle.ta_params.specs.declared.copied_params.GpParam.TheVariants.{Empty, Memref, Value}
use Rattle.ta_params.specs.declared.copied_params.Way.{Way}
use Rattle.ta_params.specs.declared.copied_params.Way.TheVariants.{In, Inout, Out}
use Rattle.ta_step.specs.Shape.{shape, shapes}
use Rattle.teec.specs.Operation.{FitsItsPlace, IsSendable, Sends, param_sent, params_of, params_sent, sent_from}
use Rattle.teec.specs.Places.{memory_at}
use Rattle.teec.specs.declared.operation.Operation.{Operation}
use Rattle.client_play.proofs.Bringing.{Brought}
use Rattle.client_play.proofs.LaneReads.{length_there}
use Rattle.client_play.proofs.NewCalls.{OnLane}
use Rattle.client_play.proofs.OutputsTold.{places_for}

-- ---- one step of an attempt after the other

-- what holds of the one's value, and then of the other's; what holds of its refusal stays
pub on_then : {F A B : Type 0} (lane : List ℕ) (P : Result A F → Type 0) (Q : Result B F → Type 0) (first : Attempt F A)
    (onward : A → Attempt F B) → OnLane lane P first → ((value : A) → P (Ok value) → OnLane lane Q (onward value))
    → ((refusal : F) → P (Err refusal) → Q (Err refusal)) → OnLane lane Q (first >>= onward)
on_then lane P Q (done (Ok value)) onward holds rest refused = rest value holds
on_then lane P Q (done (Err refusal)) onward holds rest refused = refused refusal holds
on_then lane P Q (want_bytes addr len next) onward holds rest refused =
    on_then lane P Q (next (bytes_at lane addr len)) onward holds rest refused
on_then lane P Q (want_words addr most test next) onward holds rest refused = λ got. on_then lane P Q (next got) onward (holds got) rest refused

-- it holds of the value, if there is one
abbrev pub IfPassed : {F A : Type 0} → (A → Type 0) → Result A F → Type 0
IfPassed P (Ok value) = P value
IfPassed P (Err refusal) = Unit {0}

-- ---- the pieces of memory

-- of memory at an address that isn't null, by its size
abbrev located : ℕ → ℕ → ℕ → Attempt CopyFault (List Piece)
located place p q =
    if p == 0 then passes []
    else (if nat_lt 65536 q then refuses (TooLong place)
    else (if is_in_ram p q then passes (one_piece p q) else refuses (Range place)))

located_then : {B : Type 0} (lane : List ℕ) (place number len : ℕ) (Q : Result B CopyFault → Type 0)
    (onward : List Piece → Attempt CopyFault B) → OnLane lane Q (onward (one_piece (memory_at number) len))
    → ((fault : CopyFault) → Q (Err fault)) → OnLane lane Q (located place (memory_at number) len >>= onward)
located_then lane place number len Q onward holds refused =
    let other : (memory_at number == 0) ≡ false = grind (arith, nat_tests) in
    let in_ram = if is_in_ram (memory_at number) len then passes (one_piece (memory_at number) len) else refuses (Range place) in
    let limited = if nat_lt 65536 len then refuses (TooLong place) else in_ram in
    subst (λ (null : Bool). OnLane lane Q ((if null then passes [] else limited) >>= onward)) (sym other)
    (if-both (λ (found : Attempt CopyFault (List Piece)). OnLane lane Q (found >>= onward)) (nat_lt 65536 len) (refuses (TooLong place)) in_ram
    (refused (TooLong place))
    (if-both (λ (found : Attempt CopyFault (List Piece)). OnLane lane Q (found >>= onward)) (is_in_ram (memory_at number) len)
    (passes (one_piece (memory_at number) len)) (refuses (Range place)) holds (refused (Range place))))

piece_size : (addr len : ℕ) → bytes_in (one_piece addr len) ≡ len
piece_size addr zero = refl
piece_size addr (suc more) = omega arith

-- as many bytes are copied
bytes_there : (lane : List ℕ) (addr len : ℕ) → 0x400000 ≤ length lane → IsInRam addr len → (way : Way)
    → OnLane lane (IfPassed {F = CopyFault} (λ (bytes : List ℕ). length bytes ≡ len)) (read (bytes_of way (one_piece addr len)))
bytes_there lane addr len whole inside Out = length-replicate (bytes_in (one_piece addr len)) 0 ∙ piece_size addr len
bytes_there lane addr zero whole inside In = refl
bytes_there lane addr zero whole inside Inout = refl
bytes_there lane addr (suc more) whole inside In =
    omega (arith, length-append (bytes_at lane addr (suc more)) [], length_there lane addr (suc more) whole inside)
bytes_there lane addr (suc more) whole inside Inout =
    omega (arith, length-append (bytes_at lane addr (suc more)) [], length_there lane addr (suc more) whole inside)

-- ---- one parameter

-- copies are in the client's places, with the client's shapes
abbrev AreCopiesAt : ℕ → ℕ → List GpParam → Copies → Type 0
AreCopiesAt place number params copied = (copied.places ≡ places_for place number params) × (shapes copied.params ≡ shapes (four params))

-- as the kernel reads it back
abbrev read_back : MsgParam → MsgParam
read_back param = param_at (param_bytes param)

module _ (lane : List ℕ) (whole : 0x400000 ≤ length lane) (buffers : NumberMap PageBuffer) where
  memory_there : (place number : ℕ) (way : Way) (buf : List ℕ) (size : ℕ) → number ≤ 3 → length buf ≤ 65536
      → OnLane lane (IfPassed (λ copy. AreCopiesAt place number (Memref way buf size ∷ []) (copies (copy ∷ []))))
      (memory place way None (located place (memory_at number) (length buf)))
  memory_there place number way buf size few short =
      let len = length buf in
      let inside : IsInRam (memory_at number) len = (omega arith, omega (arith, few, short)) in
      located_then lane place number len (IfPassed (λ copy. AreCopiesAt place number (Memref way buf size ∷ []) (copies (copy ∷ [])))) _
      (on_then lane (IfPassed (λ (bytes : List ℕ). length bytes ≡ len))
      (IfPassed (λ copy. AreCopiesAt place number (Memref way buf size ∷ []) (copies (copy ∷ []))))
      (read (bytes_of way (one_piece (memory_at number) len))) _ (bytes_there lane (memory_at number) len whole inside way)
      (λ bytes many. (refl, ap (λ (n : ℕ). (4 + way_bits way, n) ∷ (0, 0) ∷ (0, 0) ∷ (0, 0) ∷ []) many)) (λ fault none. tt))
      (λ fault. tt)

  -- the numbers of memory as they are read back
  p_again : (number : ℕ) (way : Way) (buf : List ℕ) (size : ℕ) → number ≤ 3
      → (read_back (param_sent number (Memref way buf size))).p ≡ memory_at number
  p_again number way buf size few = from_le_bytes-to_le_bytes_8 (memory_at number) (omega (arith, few))

  q_again : (number : ℕ) (way : Way) (buf : List ℕ) (size : ℕ) → length buf ≤ 65536
      → (read_back (param_sent number (Memref way buf size))).q ≡ length buf
  q_again number way buf size short = from_le_bytes-to_le_bytes_8 (length buf) (omega (arith, short))

  -- with these
  memory_again : (place number : ℕ) (way : Way) (buf : List ℕ) (size : ℕ) → number ≤ 3 → length buf ≤ 65536
      → OnLane lane (IfPassed (λ copy. AreCopiesAt place number (Memref way buf size ∷ []) (copies (copy ∷ []))))
      (memory place way None (located place (read_back (param_sent number (Memref way buf size))).p
      (read_back (param_sent number (Memref way buf size))).q))
  memory_again place number way buf size few short =
      subst (λ (p : ℕ). OnLane lane (IfPassed (λ copy. AreCopiesAt place number (Memref way buf size ∷ []) (copies (copy ∷ []))))
      (memory place way None (located place p (read_back (param_sent number (Memref way buf size))).q)))
      (sym (p_again number way buf size few))
      (subst (λ (q : ℕ). OnLane lane (IfPassed (λ copy. AreCopiesAt place number (Memref way buf size ∷ []) (copies (copy ∷ []))))
      (memory place way None (located place (memory_at number) q))) (sym (q_again number way buf size short))
      (memory_there place number way buf size few short))

  one_there : (place number : ℕ) (param : GpParam) → number ≤ 3 → FitsItsPlace param
      → OnLane lane (IfPassed (λ copy. AreCopiesAt place number (param ∷ []) (copies (copy ∷ []))))
      (copied_param buffers place (read_back (param_sent number param)))
  one_there place number Empty few fits = (refl, refl)
  one_there place number (Value In a b) few fits = (refl, refl)
  one_there place number (Value Out a b) few fits = (refl, refl)
  one_there place number (Value Inout a b) few fits = (refl, refl)
  one_there place number (Memref In buf size) few fits = memory_again place number In buf size few fits.0
  one_there place number (Memref Out buf size) few fits = memory_again place number Out buf size few fits.0
  one_there place number (Memref Inout buf size) few fits = memory_again place number Inout buf size few fits.0

  -- ---- all of them

  -- the pieces in which they are read
  abbrev pieces_of : List MsgParam → List (List ℕ)
  pieces_of params = first_chunks 32 (length params) (flat_map param_bytes params)

  -- one more in front
  places_joined : (p q : Place) (ps qs : List Place) → p ∷ [] ≡ q ∷ [] → ps ≡ qs → p ∷ ps ≡ q ∷ qs
  places_joined p q ps qs one others = let same : p ≡ q = cc in λ i. same i ∷ others i

  shapes_joined : (p q a b c d e f g h : ℕ × ℕ) → p ∷ (0, 0) ∷ (0, 0) ∷ (0, 0) ∷ [] ≡ q ∷ (0, 0) ∷ (0, 0) ∷ (0, 0) ∷ []
      → a ∷ b ∷ c ∷ d ∷ [] ≡ e ∷ f ∷ g ∷ h ∷ [] → p ∷ a ∷ b ∷ c ∷ [] ≡ q ∷ e ∷ f ∷ g ∷ []
  shapes_joined p q a b c d e f g h one others =
      let first : p ≡ q = cc in
      let second : a ≡ e = cc in
      let third : b ≡ f = cc in
      let fourth : c ≡ g = cc in
      λ i. first i ∷ second i ∷ third i ∷ fourth i ∷ []

  all_there : (place number : ℕ) (params : List GpParam) → number + length params ≤ 4 → AllByRecursion FitsItsPlace params
      → OnLane lane (IfPassed (λ all. AreCopiesAt place number params (copies all)))
      (copied_params buffers place (map param_at (pieces_of (sent_from number params))))
  all_there place number [] few fits = (refl, refl)
  all_there place number (param ∷ params) few fits =
      on_then lane (IfPassed (λ copy. AreCopiesAt place number (param ∷ []) (copies (copy ∷ []))))
      (IfPassed (λ all. AreCopiesAt place number (param ∷ params) (copies all)))
      (copied_param buffers place (read_back (param_sent number param))) _
      (one_there place number param (omega (arith, few)) fits.0)
      (λ copy is.
      on_then lane (IfPassed (λ all. AreCopiesAt (suc place) (suc number) params (copies all)))
      (IfPassed (λ all. AreCopiesAt place number (param ∷ params) (copies all)))
      (copied_params buffers (suc place) (map param_at (pieces_of (sent_from (suc number) params)))) _
      (all_there (suc place) (suc number) params (omega (arith, few)) fits.1)
      (λ others are. (
        places_joined _ _ _ _ is.0 are.0,
        shapes_joined _ _ _ _ _ _ _ _ _ _ is.1 are.1,
      )) (λ fault none. tt))
      (λ fault none. tt)

-- ---- the four of a call

-- those that aren't sent are empty
sent_shapes : (params : CopiedParams) (sent : ℕ) → sent ≤ 4
    → AllByRecursion (λ (param : GpParam). param ≡ Empty) (drop sent (params_of params))
    → shapes (four (take sent (params_of params))) ≡ shapes params
sent_shapes params zero few none =
    λ i. shape (sym none.0 i) ∷ shape (sym none.1.0 i) ∷ shape (sym none.1.1.0 i) ∷ shape (sym none.1.1.1.0 i) ∷ []
sent_shapes params (suc zero) few none =
    λ i. shape params.p0 ∷ shape (sym none.0 i) ∷ shape (sym none.1.0 i) ∷ shape (sym none.1.1.0 i) ∷ []
sent_shapes params (suc (suc zero)) few none =
    λ i. shape params.p0 ∷ shape params.p1 ∷ shape (sym none.0 i) ∷ shape (sym none.1.0 i) ∷ []
sent_shapes params (suc (suc (suc zero))) few none =
    λ i. shape params.p0 ∷ shape params.p1 ∷ shape params.p2 ∷ shape (sym none.0 i) ∷ []
sent_shapes params (suc (suc (suc (suc zero)))) few none = refl
sent_shapes params (suc (suc (suc (suc (suc more))))) few none = absurd (omega (arith, few))

-- so many fit, too
fits_front : (sent : ℕ) (params : List GpParam) → AllByRecursion FitsItsPlace params → AllByRecursion FitsItsPlace (take sent params)
fits_front zero params fits = tt
fits_front (suc sent) [] fits = tt
fits_front (suc sent) (param ∷ params) fits = (fits.0, fits_front sent params fits.1)

-- what a call of an operation has brought along, whose parameters the argument has behind so many others
abbrev pub brought_by : ℕ → Operation → ℕ → Brought
brought_by before op sent = record { places = places_for before 0 (take sent (params_of op.params)); shapes = shapes op.params }

abbrev pub AreCopies : Brought → Copies → Type 0
AreCopies b copied = (copied.places ≡ b.places) × (shapes copied.params ≡ b.shapes)

pub copying_there : (lane : List ℕ) → 0x400000 ≤ length lane → (buffers : NumberMap PageBuffer) (before : ℕ) (op : Operation) (sent : ℕ)
    → IsSendable op → Sends op sent
    → OnLane lane (IfPassed (AreCopies (brought_by before op sent)))
    (copying buffers (map param_at (first_chunks 32 (length (params_sent op sent)) (flat_map param_bytes (params_sent op sent)))) before)
copying_there lane whole buffers before op sent sendable sends =
    let front = take sent (params_of op.params) in
    let few = sends.at_most_four in
    let Q = IfPassed {F = CopyFault} (AreCopies (brought_by before op sent)) in
    on_then lane (IfPassed (λ all. AreCopiesAt before 0 front (copies all))) Q
    (copied_params buffers before (map param_at (first_chunks 32 (length (params_sent op sent)) (flat_map param_bytes (params_sent op sent)))))
    (λ all. passes (copies all))
    (all_there lane whole buffers before 0 front (front_few sent (params_of op.params) few) (fits_front sent (params_of op.params) sendable))
    (λ all are. (are.0, are.1 ∙ sent_shapes op.params sent few sends.others_empty))
    (λ fault none. tt)
  where
    front_few : (sent : ℕ) (params : List GpParam) → sent ≤ 4 → 0 + length (take sent params) ≤ 4
    front_few sent params few = let len = length-take sent params in omega (arith, len, few)
