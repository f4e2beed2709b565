-- Writes to a lane, one after the other.
use Rattle.std.proofs.Common.{◌≡◌, ℕ, zero, suc, ◌+◌, ◌<◌, ◌≤◌, Bool, true, false, nat_le, List, [], ◌∷◌, length, take, drop, get_or, Some, refl, ◌∙◌, cond, arith}
use Rattle.std.proofs.lemmas.List.{length-take}
use Rattle.std.proofs.Math.Seq.{drop-cons}
use Rattle.std.specs.Prelude.{slice_get}
use Rattle.std.specs.List.{AllByRecursion}
use Rattle.msg_args.specs.Layout.{param_place, q_at}
use Rattle.ns_ram.specs.Lane.{IsInRam}
use Rattle.ns_ram.specs.Writes.{IsWriteOfRam, lane_after}
use Rattle.ns_ram.proofs.WriteList.{AllInRam-append, lane_after-append}
use Rattle.shm_registry.specs.declared.piece.Piece.{Piece}
use Rattle.shm_registry.specs.Pieces.{IsPieceOfRam}
use Rattle.ta_params.specs.declared.copied_params.Way.TheVariants.{In, Out, Inout}
use Rattle.ta_params.specs.declared.copied_params.GpParam.{GpParam}
use Rattle.ta_params.specs.declared.copied_params.GpParam.TheVariants.{Empty, Value, Memref}
use Rattle.param_copy.specs.declared.copied.Place.{Place}
use Rattle.param_copy.specs.Places.{IsWritable}
use Rattle.param_copy.specs.WritingBack.{bytes_to, memory_to, param_writes, values_to, word_to, writes_of}

-- ---- bytes into pieces

-- so far the pieces before this index are written, and these bytes are left
pub record PiecesPut (pieces : List Piece) (bytes before : List ℕ) (index : ℕ) (left lane : List ℕ) : Type 0 where
  pub whole : lane_after before (bytes_to pieces bytes) ≡ lane_after lane (bytes_to (drop index pieces) left)
  pub in_ram : AllByRecursion IsPieceOfRam (drop index pieces)

-- ---- one parameter after the other

-- so far the parameters before this index are written
pub record PlacesPut (arg : ℕ) (places : List Place) (params : List GpParam) (before : List ℕ) (index : ℕ) (lane : List ℕ) : Type 0 where
  pub whole : lane_after before (writes_of arg places params) ≡ lane_after lane (writes_of arg (drop index places) (drop index params))
  pub writable : AllByRecursion (IsWritable arg) (drop index places)

drop-slice_get : {A : Type 0} (xs : List A) (index : ℕ) (x : A) → slice_get xs index ≡ Some x → drop index xs ≡ x ∷ drop (suc index) xs
drop-slice_get [] zero x e = absurd (cc)
drop-slice_get [] (suc index) x e = absurd (cc)
drop-slice_get (y ∷ xs) zero x e = let same : y ≡ x = cc in rw same refl
drop-slice_get (y ∷ xs) (suc index) x e = drop-slice_get xs index x e

pub PlacesPut-next : (arg : ℕ) (places : List Place) (params : List GpParam) (before : List ℕ) (index : ℕ) (lane : List ℕ) (place d : Place) (param : GpParam) (after : List ℕ) →
    PlacesPut arg places params before index lane → index < length places → place ≡ get_or places index d → slice_get params index ≡ Some param →
    after ≡ lane_after lane (param_writes arg place param) → PlacesPut arg places params before (index + 1) after
PlacesPut-next arg places params before index lane place d param after p inside e f put =
    let one_more : index + 1 ≡ suc index = omega arith in
    let here : drop index places ≡ place ∷ drop (suc index) places = rw e (drop-cons places index d inside) in
    let there : drop index params ≡ param ∷ drop (suc index) params = drop-slice_get params index param f in
    let all : AllByRecursion (IsWritable arg) (place ∷ drop (suc index) places) = rw here at p.writable in
    rw (one_more, put)
    record {
      whole = p.whole ∙ rw (here, there) (lane_after-append lane (param_writes arg place param) (writes_of arg (drop (suc index) places) (drop (suc index) params)));
      writable = all.1;
    }

-- ---- where the writes lie

bytes_to-in_ram : (pieces : List Piece) (bytes : List ℕ) → AllByRecursion IsPieceOfRam pieces → AllByRecursion IsWriteOfRam (bytes_to pieces bytes)
bytes_to-in_ram [] [] h = tt
bytes_to-in_ram (piece ∷ pieces) [] h = tt
bytes_to-in_ram [] (byte ∷ bytes) h = tt
bytes_to-in_ram (piece ∷ pieces) (byte ∷ bytes) h =
    let inside : IsPieceOfRam piece = h.0 in
    let len : length (take piece.len (byte ∷ bytes)) ≤ piece.len = omega (arith, length-take piece.len (byte ∷ bytes)) in
    ((inside.0, omega arith), bytes_to-in_ram pieces (drop piece.len (byte ∷ bytes)) h.1)

word-in_ram : (addr offset number : ℕ) → IsInRam addr 32 → offset ≤ 24 → IsWriteOfRam (word_to (addr + offset) number)
word-in_ram addr offset number h few = (omega (arith, h.0), omega (arith, h.1))

values-in_ram : (arg : ℕ) (place : Place) (a b : ℕ) → IsWritable arg place → AllByRecursion IsWriteOfRam (values_to arg place a b)
values-in_ram arg place a b w =
    let addr : ℕ = param_place arg place.number in
    (word-in_ram addr 8 a w.argument (omega arith), (word-in_ram addr 16 b w.argument (omega arith), tt))

bytes-in_ram : (b : Bool) (pieces : List Piece) (bytes : List ℕ) → AllByRecursion IsPieceOfRam pieces → AllByRecursion IsWriteOfRam (cond b (bytes_to pieces bytes) [])
bytes-in_ram true pieces bytes h = bytes_to-in_ram pieces bytes h
bytes-in_ram false pieces bytes h = tt

memory-in_ram : (arg : ℕ) (place : Place) (bytes : List ℕ) (size : ℕ) → IsWritable arg place →
    AllByRecursion IsWriteOfRam (memory_to (q_at arg place.number) place.pieces bytes size)
memory-in_ram arg place bytes size w = (
  word-in_ram (param_place arg place.number) 16 size w.argument (omega arith),
  bytes-in_ram (nat_le size (length bytes)) place.pieces (take size bytes) w.pieces,
)

param-in_ram : (arg : ℕ) (place : Place) (param : GpParam) → IsWritable arg place → AllByRecursion IsWriteOfRam (param_writes arg place param)
param-in_ram arg place Empty w = tt
param-in_ram arg place (Value In a b) w = tt
param-in_ram arg place (Value Out a b) w = values-in_ram arg place a b w
param-in_ram arg place (Value Inout a b) w = values-in_ram arg place a b w
param-in_ram arg place (Memref In bytes size) w = tt
param-in_ram arg place (Memref Out bytes size) w = memory-in_ram arg place bytes size w
param-in_ram arg place (Memref Inout bytes size) w = memory-in_ram arg place bytes size w

pub writes_of-in_ram : (arg : ℕ) (places : List Place) (params : List GpParam) → AllByRecursion (IsWritable arg) places →
    AllByRecursion IsWriteOfRam (writes_of arg places params)
writes_of-in_ram arg [] params w = tt
writes_of-in_ram arg (place ∷ places) [] w = tt
writes_of-in_ram arg (place ∷ places) (param ∷ params) w =
    AllInRam-append (param_writes arg place param) (writes_of arg places params) (param-in_ram arg place param w.0) (writes_of-in_ram arg places params w.1)
