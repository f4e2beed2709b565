-- The bytes of pieces, read piece by piece.
use Rattle.std.proofs.Common.{◌≡◌, ℕ, suc, ◌+◌, ◌<◌, List, [], ◌∷◌, ◌++◌, length, drop, get_or, Option, Some, None, refl, sym, ◌∙◌, ap, arith, append_assoc, append-nil, length-append}
use Rattle.std.proofs.lemmas.List.Sums.{sum_by-cons}
use Rattle.std.proofs.Math.Seq.{drop-cons, drop-length}
use Rattle.std.specs.List.{AllByRecursion}
use Rattle.std.specs.Option.{option_and_then}
use Rattle.ns_ram.specs.declared.read.Read.{Read}
use Rattle.ns_ram.specs.Pages.{AppendsReads}
use Rattle.ns_ram.specs.Reader.{Reader, done, ◌>>=◌, over_lane, take_bytes}
use Rattle.ns_ram.proofs.PageWalk.{AppendsReads-step}
use Rattle.ns_ram.proofs.ReaderLaws.{over_lane-bind}
use Rattle.shm_registry.specs.declared.piece.Piece.{Piece}
use Rattle.shm_registry.specs.Pieces.{IsPieceOfRam}
use Rattle.param_copy.specs.Memory.{bytes_in, take_pieces}
use Rattle.param_copy.proofs.Appended.{AppendsReads-none}

-- these bytes, and then what the reader gives
abbrev pub behind : List ℕ → Reader (List ℕ) → Reader (List ℕ)
behind bytes reader = reader >>= (λ others. done (bytes ++ others))

pub onward : {A B : Type 0} (reader : Reader A) (next : A → Reader B) (lane : List ℕ) (before between : List Read) (value : A) →
    over_lane reader lane before ≡ Some (value, between) →
    over_lane (reader >>= next) lane before ≡ over_lane (next value) lane between
onward reader next lane before between value p = rw (over_lane-bind reader next lane before, p) refl

-- some bytes in front of what was read
abbrev prefixed : List ℕ → Option (List ℕ × List Read) → Option (List ℕ × List Read)
prefixed bytes o = option_and_then (λ step. Some (bytes ++ step.0, step.1)) o

same_value : (o : Option (List ℕ × List Read)) → prefixed [] o ≡ o
same_value None = refl
same_value (Some (bytes, reads)) = refl

behind-none : (reader : Reader (List ℕ)) (lane : List ℕ) (reads : List Read) →
    over_lane (behind [] reader) lane reads ≡ over_lane reader lane reads
behind-none reader lane reads = over_lane-bind reader (λ others. done ([] ++ others)) lane reads ∙ same_value (over_lane reader lane reads)

moved : (bytes part : List ℕ) (o : Option (List ℕ × List Read)) →
    prefixed bytes (prefixed part o) ≡ prefixed (bytes ++ part) o
moved bytes part None = refl
moved bytes part (Some (others, reads)) = rw (append_assoc bytes part others) refl

-- a part joins the bytes that stand in front
behind-part : (bytes part : List ℕ) (reader : Reader (List ℕ)) (lane : List ℕ) (reads : List Read) →
    over_lane (behind bytes (behind part reader)) lane reads ≡ over_lane (behind (bytes ++ part) reader) lane reads
behind-part bytes part reader lane reads =
    over_lane-bind (behind part reader) (λ others. done (bytes ++ others)) lane reads
    ∙ ap (prefixed bytes) (over_lane-bind reader (λ others. done (part ++ others)) lane reads)
    ∙ moved bytes part (over_lane reader lane reads)
    ∙ sym (over_lane-bind reader (λ others. done ((bytes ++ part) ++ others)) lane reads)

-- so far these bytes were read, and the pieces from this index on are left
pub record PiecesTaken (pieces : List Piece) (lane : List ℕ) (before : List Read) (index : ℕ) (bytes : List ℕ) (reads : List Read) : Type 0 where
  pub whole : over_lane (take_pieces pieces) lane before ≡ over_lane (behind bytes (take_pieces (drop index pieces))) lane reads
  pub added : AppendsReads lane before reads
  pub count : length bytes + bytes_in (drop index pieces) ≡ bytes_in pieces
  pub in_ram : AllByRecursion IsPieceOfRam (drop index pieces)

pub PiecesTaken-none : (pieces : List Piece) (lane : List ℕ) (before : List Read) → AllByRecursion IsPieceOfRam pieces →
    PiecesTaken pieces lane before 0 [] before
PiecesTaken-none pieces lane before h = record {
  whole = sym (behind-none (take_pieces pieces) lane before);
  added = AppendsReads-none lane before;
  count = omega arith;
  in_ram = h;
}

-- the next piece lies in RAM
pub PiecesTaken-in_ram : (pieces : List Piece) (lane : List ℕ) (before : List Read) (index : ℕ) (bytes : List ℕ) (reads : List Read) (piece d : Piece) →
    PiecesTaken pieces lane before index bytes reads → index < length pieces → piece ≡ get_or pieces index d → IsPieceOfRam piece
PiecesTaken-in_ram pieces lane before index bytes reads piece d t inside e =
    let left = drop-cons pieces index d inside in
    let all : AllByRecursion IsPieceOfRam (get_or pieces index d ∷ drop (suc index) pieces) = rw left at t.in_ram in
    rw e all.0

pub PiecesTaken-next : (pieces : List Piece) (lane : List ℕ) (before : List Read) (index : ℕ) (bytes : List ℕ) (reads after : List Read) (piece d : Piece) (part : List ℕ) →
    PiecesTaken pieces lane before index bytes reads → index < length pieces → piece ≡ get_or pieces index d → length part ≡ piece.len →
    over_lane (take_bytes piece.addr piece.len) lane reads ≡ Some (part, after) → PiecesTaken pieces lane before (index + 1) (bytes ++ part) after
PiecesTaken-next pieces lane before index bytes reads after piece d part t inside e len taken =
    let left : drop index pieces ≡ piece ∷ drop (suc index) pieces = rw e (drop-cons pieces index d inside) in
    let one_more : index + 1 ≡ suc index = omega arith in
    let all : AllByRecursion IsPieceOfRam (piece ∷ drop (suc index) pieces) = rw left at t.in_ram in
    let count : length bytes + bytes_in (piece ∷ drop (suc index) pieces) ≡ bytes_in pieces = rw left at t.count in
    let first = sum_by-cons (λ (p : Piece). p.len) piece (drop (suc index) pieces) in
    rw one_more
    record {
      whole =
          t.whole
          ∙ ap (λ ps. over_lane (behind bytes (take_pieces ps)) lane reads) left
          ∙ onward (take_bytes piece.addr piece.len) (λ got. behind bytes (behind got (take_pieces (drop (suc index) pieces)))) lane reads after part taken
          ∙ behind-part bytes part (take_pieces (drop (suc index) pieces)) lane after;
      added = AppendsReads-step (take_bytes piece.addr piece.len) lane before reads after part t.added taken;
      count = omega (arith, count, first, length-append bytes part, len);
      in_ram = all.1;
    }

pub PiecesTaken-all : (pieces : List Piece) (lane : List ℕ) (before : List Read) (bytes : List ℕ) (reads : List Read) →
    PiecesTaken pieces lane before (length pieces) bytes reads → over_lane (take_pieces pieces) lane before ≡ Some (bytes, reads)
PiecesTaken-all pieces lane before bytes reads t =
    t.whole ∙ rw (drop-length pieces, append-nil bytes) refl

pub PiecesTaken-len : (pieces : List Piece) (lane : List ℕ) (before : List Read) (bytes : List ℕ) (reads : List Read) →
    PiecesTaken pieces lane before (length pieces) bytes reads → length bytes ≡ bytes_in pieces
PiecesTaken-len pieces lane before bytes reads t =
    let count : length bytes + 0 ≡ bytes_in pieces = rw (drop-length pieces) at t.count in omega arith
