-- Steps of a reader that may find a fault, over a lane.
use Rattle.std.proofs.Common.{◌≡◌, ℕ, List, length, Option, Some, Ok, Err, Result, IfErr, sym, subst, ◌∙◌}
use Rattle.std.specs.Result.{IsErrAnd}
use Rattle.ns_ram.specs.declared.read.Read.{Read}
use Rattle.ns_ram.specs.Attempt.{Attempt, passes, read, after_pass, ◌>>=◌}
use Rattle.ns_ram.specs.Reader.{over_lane}
use Rattle.shm_registry.specs.declared.piece.Piece.{Piece}
use Rattle.ta_params.specs.declared.copied_params.Way.{Way}
use Rattle.ta_params.specs.declared.copied_params.GpParam.TheVariants.{Memref}
use Rattle.param_copy.specs.declared.fault.CopyFault.{CopyFault}
use Rattle.param_copy.specs.declared.fault.CopyFault.TheVariants.{TooLong, Cookie, Range, Page, Memory}
use Rattle.param_copy.specs.Copying.{bytes_of, memory}
use Rattle.param_copy.specs.Outcome.{UnlessMemory}
use Rattle.param_copy.proofs.PieceReads.{onward}

pub UnlessMemory-map : (fault : CopyFault) {P Q : Type 0} → (P → Q) → UnlessMemory fault P → UnlessMemory fault Q
UnlessMemory-map (TooLong number) f p = f p
UnlessMemory-map (Cookie number) f p = f p
UnlessMemory-map (Range number) f p = f p
UnlessMemory-map (Page number page) f p = f p
UnlessMemory-map Memory f p = tt

-- what a `?` hands on
pub refused-is : {A : Type 0} (answer : Result A CopyFault) (fault : CopyFault) (P : CopyFault → Type 0) →
    IsErrAnd answer (λ given. given ≡ fault) → P fault → IfErr answer P
refused-is (Ok value) fault P h p = tt
refused-is (Err given) fault P h p = subst P (sym h) p

-- after a value it goes on
pub attempt-onward : {A B : Type 0} (first : Attempt CopyFault A) (next : A → Attempt CopyFault B) (lane : List ℕ) (before between : List Read) (value : A) →
    over_lane first lane before ≡ Some (Ok value, between) →
    over_lane (first >>= next) lane before ≡ over_lane (next value) lane between
attempt-onward first next lane before between value e = onward first (after_pass next) lane before between (Ok value) e

-- with a fault it ends
pub attempt-refused : {A B : Type 0} (first : Attempt CopyFault A) (next : A → Attempt CopyFault B) (lane : List ℕ) (before between : List Read) (fault : CopyFault) →
    over_lane first lane before ≡ Some (Err fault, between) →
    over_lane (first >>= next) lane before ≡ Some (Err fault, between)
attempt-refused first next lane before between fault e = onward first (after_pass next) lane before between (Err fault) e

-- the bytes behind the pieces
pub memory-taken : (number : ℕ) (way : Way) (cookie : Option ℕ) (located : Attempt CopyFault (List Piece)) (lane : List ℕ)
    (before between after : List Read) (pieces : List Piece) (bytes : List ℕ) →
    over_lane located lane before ≡ Some (Ok pieces, between) →
    over_lane (bytes_of way pieces) lane between ≡ Some (bytes, after) →
    over_lane (memory number way cookie located) lane before
    ≡ Some (Ok (record { param = Memref way bytes (length bytes); place = record { number = number; pieces = pieces }; cookie = cookie }), after)
memory-taken number way cookie located lane before between after pieces bytes found taken =
    let taken_in : over_lane (read (bytes_of way pieces)) lane between ≡ Some (Ok bytes, after) =
    onward (bytes_of way pieces) passes lane between after bytes taken in
    attempt-onward located _ lane before between pieces found
    ∙ attempt-onward (read (bytes_of way pieces)) _ lane between after bytes taken_in

pub memory-refused : (number : ℕ) (way : Way) (cookie : Option ℕ) (located : Attempt CopyFault (List Piece)) (lane : List ℕ)
    (before between : List Read) (fault : CopyFault) →
    over_lane located lane before ≡ Some (Err fault, between) →
    over_lane (memory number way cookie located) lane before ≡ Some (Err fault, between)
memory-refused number way cookie located lane before between fault e = attempt-refused located _ lane before between fault e
